-- Each history of a table has the list that stands for it.
use Rattle.std.proofs.Common.{◌≡◌, ℕ, suc, ◌+◌, ◌≤◌, false, eqb, List, [], ◌∷◌, Some, refl, ap, arith}
use Rattle.std.proofs.lemmas.Bool.Decides.{nat_tests}
use Rattle.nd_neighbour.specs.History as neighbours
use Rattle.nd_neighbour.specs.EntryKept.{NeighbourEntry}
use Rattle.nd_neighbour.specs.StoryKept.{entry_of}
use Rattle.nd_neighbour.specs.TableKept as cache
use Rattle.nd_neighbour.proofs.Steps.{entry_present}
use Rattle.nd_slaac.specs.History as addresses
use Rattle.nd_slaac.specs.AddressKept.{Address, address_of}
use Rattle.nd_slaac.specs.TableKept as own
use Rattle.nd_slaac.proofs.Stories.{was_formed}
use Rattle.nd_existence.proofs.Gathering.{gathered, gathered_rises, gathered_found}

-- ---- the neighbours

-- a number above that of each neighbour
abbrev neighbour_bound : List neighbours.Row → ℕ
neighbour_bound [] = 0
neighbour_bound ((at, key, kind) ∷ history) = suc key + neighbour_bound history

nothing_of_neighbour : (k : ℕ) (history : List neighbours.Row) → neighbour_bound history ≤ k → neighbours.story k history ≡ []
nothing_of_neighbour k [] le = refl
nothing_of_neighbour k ((at, key, kind) ∷ history) le =
    let other : eqb key k ≡ false = grind (arith, nat_tests, le) in
    rw other (nothing_of_neighbour k history (omega (arith, le)))

node_named : (history : List neighbours.Row) (k : ℕ) (n : NeighbourEntry) → entry_of k (neighbours.story k history) ≡ Some n → n.key ≡ k
node_named history k n is = ap (λ (m : NeighbourEntry). m.key) (entry_present k (neighbours.story k history) n is).1

pub nodes_of : List neighbours.Row → List NeighbourEntry
nodes_of history = gathered cache.address (λ k. entry_of k (neighbours.story k history)) 0 (neighbour_bound history)

pub nodes_stand : (history : List neighbours.Row) → cache.Stands (nodes_of history) history
unfolding nodes_of
nodes_stand history = record {
  each = λ k. gathered_found cache.address (λ j. entry_of j (neighbours.story j history)) (node_named history) k 0 (neighbour_bound history) (omega arith)
      (λ far. ap (entry_of k) (nothing_of_neighbour k history (omega (arith, far))));
  order = gathered_rises cache.address (λ j. entry_of j (neighbours.story j history)) (node_named history) 0 (neighbour_bound history);
}

-- ---- the own addresses

abbrev pub address_bound : List addresses.Row → ℕ
address_bound [] = 0
address_bound ((at, key, kind) ∷ history) = suc key + address_bound history

pub nothing_of_address : (k : ℕ) (history : List addresses.Row) → address_bound history ≤ k → addresses.story k history ≡ []
nothing_of_address k [] le = refl
nothing_of_address k ((at, key, kind) ∷ history) le =
    let other : eqb key k ≡ false = grind (arith, nat_tests, le) in
    rw other (nothing_of_address k history (omega (arith, le)))

address_named : (history : List addresses.Row) (k : ℕ) (a : Address) → address_of k (addresses.story k history) ≡ Some a → a.key ≡ k
address_named history k a is = ap own.key_of (was_formed k (addresses.story k history) a is).2

pub addresses_of : List addresses.Row → List Address
addresses_of history = gathered own.key_of (λ k. address_of k (addresses.story k history)) 0 (address_bound history)

pub addresses_stand : (history : List addresses.Row) → own.Stands (addresses_of history) history
unfolding addresses_of
addresses_stand history = record {
  each = λ k. gathered_found own.key_of (λ j. address_of j (addresses.story j history)) (address_named history) k 0 (address_bound history) (omega arith)
      (λ far. ap (address_of k) (nothing_of_address k history (omega (arith, far))));
  order = gathered_rises own.key_of (λ j. address_of j (addresses.story j history)) (address_named history) 0 (address_bound history);
}
