-- What a look-up has found.
use Rattle.std.proofs.Common.{◌≡◌, ℕ, ◌<◌, Bool, true, false, cond, List, [], ◌∷◌, refl, length, get_or, set, Option, Some, None, sym, ◌∙◌, ap, subst, arith, suc, zero}
use Rattle.std.specs.Prelude.{slice_get, is_some, ◌&&◌, not}
use Rattle.std.proofs.lemmas.Option.{slice_get-get_or}
use Rattle.nd_neighbour.specs.EntryKept.{NeighbourEntry, Stage, Resolving, Known, released, is_wanted, known_mac, waiting_in}
use Rattle.nd_neighbour.specs.TableKept.{entry_in, place_in, Alters, There}
use Rattle.nd_neighbour.specs.PlaceKept.{Gives, Was, Came, NoPlace, Places}
use Rattle.nd_neighbour.specs.NewsKept.{told_released, told_turned, was_known, was_wanted}
use Rattle.nd_neighbour.specs.Removal.{Removes, Gone, waiting_at}
use Rattle.std.specs.List.{insert, remove}
use Rattle.std.proofs.lemmas.Bool.{true≢false}

pub found_is : (key : ℕ) (ns : List NeighbourEntry) (i : ℕ) (n : NeighbourEntry) → i < length ns → n ≡ get_or ns i n → entry_in key ns ≡ slice_get ns i → entry_in key ns ≡ Some n
found_is key ns i n lt is found = found ∙ (slice_get-get_or ns i n lt ∙ ap Some (sym is))

-- what is said of the entry at the place that a look-up has found
module _ (key : ℕ) (change : NeighbourEntry → NeighbourEntry) (old seen : List NeighbourEntry) (i : ℕ) (n m : NeighbourEntry) (same : seen ≡ old) (lt : i < length seen) (found : entry_in key seen ≡ slice_get seen i) (is : n ≡ get_or old i n) (new_is : m ≡ change n) where
  pub within : i < length old
  within = subst (λ (l : List NeighbourEntry). i < length l) same lt

  pub there : entry_in key old ≡ Some n
  there = found_is key old i n within is (subst (λ (l : List NeighbourEntry). entry_in key l ≡ slice_get l i) same found)

  pub alters : Alters key change old (set old i m)
  alters = There i n within is there (ap (set old i) new_is)

  pub releases : (packets : List (List ℕ)) → packets ≡ released n m → packets ≡ told_released change (entry_in key old)
  releases packets e = e ∙ (ap (released n) new_is ∙ sym (ap (told_released change) there))

  pub knew : (known : Bool) → known ≡ is_some (known_mac n.stage) → known ≡ was_known (entry_in key old)
  knew known e = e ∙ sym (ap was_known there)

  pub wished_for : (wanted : Bool) → wanted ≡ is_wanted n.stage → wanted ≡ was_wanted (entry_in key old)
  wished_for wanted e = e ∙ sym (ap was_wanted there)

  pub turns : (turned : Bool) → turned ≡ (n.router && not m.router) → turned ≡ told_turned change (entry_in key old)
  turns turned e = e ∙ (ap (λ (x : NeighbourEntry). n.router && not x.router) new_is ∙ sym (ap (told_turned change) there))

-- a mark releases nothing
pub nothing_by : (k : Stage) → cond (is_some (known_mac k)) (waiting_in k) [] ≡ []
nothing_by (Resolving retrans sent wanted waiting) = refl
nothing_by (Known mac confirmed since probing) = refl

pub some_is : (o : Option NeighbourEntry) → is_some o ≡ true → (n : NeighbourEntry) × (o ≡ Some n)
some_is None h = absurd (true≢false (sym h))
some_is (Some n) h = (n, refl)

pub none_is : (o : Option NeighbourEntry) → is_some o ≡ false → o ≡ None
none_is None h = refl
none_is (Some n) h = absurd (true≢false h)

some_at : (ns : List NeighbourEntry) (i : ℕ) → i < length ns → (n : NeighbourEntry) × (slice_get ns i ≡ Some n)
some_at [] i lt = absurd (omega arith)
some_at (n ∷ ns) i lt = (get_or (n ∷ ns) i n, slice_get-get_or (n ∷ ns) i n lt)

-- the answers where the neighbour is found at a place
module _ (limit now key : ℕ) (old seen : List NeighbourEntry) (i : ℕ) (same : seen ≡ old) (lt : i < length seen) (found : entry_in key seen ≡ slice_get seen i) where
  the_entry : (n : NeighbourEntry) × (entry_in key old ≡ Some n)
  the_entry = let n = some_at seen i lt in (n.0, sym (ap (entry_in key) same) ∙ (found ∙ n.1))

  pub holding : is_some (entry_in key old) ≡ true
  holding = ap is_some the_entry.1

  pub was_there : (change : NeighbourEntry → NeighbourEntry) (m : NeighbourEntry) (new : List NeighbourEntry) → Alters key change old new → Gives limit now key change m old new
  was_there change m new a = Was the_entry.0 the_entry.1 a

  pub has_place_there : NoPlace limit now key old → ⊥
  has_place_there np = true≢false (sym holding ∙ ap is_some np.0)

  pub not_full : {X : Type 0} → (false ≡ true → X) × (NoPlace limit now key old → false ≡ true)
  not_full = ((λ e. absurd (true≢false (sym e))), λ np. absurd (has_place_there np))

-- and where it isn't
module _ (limit now key : ℕ) (old seen : List NeighbourEntry) (same : seen ≡ old) (absent : entry_in key seen ≡ None) where
  pub not_there : entry_in key old ≡ None
  not_there = sym (ap (entry_in key) same) ∙ absent

  pub came_in : (change : NeighbourEntry → NeighbourEntry) (m e : NeighbourEntry) (mid new : List NeighbourEntry) → e ≡ m → Places limit now old mid → new ≡ insert mid (place_in e.key mid) e → Gives limit now key change m old new
  came_in change m e mid new e_is places is = Came mid not_there places (is ∙ ap (λ (x : NeighbourEntry). insert mid (place_in x.key mid) x) e_is)

-- no ring is in reserve
pub no_rings : (n : ℕ) → (0 < n → false ≡ true) → n ≡ 0
no_rings zero h = refl
no_rings (suc n) h = absurd (true≢false (sym (h (omega arith))))

-- an entry that a look-up has found is taken out
pub taken_out : (key : ℕ) (old seen new : List NeighbourEntry) (i : ℕ) (n : NeighbourEntry) → seen ≡ old → i < length seen → entry_in key seen ≡ slice_get seen i → n ≡ get_or old i n → new ≡ remove old i → Removes key old new
taken_out key old seen new i n same lt found is gone =
    let within : i < length old = subst (λ (l : List NeighbourEntry). i < length l) same lt in
    Gone i n within is (found_is key old i n within is (subst (λ (l : List NeighbourEntry). entry_in key l ≡ slice_get l i) same found)) gone

pub taken_waits : (key : ℕ) (old seen : List NeighbourEntry) (i : ℕ) (n : NeighbourEntry) (packets : List (List ℕ)) → seen ≡ old → i < length seen → entry_in key seen ≡ slice_get seen i → n ≡ get_or old i n → packets ≡ waiting_in n.stage → packets ≡ waiting_at (entry_in key old)
taken_waits key old seen i n packets same lt found is p =
    let within : i < length old = subst (λ (l : List NeighbourEntry). i < length l) same lt in
    p ∙ sym (ap waiting_at (found_is key old i n within is (subst (λ (l : List NeighbourEntry). entry_in key l ≡ slice_get l i) same found)))
