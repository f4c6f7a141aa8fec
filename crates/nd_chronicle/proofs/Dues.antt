-- One thing is due first, and a walk leads to one chronicle.
use Rattle.std.proofs.Common.{◌≡◌, ℕ, List, Option, Some, None, refl, sym, ◌∙◌, ap, subst, arith}
use Rattle.std.proofs.lemmas.Option.{same_Some}
use Rattle.nd_neighbour.specs.Due as neighbours_due
use Rattle.nd_neighbour.proofs.Unique as neighbours
use Rattle.nd_slaac.specs.Due as addresses_due
use Rattle.nd_slaac.proofs.Unique as addresses
use Rattle.nd_routers.specs.Due as routers_due
use Rattle.nd_routers.specs.History.{RouterRow}
use Rattle.nd_chronicle.specs.Start.{Start}
use Rattle.nd_chronicle.specs.Happening.{Chronicle}
use Rattle.nd_chronicle.specs.Histories.{router_history, address_history, neighbour_history}
use Rattle.nd_chronicle.specs.Due.{What, RouterEnds, AddressFalls, NeighbourFalls, RoutersSolicited, RouterAdvertises, Redraws, Due, comes}
use Rattle.nd_chronicle.specs.History.{Walk, over, adds, passes}

-- the answer of each of the three passes that have several
abbrev router_in : Option What → Option ℕ
router_in (Some (RouterEnds key)) = Some key
router_in _ = None

abbrev address_in : Option What → Option addresses_due.Falls
address_in (Some (AddressFalls falls)) = Some falls
address_in _ = None

abbrev neighbour_in : Option What → Option neighbours_due.Falls
neighbour_in (Some (NeighbourFalls falls)) = Some falls
neighbour_in _ = None

one_router : (history : List RouterRow) (m : ℕ) (a b : Option ℕ) → routers_due.FirstDue history m a → routers_due.FirstDue history m b → a ≡ b
one_router history m None None h k = refl
one_router history m None (Some y) h k = absurd (h y k.0)
one_router history m (Some x) None h k = absurd (k x h.0)
one_router history m (Some x) (Some y) h k = ap Some (omega (arith, h.1 y k.0, k.1 x h.0))

module _ (start : Start) (c : Chronicle) (m : ℕ) where
  router_due : (w : Option What) → Due start c m w → routers_due.FirstDue (router_history c) m (router_in w)
  router_due (Some (RouterEnds key)) due = due
  router_due (Some (AddressFalls falls)) due = due.0
  router_due (Some (NeighbourFalls falls)) due = due.0
  router_due (Some RoutersSolicited) due = due.0
  router_due (Some RouterAdvertises) due = due.0
  router_due (Some Redraws) due = due.0
  router_due None due = due.0

  address_due : (w : Option What) → router_in w ≡ None → Due start c m w → addresses_due.FirstDue start.transmits (address_history c) m (address_in w)
  address_due (Some (RouterEnds key)) none due = absurd (let no : ⊥ = cc in no)
  address_due (Some (AddressFalls falls)) none due = due.1
  address_due (Some (NeighbourFalls falls)) none due = due.1
  address_due (Some RoutersSolicited) none due = due.1
  address_due (Some RouterAdvertises) none due = due.1
  address_due (Some Redraws) none due = due.1
  address_due None none due = due.1

  neighbour_due : (w : Option What) → router_in w ≡ None → address_in w ≡ None → Due start c m w → neighbours_due.FirstDue (neighbour_history c) m (neighbour_in w)
  neighbour_due (Some (RouterEnds key)) none none' due = absurd (let no : ⊥ = cc in no)
  neighbour_due (Some (AddressFalls falls)) none none' due = absurd (let no : ⊥ = cc in no)
  neighbour_due (Some (NeighbourFalls falls)) none none' due = due.2
  neighbour_due (Some RoutersSolicited) none none' due = due.2
  neighbour_due (Some RouterAdvertises) none none' due = due.2
  neighbour_due (Some Redraws) none none' due = due.2
  neighbour_due None none none' due = due.2

  -- what the last three passes give, where the others have nothing
  last_three : (a b : Option What) → Due start c m a → Due start c m b → router_in a ≡ None → address_in a ≡ None → neighbour_in a ≡ None
      → router_in b ≡ None → address_in b ≡ None → neighbour_in b ≡ None → a ≡ b
  last_three (Some (RouterEnds x)) b h k r s t u v w = absurd (let no : ⊥ = cc in no)
  last_three (Some (AddressFalls x)) b h k r s t u v w = absurd (let no : ⊥ = cc in no)
  last_three (Some (NeighbourFalls x)) b h k r s t u v w = absurd (let no : ⊥ = cc in no)
  last_three a (Some (RouterEnds x)) h k r s t u v w = absurd (let no : ⊥ = cc in no)
  last_three a (Some (AddressFalls x)) h k r s t u v w = absurd (let no : ⊥ = cc in no)
  last_three a (Some (NeighbourFalls x)) h k r s t u v w = absurd (let no : ⊥ = cc in no)
  last_three (Some RoutersSolicited) (Some RoutersSolicited) h k r s t u v w = refl
  last_three (Some RoutersSolicited) (Some RouterAdvertises) h k r s t u v w = absurd (k.3 h.3)
  last_three (Some RoutersSolicited) (Some Redraws) h k r s t u v w = absurd (k.3 h.3)
  last_three (Some RoutersSolicited) None h k r s t u v w = absurd (k.3 h.3)
  last_three (Some RouterAdvertises) (Some RoutersSolicited) h k r s t u v w = absurd (h.3 k.3)
  last_three (Some RouterAdvertises) (Some RouterAdvertises) h k r s t u v w = refl
  last_three (Some RouterAdvertises) (Some Redraws) h k r s t u v w = absurd (k.4 h.4)
  last_three (Some RouterAdvertises) None h k r s t u v w = absurd (k.4 h.4)
  last_three (Some Redraws) (Some RoutersSolicited) h k r s t u v w = absurd (h.3 k.3)
  last_three (Some Redraws) (Some RouterAdvertises) h k r s t u v w = absurd (h.4 k.4)
  last_three (Some Redraws) (Some Redraws) h k r s t u v w = refl
  last_three (Some Redraws) None h k r s t u v w = absurd (k.5 h.5)
  last_three None (Some RoutersSolicited) h k r s t u v w = absurd (h.3 k.3)
  last_three None (Some RouterAdvertises) h k r s t u v w = absurd (h.4 k.4)
  last_three None (Some Redraws) h k r s t u v w = absurd (h.5 k.5)
  last_three None None h k r s t u v w = refl

  -- the answer of a pass is the whole answer
  router_is : (w : Option What) (key : ℕ) → router_in w ≡ Some key → w ≡ Some (RouterEnds key)
  router_is (Some (RouterEnds x)) key e = cc
  router_is (Some (AddressFalls x)) key e = absurd (let no : ⊥ = cc in no)
  router_is (Some (NeighbourFalls x)) key e = absurd (let no : ⊥ = cc in no)
  router_is (Some RoutersSolicited) key e = absurd (let no : ⊥ = cc in no)
  router_is (Some RouterAdvertises) key e = absurd (let no : ⊥ = cc in no)
  router_is (Some Redraws) key e = absurd (let no : ⊥ = cc in no)
  router_is None key e = absurd (let no : ⊥ = cc in no)

  address_is : (w : Option What) (falls : addresses_due.Falls) → address_in w ≡ Some falls → w ≡ Some (AddressFalls falls)
  address_is (Some (RouterEnds x)) falls e = absurd (let no : ⊥ = cc in no)
  address_is (Some (AddressFalls x)) falls e = cc
  address_is (Some (NeighbourFalls x)) falls e = absurd (let no : ⊥ = cc in no)
  address_is (Some RoutersSolicited) falls e = absurd (let no : ⊥ = cc in no)
  address_is (Some RouterAdvertises) falls e = absurd (let no : ⊥ = cc in no)
  address_is (Some Redraws) falls e = absurd (let no : ⊥ = cc in no)
  address_is None falls e = absurd (let no : ⊥ = cc in no)

  neighbour_is : (w : Option What) (falls : neighbours_due.Falls) → neighbour_in w ≡ Some falls → w ≡ Some (NeighbourFalls falls)
  neighbour_is (Some (RouterEnds x)) falls e = absurd (let no : ⊥ = cc in no)
  neighbour_is (Some (AddressFalls x)) falls e = absurd (let no : ⊥ = cc in no)
  neighbour_is (Some (NeighbourFalls x)) falls e = cc
  neighbour_is (Some RoutersSolicited) falls e = absurd (let no : ⊥ = cc in no)
  neighbour_is (Some RouterAdvertises) falls e = absurd (let no : ⊥ = cc in no)
  neighbour_is (Some Redraws) falls e = absurd (let no : ⊥ = cc in no)
  neighbour_is None falls e = absurd (let no : ⊥ = cc in no)

  module _ (a b : Option What) (h : Due start c m a) (k : Due start c m b) where
    by_neighbour : router_in a ≡ None → router_in b ≡ None → address_in a ≡ None → address_in b ≡ None → (x : Option neighbours_due.Falls)
        → neighbour_in a ≡ x → neighbour_in b ≡ x → a ≡ b
    by_neighbour r r' s s' None e f = last_three a b h k r s e r' s' f
    by_neighbour r r' s s' (Some x) e f = neighbour_is a x e ∙ sym (neighbour_is b x f)

    by_address : router_in a ≡ None → router_in b ≡ None → (x : Option addresses_due.Falls) → address_in a ≡ x → address_in b ≡ x → a ≡ b
    by_address r r' (Some x) e f = address_is a x e ∙ sym (address_is b x f)
    by_address r r' None e f =
        by_neighbour r r' e f (neighbour_in a) refl
        (sym (neighbours.one_due (neighbour_history c) m (neighbour_in a) (neighbour_in b) (neighbour_due a r e h) (neighbour_due b r' f k)))

    by_router : (x : Option ℕ) → router_in a ≡ x → router_in b ≡ x → a ≡ b
    by_router (Some x) e f = router_is a x e ∙ sym (router_is b x f)
    by_router None e f =
        by_address e f (address_in a) refl
        (sym (addresses.one_due start.transmits (address_history c) m (address_in a) (address_in b) (address_due a e h) (address_due b f k)))

  pub one_due : (a b : Option What) → Due start c m a → Due start c m b → a ≡ b
  one_due a b h k =
      by_router a b h k (router_in a) refl (sym (one_router (router_history c) m (router_in a) (router_in b) (router_due a h) (router_due b k)))

pub none_in : (a : What) → Some a ≡ None → ⊥
none_in a h = cc

module _ (start : Start) where
  pub one_walk : {c d e : Chronicle} {m n : ℕ} → Walk start c m n d → Walk start c m n e → d ≡ e
  one_walk (over lt) (over lt') = refl
  one_walk (over lt) (adds x le due w) = absurd (omega arith)
  one_walk (over lt) (passes le due w) = absurd (omega arith)
  one_walk (adds x le due w) (over lt) = absurd (omega arith)
  one_walk (passes le due w) (over lt) = absurd (omega arith)
  one_walk (passes le due w) (passes le' due' w') = one_walk w w'
  one_walk {c = c} {m = m} (adds x le due w) (passes le' due' w') = absurd (none_in x (one_due start c m (Some x) None due due'))
  one_walk {c = c} {m = m} (passes le due w) (adds x le' due' w') = absurd (none_in x (one_due start c m (Some x) None due' due))
  one_walk {c = c} {e = e} {m = m} {n = n} (adds x le due w) (adds y le' due' w') =
      let same : y ≡ x = same_Some y x (one_due start c m (Some y) (Some x) due' due) in
      one_walk w (subst (λ (z : What). Walk start (comes start m z c) m n e) same w')
