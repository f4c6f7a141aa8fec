-- The two dates of an address, and the earlier of them.
use Rattle.std.proofs.Common.{◌≡◌, ℕ, ◌<◌, List, [], ◌∷◌, length, get_or, Some, None, sym, subst, arith, suc, zero, inl, inr}
use Rattle.nd_table.specs.DueKept.{NotBefore}
use Rattle.nd_table.proofs.Due.{AtMost, AtMost-left, AtMost-right, AtMost-same, head_none, lesser_is, NotBefore-left, NotBefore-right}
use Rattle.nd_slaac.specs.AddressKept.{Address}
use Rattle.nd_slaac.specs.Dates.{end_date, next_step, earlier, first_at, next_in, NoneBefore}

pub at_most_end : (n : ℕ) (a : Address) → end_date a ≡ Some n → AtMost (earlier a) n
at_most_end n a e = AtMost-left (end_date a) (next_step a) n (AtMost-same (end_date a) n e)

pub at_most_step : (n : ℕ) (a : Address) → next_step a ≡ Some n → AtMost (earlier a) n
at_most_step n a e = AtMost-right (end_date a) (next_step a) n (AtMost-same (next_step a) n e)

-- where the least date is now, something is due now
pub next_not_now : (now : ℕ) (xs : List Address) → next_in xs ≡ Some now → first_at end_date now xs ≡ None → first_at next_step now xs ≡ None → ⊥
next_not_now now [] h ends steps = cc
next_not_now now (x ∷ xs) h ends steps =
    let e = head_none end_date now x xs ends in
    let s = head_none next_step now x xs steps in
    elim (lesser_is (earlier x) (next_in xs) now h) [
      | inl here ↦ elim (lesser_is (end_date x) (next_step x) now here) [ inl f ↦ e.0 f | inr f ↦ s.0 f ]
      | inr f ↦ next_not_now now xs f e.1 s.1
    ]

pub NoneBefore-at : (now : ℕ) (xs : List Address) (i : ℕ) (a : Address) → NoneBefore xs now → i < length xs → a ≡ get_or xs i a → NotBefore now (end_date a)
NoneBefore-at now [] i a h lt is = absurd (omega arith)
NoneBefore-at now (x ∷ xs) zero a h lt is =
    subst (λ (y : Address). NotBefore now (end_date y)) (sym is) (NotBefore-left now (end_date x) (next_step x) (NotBefore-left now (earlier x) (next_in xs) h))
NoneBefore-at now (x ∷ xs) (suc i) a h lt is = NoneBefore-at now xs i a (NotBefore-right now (earlier x) (next_in xs) h) (omega arith) is
