-- What the slots hold when one is written.
use Rattle.std.proofs.Common.{◌≡◌, ◌≢◌, ◌<◌, ℕ, false, eqb, List, Contains, length, set, sym, ◌∙◌, subst, inl, inr}
use Rattle.std.specs.Prelude.{◌⊎◌}
use Rattle.std.proofs.lemmas.Bool.{cases_Bool, eq-eqb, eqb-true, true≢false}
use Rattle.std.proofs.lemmas.Grind.{get_or-set_at}
use Rattle.std.proofs.lemmas.List.{get_or-set_other, length-set}

told_apart : (k i : ℕ) → eqb k i ≡ false → k ≢ i
told_apart k i other is = true≢false (sym (eq-eqb k i is) ∙ other)

-- what is there after a write was there, or was written
pub there_or_written : {X : Type 0} (xs : List X) (i : ℕ) (y p : X) → i < length xs → Contains (set xs i y) p → Contains xs p ⊎ (p ≡ y)
there_or_written xs i y p lt (k, within, is) = elim (cases_Bool (eqb k i)) [
  | inl same ↦ inr (sym is ∙ get_or-set_at xs i k y p (eqb-true k i same) lt)
  | inr other ↦ inl (k, subst (λ (n : ℕ). k < n) (length-set xs i y) within, sym (get_or-set_other xs i k y p (told_apart k i other)) ∙ is)
]
