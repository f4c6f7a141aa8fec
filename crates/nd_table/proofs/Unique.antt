-- Two lists in the order of their numbers with the same look-ups are one.
use Rattle.std.proofs.Common.{◌≡◌, ℕ, ◌<◌, ◌≤◌, eqb, List, [], ◌∷◌, Option, Some, None, refl, sym, ◌∙◌, ap, arith, ⊎_elim}
use Rattle.std.specs.Prelude.{is_some}
use Rattle.std.proofs.lemmas.Bool.{cond-true, cond-false, eq-eqb, ne_eqb, cases_eq, true≢false}
use Rattle.nd_table.specs.Keyed.{at_key, AllAbove, Rises}
use Rattle.nd_table.proofs.Keyed.{above_in}

module _ {N : Type 0} (key : N → ℕ) where
  abbrev Same : List N → List N → Type 0
  Same ns ms = (k : ℕ) → at_key key k ns ≡ at_key key k ms

  pub head_in : (n : N) (ns : List N) → at_key key (key n) (n ∷ ns) ≡ Some n
  head_in n ns = cond-true (eqb (key n) (key n)) (Some n) (at_key key (key n) ns) (eq-eqb (key n) (key n) refl)

  behind : (n : N) (ns : List N) (k : ℕ) → (key n ≡ k → ⊥) → at_key key k (n ∷ ns) ≡ at_key key k ns
  behind n ns k differ = cond-false (eqb (key n) k) (Some n) (at_key key k ns) (ne_eqb (key n) k differ)

  -- a number that isn't higher than all of a list isn't in it
  lower : (low k : ℕ) (ns : List N) → AllAbove key low ns → k ≤ low → (o : Option N) → at_key key k ns ≡ o → o ≡ None
  lower low k ns h le None is = refl
  lower low k ns h le (Some n) is = absurd (omega (arith, above_in key k low ns n h is))

  -- of two different heads each would be lower than the other
  head_lower : (n m : N) (ns ms : List N) → (key n ≡ key m → ⊥) → AllAbove key (key n) ns → Same (n ∷ ns) (m ∷ ms) → key n < key m
  head_lower n m ns ms differ h same =
      above_in key (key m) (key n) ns m h (sym (behind n ns (key m) differ) ∙ (same (key m) ∙ head_in m ms))

  tails : (n m : N) (ns ms : List N) → key n ≡ key m → AllAbove key (key n) ns → AllAbove key (key m) ms → Same (n ∷ ns) (m ∷ ms) → Same ns ms
  tails n m ns ms e h k same j = ⊎_elim
      (λ at. lower (key n) j ns h (omega (arith, at)) (at_key key j ns) refl ∙ sym (lower (key m) j ms k (omega (arith, at, e)) (at_key key j ms) refl))
      (λ differ. sym (behind n ns j differ) ∙ (same j ∙ behind m ms j (λ at. differ (e ∙ at))))
      (cases_eq (key n) j)

  pub one_list : (ns ms : List N) → Rises key ns → Rises key ms → ((k : ℕ) → at_key key k ns ≡ at_key key k ms) → ns ≡ ms
  one_list [] [] r s same = refl
  one_list [] (m ∷ ms) r s same = absurd (true≢false (ap is_some (sym (head_in m ms) ∙ sym (same (key m)))))
  one_list (n ∷ ns) [] r s same = absurd (true≢false (ap is_some (sym (head_in n ns) ∙ same (key n))))
  one_list (n ∷ ns) (m ∷ ms) r s same = ⊎_elim
      (λ e.
      let head : n ≡ m = let f : Some n ≡ Some m = sym (head_in n ns) ∙ (same (key n) ∙ (ap (λ k. at_key key k (m ∷ ms)) e ∙ head_in m ms)) in cc in
      let rest : ns ≡ ms = one_list ns ms r.1 s.1 (tails n m ns ms e r.0 s.0 same) in
      ap (λ (x : N). x ∷ ns) head ∙ ap (λ (l : List N). m ∷ l) rest)
      (λ differ. absurd (omega (arith, head_lower n m ns ms differ r.0 same, head_lower m n ms ns (λ e. differ (sym e)) s.0 (λ k. sym (same k)))))
      (cases_eq (key n) (key m))
