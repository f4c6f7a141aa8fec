-- A list of entries in the order of their numbers, gathered from a function that gives the entry of each number.
use Rattle.std.proofs.Common.{◌≡◌, ℕ, zero, suc, ◌+◌, ◌<◌, ◌≤◌, List, [], ◌∷◌, Option, Some, None, refl, sym, ◌∙◌, subst, arith, inl, inr, eqb}
use Rattle.std.proofs.lemmas.Bool.Decides.{nat_tests}
use Rattle.std.proofs.lemmas.Bool.{cond-true, cond-false, eq-eqb, ne_eqb, cases_Bool, eqb-true}
use Rattle.nd_table.specs.Keyed.{at_key, AllAbove, Rises}
use Rattle.nd_table.proofs.Keyed.{none_above}

abbrev pub put_first : {N : Type 0} → Option N → List N → List N
put_first None ns = ns
put_first (Some n) ns = n ∷ ns

module _ {N : Type 0} (key : N → ℕ) (entry : ℕ → Option N) where
  -- the entries of so many numbers from the lowest on
  abbrev pub gathered : ℕ → ℕ → List N
  gathered low zero = []
  gathered low (suc more) = put_first (entry low) (gathered (suc low) more)

  module _ (named : (k : ℕ) (n : N) → entry k ≡ Some n → key n ≡ k) where
    above_first : (k low : ℕ) (o : Option N) (ns : List N) → entry low ≡ o → k < low → AllAbove key k ns → AllAbove key k (put_first o ns)
    above_first k low None ns is lt h = h
    above_first k low (Some n) ns is lt h = (subst (λ (j : ℕ). k < j) (sym (named low n is)) lt, h)

    above : (k low more : ℕ) → k < low → AllAbove key k (gathered low more)
    above k low zero lt = tt
    above k low (suc more) lt = above_first k low (entry low) (gathered (suc low) more) refl lt (above k (suc low) more (omega (arith, lt)))

    rises_first : (low more : ℕ) (o : Option N) → entry low ≡ o → Rises key (gathered (suc low) more) → Rises key (put_first o (gathered (suc low) more))
    rises_first low more None is r = r
    rises_first low more (Some n) is r = (above (key n) (suc low) more (let e = named low n is in omega (arith, e)), r)

    pub gathered_rises : (low more : ℕ) → Rises key (gathered low more)
    gathered_rises low zero = tt
    gathered_rises low (suc more) = rises_first low more (entry low) refl (gathered_rises (suc low) more)

    found_here : (low more : ℕ) (o : Option N) → entry low ≡ o → at_key key low (put_first o (gathered (suc low) more)) ≡ o
    found_here low more None is = none_above key low (gathered (suc low) more) (above low (suc low) more (omega arith))
    found_here low more (Some n) is = cond-true (eqb (key n) low) (Some n) _ (eq-eqb (key n) low (named low n is))

    found_behind : (k low : ℕ) (o : Option N) (ns : List N) → entry low ≡ o → low < k → at_key key k (put_first o ns) ≡ at_key key k ns
    found_behind k low None ns is lt = refl
    found_behind k low (Some n) ns is lt = cond-false (eqb (key n) k) (Some n) (at_key key k ns) (ne_eqb (key n) k (λ e. let f = named low n is in absurd (omega (arith, e, f, lt))))

    pub gathered_found : (k low more : ℕ) → low ≤ k → (low + more ≤ k → entry k ≡ None) → at_key key k (gathered low more) ≡ entry k
    gathered_found k low zero le none = sym (none (omega (arith, le)))
    gathered_found k low (suc more) le none = elim (cases_Bool (eqb low k)) [
      | inl same ↦
          let e : low ≡ k = eqb-true low k same in
          subst (λ (j : ℕ). at_key key j (gathered low (suc more)) ≡ entry j) e (found_here low more (entry low) refl)
      | inr other ↦
          let lt : low < k = grind (arith, nat_tests, other, le) in
          found_behind k low (entry low) (gathered (suc low) more) refl lt ∙ gathered_found k (suc low) more (omega (arith, lt)) (λ far. none (omega (arith, far)))
    ]
