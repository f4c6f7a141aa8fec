-- Where the first two colons of a text are.
use Rattle.std.proofs.Common.{◌≡◌, ℕ, zero, suc, ◌+◌, ◌-◌, ◌<◌, ◌≤◌, ◌&&◌, eqb, List, [], ◌∷◌, length, get_or, Some, None, refl, sym, ap, subst, ◌∙◌, arith, inl, inr}
use Rattle.std.specs.Option.{option_map}
use Rattle.std.proofs.lemmas.Bool.{cases_Bool, cases_lt, eq-eqb, eqb-true, and_from, and_parts}
use Rattle.nd_text.specs.Parsing.{gap_at}

-- no two colons of which the second is below a place
abbrev pub HasNoGapBelow : List ℕ → ℕ → Type 0
HasNoGapBelow text i = (k : ℕ) → suc k < i → get_or text k 0 ≡ 58 → get_or text (suc k) 0 ≡ 58 → ⊥

pub gap_here : (a : ℕ) (text : List ℕ) → a ≡ 58 → get_or text 0 0 ≡ 58 → gap_at (a ∷ text) ≡ Some 0
gap_here a text e f = rw (and_from (eqb a 58) (eqb (get_or text 0 0) 58) (eq-eqb _ _ e) (eq-eqb _ _ f)) refl

pub gap_later : (a : ℕ) (text : List ℕ) → (a ≡ 58 → get_or text 0 0 ≡ 58 → ⊥) → gap_at (a ∷ text) ≡ option_map suc (gap_at text)
gap_later a text n = elim (cases_Bool (eqb a 58 && eqb (get_or text 0 0) 58)) [
  | inl both ↦ absurd (let p = and_parts (eqb a 58) (eqb (get_or text 0 0) 58) both in n (eqb-true _ _ p.0) (eqb-true _ _ p.1))
  | inr other ↦ rw other refl
]

-- the first two colons end at a place
pub gap_found : (i : ℕ) (text : List ℕ) → HasNoGapBelow text (suc i) → get_or text i 0 ≡ 58 → get_or text (suc i) 0 ≡ 58 → gap_at text ≡ Some i
gap_found i [] n e f = absurd (omega arith)
gap_found zero (a ∷ text) n e f = gap_here a text e f
gap_found (suc i) (a ∷ text) n e f =
    let later = gap_found i text (λ k lt g h. n (suc k) (omega arith) g h) e f in
    gap_later a text (λ g h. n 0 (omega arith) g h) ∙ ap (option_map suc) later

pub no_gap : (text : List ℕ) → HasNoGapBelow text (length text) → gap_at text ≡ None
no_gap [] n = refl
no_gap (a ∷ []) n = gap_later a [] (λ g h. omega arith)
no_gap (a ∷ b ∷ text) n =
    gap_later a (b ∷ text) (λ g h. n 0 (omega arith) g h) ∙ ap (option_map suc) (no_gap (b ∷ text) (λ k lt g h. n (suc k) (omega arith) g h))

pub no_gap_more : (text : List ℕ) (i : ℕ) → 1 ≤ i → HasNoGapBelow text i → (get_or text (i - 1) 0 ≡ 58 → get_or text i 0 ≡ 58 → ⊥) → HasNoGapBelow text (i + 1)
no_gap_more text i some below here k lt e f = elim (cases_lt (suc k) i) [
  | inl less ↦ below k less e f
  | inr last ↦
      let first : i - 1 ≡ k = omega arith in
      let second : i ≡ suc k = omega arith in
      here (subst (λ (n : ℕ). get_or text n 0 ≡ 58) (sym first) e) (subst (λ (n : ℕ). get_or text n 0 ≡ 58) (sym second) f)
]
