-- Questions of which each is answered, one way or the other.
use Rattle.std.proofs.Common.{◌≡◌, ℕ, zero, suc, ◌<◌, Bool, true, false, List, Option, Some, None, refl, ap, subst, arith, ◌⊎◌, inl, inr}
use Rattle.std.proofs.lemmas.Bool.Decides.{nat_tests, eqb_tells}
use Rattle.std.proofs.lemmas.Bool.{true≢false}
use Rattle.std.proofs.lemmas.Option.{same_Some}
use Rattle.nd_addr.specs.Same.{bytes_tell}

-- it holds, or it doesn't
abbrev pub Decided : Type 0 → Type 0
Decided A = A ⊎ (A → ⊥)

-- a date is this moment or isn't
pub dated : (o : Option ℕ) (m : ℕ) → Decided (o ≡ Some m)
dated None m = inr (λ e. let no : ⊥ = cc in no)
dated (Some x) m = elim (eqb_tells x m) [
  | inl e ↦ inl (ap Some e.1)
  | inr d ↦ inr (λ e. d.1 (same_Some x m e))
]

pub either_or : {A B : Type 0} → Decided A → Decided B → Decided (A ⊎ B)
either_or (inl a) b = inl (inl a)
either_or (inr not_a) (inl b) = inl (inr b)
either_or {A} {B} (inr not_a) (inr not_b) = inr none
  where
    none : (A ⊎ B) → ⊥
    none (inl a) = not_a a
    none (inr b) = not_b b

pub both_or : {A B : Type 0} → Decided A → Decided B → Decided (A × B)
both_or (inl a) (inl b) = inl (a, b)
both_or (inl a) (inr not_b) = inr (λ p. not_b p.1)
both_or (inr not_a) b = inr (λ p. not_a p.0)

pub true_or : (b : Bool) → Decided (b ≡ true)
true_or true = inl refl
true_or false = inr (λ e. true≢false (sym' e))
  where
    sym' : false ≡ true → true ≡ false
    sym' e = cc

pub same_or : (a b : List ℕ) → Decided (a ≡ b)
same_or a b = elim (bytes_tell a b) [ inl e ↦ inl e.1 | inr d ↦ inr d.1 ]

pub false_or : (b : Bool) → Decided (b ≡ false)
false_or false = inl refl
false_or true = inr (λ e. true≢false e)

-- a number below a bound has the property, or none has
module _ (P : ℕ → Type 0) (decided : (k : ℕ) → Decided (P k)) where
  pub some_below : (bound : ℕ) → ((k : ℕ) × P k) ⊎ ((k : ℕ) → k < bound → P k → ⊥)
  some_below zero = inr (λ k lt p. absurd (omega (arith, lt)))
  some_below (suc bound) = elim (decided bound) [
    | inl p ↦ inl (bound, p)
    | inr none ↦ elim (some_below bound) [
      | inl p ↦ inl p
      | inr nothing ↦ inr (λ k lt p. elim (eqb_tells k bound) [
        | inl e ↦ none (subst P e.1 p)
        | inr d ↦ nothing k (let other = d.1 in grind (arith, nat_tests, other, lt)) p
      ])
    ]
  ]
