-- The first word of a text.
use Rattle.std.proofs.Common.{◌≡◌, ℕ, zero, suc, ◌<◌, ◌≤◌, true, false, eqb, List, [], ◌∷◌, length, take, drop, get_or, Some, None, refl, arith}
use Rattle.std.proofs.lemmas.Bool.{eq-eqb, ne_eqb}
use Rattle.std.specs.Str.Parse.{digits_value, digits_value_after}
use Rattle.nd_text.specs.Parsing.{word_of, behind_of, all_digits}

pub first_colon : (i : ℕ) (text : List ℕ) → ((k : ℕ) → k < i → get_or text k 0 ≡ 58 → ⊥) → i < length text → get_or text i 0 ≡ 58
    → (word_of text ≡ take i text) × (behind_of text ≡ Some (drop (suc i) text))
first_colon i [] none lt e = absurd (omega arith)
first_colon zero (b ∷ text) none lt e = let colon : eqb b 58 ≡ true = eq-eqb _ _ e in (rw colon refl, rw colon refl)
first_colon (suc i) (b ∷ text) none lt e =
    let other : eqb b 58 ≡ false = ne_eqb b 58 (none 0 (omega arith)) in
    let later = first_colon i text (λ k less. none (suc k) (omega arith)) (omega arith) e in
    (rw (other, later.0) refl, rw (other, later.1) refl)

pub no_colon : (text : List ℕ) → ((k : ℕ) → k < length text → get_or text k 0 ≡ 58 → ⊥) → (word_of text ≡ text) × (behind_of text ≡ None)
no_colon [] none = (refl, refl)
no_colon (b ∷ text) none =
    let other : eqb b 58 ≡ false = ne_eqb b 58 (none 0 (omega arith)) in
    let later = no_colon text (λ k less. none (suc k) (omega arith)) in
    (rw (other, later.0) refl, rw (other, later.1) refl)

-- what a value of the digits so far is below, where so many digits follow
abbrev pub room : ℕ → ℕ
room zero = 65536
room (suc zero) = 4096
room (suc (suc zero)) = 256
room (suc (suc (suc zero))) = 16
room (suc (suc (suc (suc n)))) = 1

-- the digits that are left decide, and so does their value behind the value so far
pub record IsRead (word : List ℕ) (value : ℕ) (rest : List ℕ) : Type 0 where
  pub value_is : digits_value_after 16 value rest ≡ digits_value 16 word
  pub digits : all_digits rest ≡ all_digits word
  pub small : value < room (length rest)
  pub few : length rest ≤ 4
