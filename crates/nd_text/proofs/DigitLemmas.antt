-- The digits of a group, place by place.
use Rattle.std.proofs.Common.{◌≡◌, ℕ, suc, ◌/◌, ◌%◌, ◌<◌, ◌≤◌, true, false, leb, eqb, List, [], ◌∷◌, ◌++◌, refl, ap, ◌∙◌, arith, inl, inr, append_assoc, length, ◌^◌, lit<}
use Rattle.std.proofs.Math.Nat.{lt_trans}
use Rattle.std.proofs.lemmas.Bool.{cases_lt, le-leb, lt-leb, eq-eqb, ne_eqb}
use Rattle.std.specs.Fmt.{digits, digits_onto, digit_glyph}
use Rattle.std.proofs.lemmas.Fmt.{digits_is_IsNumeral}
use Rattle.std.proofs.lemmas.List.{length-append}
use Rattle.nd_text.specs.Spelling.{IsGroupText}
use Rattle.nd_text.specs.Digits.{digit_at}

last_digit : (k n : ℕ) (behind : List ℕ) → n < 16 → digits_onto (suc k) 16 false n behind ≡ digit_glyph false (n % 16) ∷ behind
last_digit k n behind small = let none : eqb (n / 16) 0 ≡ true = eq-eqb _ _ (omega arith) in rw none refl

next_digit : (k n : ℕ) (behind : List ℕ) → 16 ≤ n → digits_onto (suc k) 16 false n behind ≡ digits_onto k 16 false (n / 16) (digit_glyph false (n % 16) ∷ behind)
next_digit k n behind some = let more : eqb (n / 16) 0 ≡ false = ne_eqb _ _ (λ e. omega arith) in rw more refl

-- the digit at a place
there : (n place m : ℕ) → place ≤ n → n / place % 16 ≡ m → digit_at n place ≡ digit_glyph false m ∷ []
there n place m le e = let test : leb place n ≡ true = le-leb _ _ le in rw test (ap (λ (d : ℕ). digit_glyph false d ∷ []) e)

-- a leading zero
nothing : (n place : ℕ) → n < place → digit_at n place ≡ []
nothing n place lt = let test : leb place n ≡ false = lt-leb _ _ lt in rw test refl

-- with room for at least four digits
by_places : (k n : ℕ) → n < 65536 → digits_onto (suc (suc (suc (suc k)))) 16 false n [] ≡ digit_at n 4096 ++ digit_at n 256 ++ digit_at n 16 ++ digit_glyph false (n % 16) ∷ []
by_places k n small = elim (cases_lt n 16) [
  | inl one ↦ rw (nothing n 4096 (omega arith), nothing n 256 (omega arith), nothing n 16 one) (last_digit (suc (suc (suc k))) n [] one)
  | inr two ↦ next_digit (suc (suc (suc k))) n [] two ∙ elim (cases_lt n 256) [
    | inl below ↦ rw (nothing n 4096 (omega arith), nothing n 256 below, there n 16 (n / 16 % 16) two refl) (last_digit (suc (suc k)) (n / 16) (digit_glyph false (n % 16) ∷ []) (omega arith))
    | inr three ↦ next_digit (suc (suc k)) (n / 16) (digit_glyph false (n % 16) ∷ []) (omega arith) ∙ elim (cases_lt n 4096) [
      | inl below ↦ rw (nothing n 4096 below, there n 256 (n / 16 / 16 % 16) three (omega arith), there n 16 (n / 16 % 16) two refl) (last_digit (suc k) (n / 16 / 16) (digit_glyph false (n / 16 % 16) ∷ digit_glyph false (n % 16) ∷ []) (omega arith))
      | inr four ↦ rw (there n 4096 (n / 16 / 16 / 16 % 16) four (omega arith), there n 256 (n / 16 / 16 % 16) three (omega arith), there n 16 (n / 16 % 16) two refl)
          (next_digit (suc k) (n / 16 / 16) (digit_glyph false (n / 16 % 16) ∷ digit_glyph false (n % 16) ∷ []) (omega arith)
          ∙ last_digit k (n / 16 / 16 / 16) (digit_glyph false (n / 16 / 16 % 16) ∷ digit_glyph false (n / 16 % 16) ∷ digit_glyph false (n % 16) ∷ []) (omega arith))
    ]
  ]
]

digits_of_group : (n : ℕ) → n < 65536 → digits 16 false n ≡ digit_at n 4096 ++ digit_at n 256 ++ digit_at n 16 ++ digit_glyph false (n % 16) ∷ []
unfolding digits
digits_of_group n small = by_room 64 60 refl
  where
    by_room : (m k : ℕ) → m ≡ suc (suc (suc (suc k))) → digits_onto m 16 false n [] ≡ digit_at n 4096 ++ digit_at n 256 ++ digit_at n 16 ++ digit_glyph false (n % 16) ∷ []
    by_room m k e = ap (λ (r : ℕ). digits_onto r 16 false n []) e ∙ by_places k n small

-- what four writes made of a text
pub after_digits : (n : ℕ) (before one two three after : List ℕ) → n < 65536 → one ≡ before ++ digit_at n 4096 → two ≡ one ++ digit_at n 256 → three ≡ two ++ digit_at n 16
    → after ≡ three ++ digit_glyph false (n % 16) ∷ [] → after ≡ before ++ digits 16 false n
after_digits n before one two three after small a b c d =
    let all : after ≡ (((before ++ digit_at n 4096) ++ digit_at n 256) ++ digit_at n 16) ++ digit_glyph false (n % 16) ∷ [] = cc in
    all ∙ rw (digits_of_group n small) (simp append_assoc)

-- a group has one to four digits, and they are its value
digit_at_most : (n place : ℕ) → length (digit_at n place) ≤ 1
digit_at_most n place = elim (cases_lt n place) [
  | inl lt ↦ rw (nothing n place lt) (omega arith)
  | inr le ↦ rw (there n place (n / place % 16) le refl) (omega arith)
]

pub group_is_spelled : (n : ℕ) → n < 65536 → IsGroupText (digits 16 false n) n
group_is_spelled n small =
    let wide : 65536 < 16 ^ 64 = lit< tt in
    let numeral = digits_is_IsNumeral 16 false (omega arith) (omega arith) n (lt_trans small wide) in
    let len : length (digits 16 false n) ≤ 4 = rw (digits_of_group n small) (omega (arith, digit_at_most n 4096, digit_at_most n 256, digit_at_most n 16, length-append (digit_at n 4096 ++ digit_at n 256 ++ digit_at n 16) (digit_glyph false (n % 16) ∷ []), length-append (digit_at n 4096 ++ digit_at n 256) (digit_at n 16), length-append (digit_at n 4096) (digit_at n 256))) in
    record { numeral = numeral.0; short = len; value = numeral.1 }
