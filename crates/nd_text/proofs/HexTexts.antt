-- The digits that the library writes are those of the text.
use Rattle.std.proofs.Common.{◌≡◌, ℕ, suc, ◌-◌, ◌/◌, ◌%◌, ◌<◌, true, false, eqb, List, [], ◌∷◌, ◌++◌, slice_index, refl, ap, ◌∙◌, inl, inr, arith, append_assoc}
use Rattle.std.proofs.lemmas.Bool.{cases_lt, agree_below_at, eqb-true}
use Rattle.std.proofs.lemmas.List.{get_or_past}
use Rattle.std.specs.Fmt.{digit_glyph}
use Rattle.std.specs.Str.{IsAscii}
use Rattle.hex.specs.Hex.{IsBytes, encode_lower, encode_with, lower_digits}
use Rattle.nd_text.specs.Digits.{hex_text}

digit_is : (d : ℕ) → d < 16 → slice_index lower_digits d ≡ digit_glyph false d
digit_is d lt = eqb-true _ _ (agree_below_at (λ k. eqb (slice_index lower_digits k) (digit_glyph false k)) (λ k. true) 16 d refl lt)

pub digits_are_ascii : IsAscii lower_digits
digits_are_ascii i = elim (cases_lt i 16) [
  | inl lt ↦
      let small : slice_index lower_digits i - 127 ≡ 0 = eqb-true _ _ (agree_below_at (λ k. eqb (slice_index lower_digits k - 127) 0) (λ k. true) 16 i refl lt) in
      omega (arith, small)
  | inr ge ↦ let none : slice_index lower_digits i ≡ 0 = get_or_past lower_digits i 0 ge in omega (arith, none)
]

pub encoded_is_text : (bytes : List ℕ) → IsBytes bytes → encode_lower bytes ≡ hex_text bytes
unfolding encode_with
encoded_is_text [] small = refl
encoded_is_text (b ∷ bytes) small =
    let byte : b < 256 = small 0 in
    let high = digit_is (b / 16) (omega arith) in
    let low = digit_is (b % 16) (omega arith) in
    let rest = encoded_is_text bytes (λ k. small (suc k)) in
    rw (high, low, rest) refl

hex_text-append : (a b : List ℕ) → hex_text (a ++ b) ≡ hex_text a ++ hex_text b
hex_text-append [] b = refl
hex_text-append (x ∷ a) b = rw (hex_text-append a b) refl

-- a piece more is written
pub piece_written : (before after_it rest piece after whole : List ℕ) → after_it ≡ before ++ hex_text piece → rest ≡ piece ++ after → before ++ hex_text rest ≡ whole
    → after_it ++ hex_text after ≡ whole
piece_written before after_it rest piece after whole w parts e =
    let both : hex_text rest ≡ hex_text piece ++ hex_text after = ap hex_text parts ∙ hex_text-append piece after in
    rw (w, append_assoc before (hex_text piece) (hex_text after), ← both) e
