-- What digits spell, step by step, is what the library decodes.
use Rattle.std.proofs.Common.{◌≡◌, ℕ, suc, ◌+◌, ◌-◌, ◌*◌, ◌%◌, ◌<◌, ◌≤◌, List, [], ◌∷◌, length, map, slice_index, Option, Some, None, Ok, unwrap_or, refl, sym, ap, ◌∙◌, subst, inl, inr, arith}
use Rattle.std.proofs.lemmas.Bool.{cases_lt}
use Rattle.std.proofs.lemmas.List.{get_or-map}
use Rattle.std.proofs.lemmas.Simd.{get_or-put_chunk_below, get_or-put_chunk_at, get_or-chunk, length-chunk}
use lib.Lanes.{put_chunk, chunk}
use Rattle.hex.specs.Hex.{decode_of, decode_pairs, digit_or_error, hex_digit_value, pair_value, value_at}
use Rattle.hex.proofs.HexLemmas.{decode_of-even}
use Rattle.hex.proofs.Pairs.{decode_pairs-ok_pair, cons_byte}
use Rattle.nd_text.specs.HexDigits.{value_or_none, AreValues, SpellsByte, SpellsFirst}

-- a value below 128 is that of a digit
pub value_small : (c : ℕ) → value_or_none c < 128 → value_or_none c < 16
value_small c lt = grind (arith)

digit_read : (o : Option ℕ) → unwrap_or o 255 < 16 → o ≡ Some (unwrap_or o 255)
digit_read (Some v) lt = refl
digit_read None lt = absurd (omega arith)

read_at : (c i : ℕ) → value_or_none c < 16 → value_at c i ≡ Ok (value_or_none c)
read_at c i lt = ap (digit_or_error c i) (digit_read (hex_digit_value c) lt)

pairs_decode : (i : ℕ) (digits bytes : List ℕ) → length digits ≡ 2 * length bytes → SpellsFirst (length bytes) digits bytes → decode_pairs i digits ≡ Ok bytes
unfolding decode_pairs
pairs_decode i [] [] e s = refl
pairs_decode i [] (b ∷ bytes) e s = absurd (omega arith)
pairs_decode i (x ∷ []) bytes e s = absurd (omega arith)
pairs_decode i (x ∷ y ∷ digits) [] e s = absurd (omega arith)
pairs_decode i (x ∷ y ∷ digits) (b ∷ bytes) e s =
    let first : SpellsByte (x ∷ y ∷ digits) (b ∷ bytes) 0 = s 0 (omega arith) in
    let high : value_at x i ≡ Ok (value_or_none x) = read_at x i first.high in
    let low : value_at y (i + 1) ≡ Ok (value_or_none y) = read_at y (i + 1) first.low in
    let pair : pair_value x y i ≡ Ok (value_or_none x * 16 + value_or_none y) = rw (high, low) refl in
    let rest = pairs_decode (i + 2) digits bytes (omega arith) (λ k lt. later k (s (suc k) (omega arith))) in
    decode_pairs-ok_pair i x y _ digits pair ∙ ap (cons_byte (value_or_none x * 16 + value_or_none y)) rest ∙ ap (λ (v : ℕ). Ok (v ∷ bytes)) (sym first.value)
  where
    later : (k : ℕ) → SpellsByte (x ∷ y ∷ digits) (b ∷ bytes) (suc k) → SpellsByte digits bytes k
    later k h =
        let two : 2 * suc k ≡ suc (suc (2 * k)) = omega arith in
        let three : 2 * suc k + 1 ≡ suc (suc (2 * k + 1)) = omega arith in
        let high : slice_index (x ∷ y ∷ digits) (2 * suc k) ≡ slice_index digits (2 * k) = ap (slice_index (x ∷ y ∷ digits)) two in
        let low : slice_index (x ∷ y ∷ digits) (2 * suc k + 1) ≡ slice_index digits (2 * k + 1) = ap (slice_index (x ∷ y ∷ digits)) three in
        record {
          high = subst (λ c. value_or_none c < 16) high h.high;
          low = subst (λ c. value_or_none c < 16) low h.low;
          value = h.value ∙ ap (λ c. value_or_none c * 16 + value_or_none (slice_index (x ∷ y ∷ digits) (2 * suc k + 1))) high ∙ ap (λ c. value_or_none (slice_index digits (2 * k)) * 16 + value_or_none c) low;
        }

-- digits that spell all bytes decode to them
pub spelled_is_decoded : (digits bytes : List ℕ) → length digits ≡ 2 * length bytes → SpellsFirst (length bytes) digits bytes → decode_of digits ≡ Ok bytes
spelled_is_decoded digits bytes e s = decode_of-even digits (omega (arith, e)) ∙ pairs_decode 0 digits bytes e s

-- one step more
pub step_spells : (digits bytes values step : List ℕ) (at : ℕ) → length digits ≡ 2 * length bytes → at + 16 ≤ length bytes → length step ≡ 16
    → values ≡ map value_or_none (chunk (2 * at) 32 digits) → AreValues values
    → ((i : ℕ) → i < 16 → slice_index step i ≡ (slice_index values (2 * i) * 16 + slice_index values (2 * i + 1)) % 256)
    → SpellsFirst at digits bytes → SpellsFirst (at + 16) digits (put_chunk at bytes step)
step_spells digits bytes values step at e room long are all pairs s k lt =
    elim (cases_lt k at) [
      | inl before ↦
          let old = s k before in
          record { high = old.high; low = old.low; value = get_or-put_chunk_below at bytes step k 0 before ∙ old.value }
      | inr within ↦
          let place : at + (k - at) ≡ k = omega arith in
          rw place at (new (k - at) (omega arith))
    ]
  where
    value : (i : ℕ) → i < 32 → slice_index values i ≡ value_or_none (slice_index digits (2 * at + i))
    value i small =
        ap (λ (vs : List ℕ). slice_index vs i) are
        ∙ get_or-map value_or_none (chunk (2 * at) 32 digits) i 0 0 (omega (arith, length-chunk (2 * at) 32 digits (omega (arith, e))))
        ∙ ap value_or_none (get_or-chunk (2 * at) 32 digits i 0 small)

    new : (i : ℕ) → i < 16 → SpellsByte digits (put_chunk at bytes step) (at + i)
    new i small =
        let high = value (2 * i) (omega arith) in
        let low = value (2 * i + 1) (omega arith) in
        let first : 2 * at + 2 * i ≡ 2 * (at + i) = omega arith in
        let second : 2 * at + (2 * i + 1) ≡ 2 * (at + i) + 1 = omega arith in
        let high_is : slice_index values (2 * i) ≡ value_or_none (slice_index digits (2 * (at + i))) = rw first at high in
        let low_is : slice_index values (2 * i + 1) ≡ value_or_none (slice_index digits (2 * (at + i) + 1)) = rw second at low in
        let h : value_or_none (slice_index digits (2 * (at + i))) < 16 = value_small (slice_index digits (2 * (at + i))) (subst (λ (v : ℕ). v < 128) high_is (all (2 * i))) in
        let l : value_or_none (slice_index digits (2 * (at + i) + 1)) < 16 = value_small (slice_index digits (2 * (at + i) + 1)) (subst (λ (v : ℕ). v < 128) low_is (all (2 * i + 1))) in
        record {
          high = h;
          low = l;
          value = omega (arith, get_or-put_chunk_at at bytes step i 0 (omega (arith, long)) (omega (arith, long)), pairs i small, high_is, low_is, h, l);
        }
