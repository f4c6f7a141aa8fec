-- Reading an Ethernet address, pair by pair.
use Rattle.std.proofs.Common.{◌≡◌, ℕ, zero, suc, ◌+◌, ◌*◌, ◌/◌, ◌%◌, ◌<◌, ◌≤◌, false, List, [], ◌∷◌, ◌++◌, length, get_or, set, refl, sym, ap, subst, ◌∙◌, arith, inl, inr}
use Rattle.std.specs.Char.{digit_value}
use Rattle.std.proofs.lemmas.Bool.{cases_lt}
use Rattle.std.proofs.lemmas.List.{length-set, get_or-set_same, get_or-set_other}
use Rattle.std.proofs.lemmas.Grind.{same_number_lists}
use Rattle.std.specs.Fmt.{digit_glyph}
use Rattle.std.specs.Str.{IsAscii}
use Rattle.std.proofs.lemmas.Str.Ascii.{IsAscii-nil, IsAscii-cons}
use Rattle.nd_text.specs.Digits.{byte_text}
use Rattle.nd_addr.specs.Bytes.{IsBytes, AreBytes}
use Rattle.nd_addr.specs.Spelling.{IsPairAt, SpellsMac}
use Rattle.nd_addr.specs.Text.{mac_text}

-- the first pairs, with the colons behind them
pub record IsMacSoFar (text bytes : List ℕ) (i : ℕ) : Type 0 where
  pub six : length bytes ≡ 6
  pub pairs : (k : ℕ) → k < i → IsPairAt text (3 * k) (get_or bytes k 0)
  pub colons : (k : ℕ) → k < i → k < 5 → get_or text (3 * k + 2) 0 ≡ 58

pub next_pair : (text bytes : List ℕ) (i b : ℕ) → IsMacSoFar text bytes i → i < 6 → (i < 5 → get_or text (3 * i + 2) 0 ≡ 58) → IsPairAt text (3 * i) b
    → IsMacSoFar text (set bytes i b) (i + 1)
next_pair text bytes i b m lt colon pair = record {
  six = length-set bytes i b ∙ m.six;
  pairs = λ k less. elim (cases_lt k i) [
    | inl below ↦ subst (λ (n : ℕ). IsPairAt text (3 * k) n) (sym (get_or-set_other bytes i k b 0 (λ e. omega arith))) (m.pairs k below)
    | inr last ↦
        let e : i ≡ k = omega arith in
        let value : b ≡ get_or (set bytes i b) k 0 = sym (ap (λ (n : ℕ). get_or (set bytes i b) n 0) (sym e) ∙ get_or-set_same bytes i b 0 (omega (arith, m.six))) in
        subst (λ (n : ℕ). IsPairAt text (3 * k) n) value (subst (λ (n : ℕ). IsPairAt text (3 * n) b) e pair)
  ];
  colons = λ k less five. elim (cases_lt k i) [
    | inl below ↦ m.colons k below five
    | inr last ↦ let e : i ≡ k = omega arith in subst (λ (n : ℕ). get_or text (3 * n + 2) 0 ≡ 58) e (colon (omega arith))
  ];
}

pub mac_spelled : (text bytes : List ℕ) (i : ℕ) → IsMacSoFar text bytes i → 6 ≤ i → length text ≡ 17 → SpellsMac text bytes
mac_spelled text bytes i m le len = record { len = len; six = m.six; pairs = λ k lt. m.pairs k (omega arith); colons = λ k lt. m.colons k (omega arith) lt }

pub mac_one : (text bytes others : List ℕ) (i : ℕ) → IsMacSoFar text bytes i → 6 ≤ i → SpellsMac text others → bytes ≡ others
mac_one text bytes others i m le s =
    same_number_lists bytes others (m.six ∙ sym s.six) (λ k lt. (m.pairs k (omega (arith, m.six))).value ∙ sym (s.pairs k (omega (arith, m.six))).value)

-- ---- what is written of an Ethernet address spells it

glyph_back : (d : ℕ) → d < 16 → digit_value (digit_glyph false d) ≡ d
glyph_back zero lt = refl
glyph_back (suc zero) lt = refl
glyph_back (suc (suc zero)) lt = refl
glyph_back (suc (suc (suc zero))) lt = refl
glyph_back (suc (suc (suc (suc zero)))) lt = refl
glyph_back (suc (suc (suc (suc (suc zero))))) lt = refl
glyph_back (suc (suc (suc (suc (suc (suc zero)))))) lt = refl
glyph_back (suc (suc (suc (suc (suc (suc (suc zero))))))) lt = refl
glyph_back (suc (suc (suc (suc (suc (suc (suc (suc zero)))))))) lt = refl
glyph_back (suc (suc (suc (suc (suc (suc (suc (suc (suc zero))))))))) lt = refl
glyph_back (suc (suc (suc (suc (suc (suc (suc (suc (suc (suc zero)))))))))) lt = refl
glyph_back (suc (suc (suc (suc (suc (suc (suc (suc (suc (suc (suc zero))))))))))) lt = refl
glyph_back (suc (suc (suc (suc (suc (suc (suc (suc (suc (suc (suc (suc zero)))))))))))) lt = refl
glyph_back (suc (suc (suc (suc (suc (suc (suc (suc (suc (suc (suc (suc (suc zero))))))))))))) lt = refl
glyph_back (suc (suc (suc (suc (suc (suc (suc (suc (suc (suc (suc (suc (suc (suc zero)))))))))))))) lt = refl
glyph_back (suc (suc (suc (suc (suc (suc (suc (suc (suc (suc (suc (suc (suc (suc (suc zero))))))))))))))) lt = refl
glyph_back (suc (suc (suc (suc (suc (suc (suc (suc (suc (suc (suc (suc (suc (suc (suc (suc d)))))))))))))))) lt = absurd (omega arith)

-- both digits of a byte, wherever they stand
pair_back : (text : List ℕ) (place b : ℕ) → b < 256 → get_or text place 0 ≡ digit_glyph false (b / 16) → get_or text (place + 1) 0 ≡ digit_glyph false (b % 16) → IsPairAt text place b
pair_back text place b small high low =
    let h : digit_value (get_or text place 0) ≡ b / 16 = ap digit_value high ∙ glyph_back (b / 16) (omega arith) in
    let l : digit_value (get_or text (place + 1) 0) ≡ b % 16 = ap digit_value low ∙ glyph_back (b % 16) (omega arith) in
    record { high = omega (arith, h); low = omega (arith, l); value = omega (arith, h, l) }

glyph_is_ascii : (d : ℕ) → d < 16 → digit_glyph false d < 128
glyph_is_ascii d lt = grind (arith)

-- two digits in front of ASCII characters
digits_before : (b : ℕ) (rest : List ℕ) → b < 256 → IsAscii rest → IsAscii (byte_text b ++ rest)
digits_before b rest small h =
    IsAscii-cons (digit_glyph false (b / 16)) (digit_glyph false (b % 16) ∷ rest) (glyph_is_ascii (b / 16) (omega arith))
    (IsAscii-cons (digit_glyph false (b % 16)) rest (glyph_is_ascii (b % 16) (omega arith)) h)

pub mac_text_is_ascii : (bytes : List ℕ) → IsBytes bytes → IsAscii (mac_text bytes)
mac_text_is_ascii [] small = IsAscii-nil
mac_text_is_ascii (b ∷ []) small = digits_before b [] (small 0) IsAscii-nil
mac_text_is_ascii (b ∷ c ∷ bytes) small =
    digits_before b (58 ∷ mac_text (c ∷ bytes)) (small 0) (IsAscii-cons 58 (mac_text (c ∷ bytes)) (omega arith) (mac_text_is_ascii (c ∷ bytes) (λ k. small (suc k))))

pub mac_text_spells : (bytes : List ℕ) → AreBytes 6 bytes → SpellsMac (mac_text bytes) bytes
mac_text_spells ([]) s = absurd (omega (arith, s.len_is))
mac_text_spells (a ∷ []) s = absurd (omega (arith, s.len_is))
mac_text_spells (a ∷ b ∷ []) s = absurd (omega (arith, s.len_is))
mac_text_spells (a ∷ b ∷ c ∷ []) s = absurd (omega (arith, s.len_is))
mac_text_spells (a ∷ b ∷ c ∷ d ∷ []) s = absurd (omega (arith, s.len_is))
mac_text_spells (a ∷ b ∷ c ∷ d ∷ e ∷ []) s = absurd (omega (arith, s.len_is))
mac_text_spells (a ∷ b ∷ c ∷ d ∷ e ∷ f ∷ g ∷ more) s = absurd (omega (arith, s.len_is))
mac_text_spells (a ∷ b ∷ c ∷ d ∷ e ∷ f ∷ []) s = record { len = refl; six = refl; pairs = pairs s.each; colons = colons }
  where
    pairs : IsBytes (a ∷ b ∷ c ∷ d ∷ e ∷ f ∷ []) → (i : ℕ) → i < 6 → IsPairAt (mac_text (a ∷ b ∷ c ∷ d ∷ e ∷ f ∷ [])) (3 * i) (get_or (a ∷ b ∷ c ∷ d ∷ e ∷ f ∷ []) i 0)
    pairs small zero lt = pair_back (mac_text (a ∷ b ∷ c ∷ d ∷ e ∷ f ∷ [])) 0 a (small 0) refl refl
    pairs small (suc zero) lt = pair_back (mac_text (a ∷ b ∷ c ∷ d ∷ e ∷ f ∷ [])) 3 b (small 1) refl refl
    pairs small (suc (suc zero)) lt = pair_back (mac_text (a ∷ b ∷ c ∷ d ∷ e ∷ f ∷ [])) 6 c (small 2) refl refl
    pairs small (suc (suc (suc zero))) lt = pair_back (mac_text (a ∷ b ∷ c ∷ d ∷ e ∷ f ∷ [])) 9 d (small 3) refl refl
    pairs small (suc (suc (suc (suc zero)))) lt = pair_back (mac_text (a ∷ b ∷ c ∷ d ∷ e ∷ f ∷ [])) 12 e (small 4) refl refl
    pairs small (suc (suc (suc (suc (suc zero))))) lt = pair_back (mac_text (a ∷ b ∷ c ∷ d ∷ e ∷ f ∷ [])) 15 f (small 5) refl refl
    pairs small (suc (suc (suc (suc (suc (suc i)))))) lt = absurd (omega arith)

    colons : (i : ℕ) → i < 5 → get_or (mac_text (a ∷ b ∷ c ∷ d ∷ e ∷ f ∷ [])) (3 * i + 2) 0 ≡ 58
    colons zero lt = refl
    colons (suc zero) lt = refl
    colons (suc (suc zero)) lt = refl
    colons (suc (suc (suc zero))) lt = refl
    colons (suc (suc (suc (suc zero)))) lt = refl
    colons (suc (suc (suc (suc (suc i))))) lt = absurd (omega arith)
