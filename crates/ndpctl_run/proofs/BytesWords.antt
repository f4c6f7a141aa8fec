-- Bytes are determined by their word.
use Rattle.std.proofs.Common.{◌≡◌, ◌<◌, ◌%◌, ℕ, List, [], ◌∷◌, Ok, length, sym, refl, ap, arith}
use Rattle.std.specs.Prelude.{codes}
use Rattle.std.specs.List.{AllPass}
use Rattle.hex.specs.Hex.{decode_of, is_hex_digit}
use Rattle.hex.proofs.HexLemmas.{decode_of-ok, decode_of-same}
use Rattle.ndpctl_run.specs.Bytes.{IsBytesWord}

-- digits, at least two of them
abbrev pub AreDigits : List ℕ → Type 0
AreDigits word = (0 < length word) × (length word % 2 ≡ 0) × AllPass is_hex_digit word

-- what digits decode to
pub decoded_word : (word bytes : List ℕ) → AreDigits word → decode_of word ≡ Ok bytes → IsBytesWord word bytes
decoded_word word [] digits e = let ok = decode_of-ok word [] e in absurd (omega (arith, digits.0, ok.2))
decoded_word word (byte ∷ bytes) digits e = e

-- the word of bytes is `-`, or digits
pub word_decodes : (word bytes : List ℕ) → IsBytesWord word bytes → (word ≡ codes "-" → ⊥) → AreDigits word × (decode_of word ≡ Ok bytes)
word_decodes word [] e other = absurd (other e)
word_decodes word (byte ∷ bytes) e other = let ok = decode_of-ok word (byte ∷ bytes) e in ((omega (arith, ok.2), ok.0, ok.1), e)

-- and `-` is that of none
pub dash_is_empty : (word bytes : List ℕ) → word ≡ codes "-" → IsBytesWord word bytes → bytes ≡ []
dash_is_empty word [] e f = refl
dash_is_empty word (byte ∷ bytes) e f = let ok = decode_of-ok word (byte ∷ bytes) f in let one : length word ≡ 1 = ap length e in absurd (omega (arith, ok.0, one))

pub one_bytes : (word a b : List ℕ) → IsBytesWord word a → IsBytesWord word b → a ≡ b
one_bytes word [] b p q = sym (dash_is_empty word b p q)
one_bytes word (x ∷ a) [] p q = dash_is_empty word (x ∷ a) q p
one_bytes word (x ∷ a) (y ∷ b) p q = decode_of-same word (x ∷ a) (y ∷ b) p q
