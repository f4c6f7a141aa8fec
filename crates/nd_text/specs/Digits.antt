-- Bytes as hexadecimal digits.
use Rattle.std.specs.Prelude.{ℕ, ◌/◌, ◌%◌, List, [], ◌∷◌, ◌++◌, false, nat_le, if◌then◌else◌}
use Rattle.std.specs.Fmt.{digit_glyph}

-- a byte as two digits in lower case
abbrev pub byte_text : ℕ → List ℕ
byte_text byte = digit_glyph false (byte / 16) ∷ digit_glyph false (byte % 16) ∷ []

-- the digit of a number at a place, with none for a leading zero
abbrev pub digit_at : ℕ → ℕ → List ℕ
digit_at number place = if nat_le place number then digit_glyph false (number / place % 16) ∷ [] else []

-- bytes as two digits each
abbrev pub hex_text : List ℕ → List ℕ
hex_text [] = []
hex_text (byte ∷ bytes) = byte_text byte ++ hex_text bytes
