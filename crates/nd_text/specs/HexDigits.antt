-- Hexadecimal digits and the bytes that they spell, place by place.
use Rattle.std.specs.Prelude.{◌≡◌, ℕ, ◌+◌, ◌*◌, ◌<◌, List, slice_index, unwrap_or}
use Rattle.hex.specs.Hex.{hex_digit_value}

-- the value of a digit, or 255 of what is none
abbrev pub value_or_none : ℕ → ℕ
value_or_none c = unwrap_or (hex_digit_value c) 255

-- all are values of digits
abbrev pub AreValues : List ℕ → Type 0
AreValues values = (i : ℕ) → slice_index values i < 128

-- two digits spell the byte at a place
pub record SpellsByte (digits bytes : List ℕ) (place : ℕ) : Type 0 where
  pub high : value_or_none (slice_index digits (2 * place)) < 16
  pub low : value_or_none (slice_index digits (2 * place + 1)) < 16
  pub value : slice_index bytes place ≡ value_or_none (slice_index digits (2 * place)) * 16 + value_or_none (slice_index digits (2 * place + 1))

-- digits spell the first bytes, up to a place
abbrev pub SpellsFirst : ℕ → List ℕ → List ℕ → Type 0
SpellsFirst count digits bytes = (place : ℕ) → place < count → SpellsByte digits bytes place
