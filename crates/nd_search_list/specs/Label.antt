-- A label of a domain name in a search list (RFC 1035, sections 2.3.1 and 3.1; RFC 8106, section 5.2).
use Rattle.std.specs.Prelude.{◌≡◌, ℕ, ◌≤◌, ◌⊎◌, Bool, ◌||◌, nat_eq, List, length}
use Rattle.std.specs.List.{AllByRecursion}
use Rattle.std.specs.Char.{IsAsciiAlphanumeric, is_ascii_alphanumeric}

-- a letter, a digit, a hyphen or an underscore
abbrev pub IsSign : ℕ → Type 0
IsSign byte = IsAsciiAlphanumeric byte ⊎ ((byte ≡ 45) ⊎ (byte ≡ 95))

-- 1 to 63 of them
pub record IsLabel (text : List ℕ) : Type 0 where
  pub some : 1 ≤ length text
  pub short : length text ≤ 63
  pub signs : AllByRecursion IsSign text

-- the test of a byte
abbrev pub is_sign : ℕ → Bool
is_sign byte = is_ascii_alphanumeric byte || nat_eq byte 45 || nat_eq byte 95
