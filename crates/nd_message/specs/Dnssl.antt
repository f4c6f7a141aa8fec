-- A DNS Search List as it is written (RFC 8106, section 5.2).
use Rattle.std.specs.Prelude.{ℕ, ◌+◌, ◌-◌, ◌/◌, ◌%◌, ◌^◌, ◌<◌, ◌≤◌, List, [], ◌∷◌, ◌++◌, length, replicate}
use Rattle.std.specs.List.{flat_map, AllByRecursion}
use Rattle.byteorder.specs.Endian.{big_bytes}
use Rattle.nd_search_list.specs.Name.{IsName}

-- a name, and the zero byte that ends it
abbrev pub ended : List ℕ → List ℕ
ended name = name ++ 0 ∷ []

-- names, one behind the other
abbrev pub names_data : List (List ℕ) → List ℕ
names_data names = flat_map ended names

-- the fewest bytes that so many lack to a multiple of 8
abbrev pub missing : ℕ → ℕ
missing len = (8 - len % 8) % 8

-- type, length, two bytes that are reserved, lifetime, the names, and the least padding
abbrev pub dnssl_piece : ℕ → List (List ℕ) → List ℕ
dnssl_piece lifetime names =
    31 ∷ ((8 + length (names_data names) + missing (length (names_data names))) / 8) ∷ 0 ∷ 0 ∷ big_bytes 4 lifetime ++ names_data names
    ++ replicate (missing (length (names_data names))) 0

-- Names in small letters, at least one. An option has at most 255 units of 8 bytes, of which the names have 254.
pub record FitNames (names : List (List ℕ)) : Type 0 where
  pub some : 1 ≤ length names
  pub each : AllByRecursion IsName names
  pub most : length (names_data names) ≤ 2032

-- and a number of four bytes
pub record FitsDnssl (lifetime : ℕ) (names : List (List ℕ)) : Type 0 where
  pub lifetime_is : lifetime < 2 ^ 32
  pub names_are : FitNames names
