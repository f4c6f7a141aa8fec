-- A domain name: its labels, each behind its length byte, without the zero byte at the end (RFC 1035, section 3.1).
use Rattle.std.specs.Prelude.{◌≡◌, ℕ, ◌≤◌, List, ◌∷◌, length, map}
use Rattle.std.specs.List.{flat_map, AllByRecursion}
use Rattle.std.specs.Char.{IsAsciiUppercase, to_ascii_lowercase}
use Rattle.nd_search_list.specs.Label.{IsLabel}

-- a label behind its length byte
abbrev pub label_bytes : List ℕ → List ℕ
label_bytes label = length label ∷ label

-- The bytes are the labels of a name, at least one, each behind its length byte. With the zero byte that ends a name they are at
-- most 255 bytes (RFC 1035, section 2.3.4).
pub record IsSpelled (bytes : List ℕ) : Type 0 where
  pub labels : List (List ℕ)
  pub some : 1 ≤ length labels
  pub each : AllByRecursion IsLabel labels
  pub joined : bytes ≡ flat_map label_bytes labels
  pub short : length bytes ≤ 254

-- Small letters in place of capital ones. Length bytes are at most 63, below all letters.
abbrev pub lowered : List ℕ → List ℕ
lowered bytes = map to_ascii_lowercase bytes

-- a name in small letters (names are compared without regard to case: RFC 1035, section 2.3.3)
pub record IsName (name : List ℕ) : Type 0 where
  pub spelled : IsSpelled name
  pub small : AllByRecursion (λ byte. IsAsciiUppercase byte → ⊥) name
