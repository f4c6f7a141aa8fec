-- Only what is kept, in the code's terms: where a number is among the entries, and how many of them are compared.
use Rattle.std.specs.Prelude.{◌≡◌, ℕ, zero, suc, ◌+◌, ◌^◌, nat_lt, ◌==◌, if◌then◌else◌, List, [], ◌∷◌, None}
use Rattle.nd_table.specs.Keyed.{at_key}

module _ {N : Type 0} (key : N → ℕ) where
  -- no number comes twice
  abbrev pub Unique : List N → Type 0
  Unique [] = Unit {0}
  Unique (n ∷ ns) = (at_key key (key n) ns ≡ None) × Unique ns

  -- how many entries at the front have lower numbers
  abbrev pub place_of : ℕ → List N → ℕ
  place_of k [] = 0
  place_of k (n ∷ ns) = if nat_lt (key n) k then place_of k ns + 1 else 0

-- how many binary digits a number has, 0 having none
abbrev pub binary_digits : ℕ → ℕ
binary_digits zero = 0
binary_digits (suc n) = if 2 ^ binary_digits n == suc n then binary_digits n + 1 else binary_digits n
