-- A list of entries that are found by a number, and the order of these numbers.
use Rattle.std.specs.Prelude.{ℕ, ◌<◌, ◌==◌, if◌then◌else◌, List, [], ◌∷◌, Option, Some, None}

module _ {N : Type 0} (key : N → ℕ) where
  -- the first entry of this number
  abbrev pub at_key : ℕ → List N → Option N
  at_key k [] = None
  at_key k (n ∷ ns) = if key n == k then Some n else at_key k ns

  -- each has a greater number than this
  abbrev pub AllAbove : ℕ → List N → Type 0
  AllAbove k [] = Unit {0}
  AllAbove k (n ∷ ns) = (k < key n) × AllAbove k ns

  -- the numbers rise
  abbrev pub Rises : List N → Type 0
  Rises [] = Unit {0}
  Rises (n ∷ ns) = AllAbove (key n) ns × Rises ns
