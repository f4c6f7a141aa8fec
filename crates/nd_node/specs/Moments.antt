-- The earliest of some moments.
use Rattle.std.specs.Prelude.{ℕ, min, Option, Some, None}

-- the earlier of a moment that may be missing and one that is there
abbrev pub earlier : Option ℕ → ℕ → ℕ
earlier None n = n
earlier (Some m) n = min m n
