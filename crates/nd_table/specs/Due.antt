-- The lesser of two dates.
use Rattle.std.specs.Prelude.{ℕ, min, Option, Some, None}

-- the lesser of two moments that may be missing
abbrev pub lesser : Option ℕ → Option ℕ → Option ℕ
lesser None b = b
lesser (Some x) None = Some x
lesser (Some x) (Some y) = Some (min x y)
