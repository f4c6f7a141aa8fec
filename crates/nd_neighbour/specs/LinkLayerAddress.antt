-- A message gives a link-layer address (RFC 4861, sections 6.2.6, 6.3.4, 7.2.3 and 8.3).
use Rattle.std.specs.Prelude.{ℕ, Bool, true, ◌==◌, not, Option, Some, None}

-- the address is the first one or another one
abbrev pub changes : ℕ → Option ℕ → Bool
changes mac None = true
changes mac (Some known) = not (mac == known)
