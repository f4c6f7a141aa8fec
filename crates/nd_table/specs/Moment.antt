-- Moments, in milliseconds from a beginning that is the caller's.
use Rattle.std.specs.Prelude.{ℕ, ◌<◌, ◌^◌}

-- a moment that a call takes: the ends and dates that are computed from it fit in 64 bits
abbrev pub IsMoment : ℕ → Type 0
IsMoment now = now < 2 ^ 62
