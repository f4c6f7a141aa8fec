-- The two-hour rule for valid lifetimes (RFC 4862, section 5.5.3 e).
use Rattle.std.specs.Prelude.{ℕ, ◌+◌, ◌*◌, nat_lt, min, max, if◌then◌else◌, Option, Some, None}
use Rattle.nd_table.specs.Ends.{end_time}

-- two hours, in seconds
abbrev pub two_hours : ℕ
two_hours = 7200

-- the end that is there, or two hours from now where that is earlier
abbrev pub within_two_hours : ℕ → Option ℕ → ℕ
within_two_hours now None = now + 1000 * two_hours
within_two_hours now (Some end) = min end (now + 1000 * two_hours)

-- The valid end after a further announcement: a lifetime above two hours is taken; a shorter one where it is above
-- the rest; else the rest is cut to two hours, and a rest that is less stays (section 5.5.3 e).
abbrev pub renewed : ℕ → Option ℕ → ℕ → Option ℕ
renewed now end valid =
    if nat_lt two_hours valid then end_time now valid else Some (max (now + 1000 * valid) (within_two_hours now end))
