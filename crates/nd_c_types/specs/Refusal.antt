-- The status of an event that was refused, as C sees it.
use Rattle.std.specs.Prelude.{ℕ, ℤ, pos, negsuc, ◌+◌, ◌-◌, ◌*◌, ◌/◌, ◌%◌, nat_lt, if◌then◌else◌}
use Rattle.nd_chronicle.specs.Happening.{Limit, Refusal}
use Rattle.nd_chronicle.specs.Happening as rows

-- enum nd_limit
abbrev pub limit_number : Limit → ℕ
limit_number rows.Neighbours = 1
limit_number rows.Routers = 2
limit_number rows.Prefixes = 3
limit_number rows.Addresses = 4
limit_number rows.Servers = 5
limit_number rows.Names = 6
limit_number rows.Offers = 7
limit_number rows.StaticRoutes = 8

-- enum nd_refusal
abbrev pub refusal_number : Refusal → ℕ
refusal_number rows.WrongRole = 1
refusal_number rows.Disabled = 2
refusal_number (rows.NotOurs source) = 3
refusal_number rows.TooLong = 4
refusal_number (rows.Full limit) = 5
refusal_number rows.Tentative = 8

-- the table that is full, or 0
abbrev pub full_number : Refusal → ℕ
full_number (rows.Full limit) = limit_number limit
full_number _ = 0

-- The status has both numbers, and is below 0: -16 * refusal - limit.
abbrev pub refused : Refusal → ℤ
refused refusal = negsuc (16 * refusal_number refusal + full_number refusal - 1)

-- enum nd_refusal that a status has; 0 if it is not of a refusal
abbrev pub refusal_in : ℤ → ℕ
refusal_in (pos n) = 0
refusal_in (negsuc n) = (n + 1) / 16

-- enum nd_limit that a status has; 0 if it has none
abbrev pub limit_in : ℤ → ℕ
limit_in (pos n) = 0
limit_in (negsuc n) = if nat_lt n 15 then 0 else (n + 1) % 16
