-- How many bytes the tables of a node take at most: what was measured, and rounded up.
use Rattle.std.specs.Prelude.{ℕ, ◌+◌, ◌-◌, ◌*◌, ◌/◌, nat_lt, if◌then◌else◌}
use Rattle.nd_chronicle.specs.Start.{Limits}

-- the rows of all tables, a search name with the longest text, offers and routes with their parts of a hash table, an offer with its part of the room in
-- reserve, and a destination with its part of the paths that are remembered
abbrev pub rows_bytes : Limits → ℕ
rows_bytes limits =
    72 * limits.neighbours + 65 * limits.routers + 40 * limits.prefixes + 72 * limits.addresses + 32 * limits.servers + 295 * limits.names
    + 64 * limits.redirects + 136 * limits.destinations + 87 * limits.offers + 84 * limits.routes

-- the blocks of dates of so many rows, besides the first one: none, or one, and two for each 32 rows before the last row
abbrev pub dates_bytes : ℕ → ℕ
dates_bytes rows = if nat_lt rows 32 then 0 else 816 * (2 * ((rows - 1) / 32) + 1)

-- the hash table of so many destinations, besides the least one: it grows by doubling
abbrev pub index_bytes : ℕ → ℕ
index_bytes destinations =
    if nat_lt destinations 10 then 0 else if nat_lt destinations 19 then 216 else if nat_lt destinations 37 then 648 else if nat_lt destinations 73 then 1768 else if nat_lt destinations 145 then 4008 else 8488

-- an address has two dates: that of its next step, and that of its end
abbrev pub node_bytes : Limits → ℕ
node_bytes limits =
    9344 + rows_bytes limits + (dates_bytes limits.neighbours + dates_bytes limits.routers + 2 * dates_bytes limits.addresses)
    + (index_bytes limits.redirects + index_bytes limits.destinations)
