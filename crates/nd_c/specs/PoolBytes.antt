-- How many bytes a pool of `bindings/c/pool.c` needs for one node: what the node holds at most, with the heads of blocks and the holes between them.
-- The sizes of rows and records were measured. That a pool of this size is enough was tested, with packets that are scattered on purpose.
use Rattle.std.specs.Prelude.{ℕ, ◌+◌, ◌*◌, ◌/◌, nat_lt, if◌then◌else◌}
use Rattle.nd_chronicle.specs.Start.{Limits}
use Rattle.nd_c.specs.Bytes.{node_bytes}

-- a block of the pool: a head of 16 bytes, and whole units of 16 bytes
abbrev pub block_bytes : ℕ → ℕ
block_bytes bytes = 16 * ((bytes + 31) / 16)

-- the longest frame that a node holds: an answer that waits has 86 bytes, and the longest packet 14 + 40 + 65,535, without the padding behind it
abbrev pub longest_held : ℕ → ℕ
longest_held longest = if nat_lt longest 86 then 86 else if nat_lt 65589 longest then 65589 else longest

-- the tables, and 32 bytes for each of their blocks: two blocks of dates for each 32 rows, one for each search name, and 60 more. The list of
-- destinations is held twice while it grows
abbrev pub tables_in_pool : Limits → ℕ
tables_in_pool limits =
    node_bytes limits + 32 * (60 + (limits.neighbours + limits.routers + 2 * limits.addresses) / 16 + limits.names)
    + 64 * (limits.redirects + limits.destinations)

-- the packets that wait for all neighbours, and for each neighbour the room with their places. Before each packet and each such room there may be a
-- hole, which is shorter than the longest frame: in any other the next frame finds its place
abbrev pub waiting_in_pool : Limits → ℕ → ℕ
waiting_in_pool limits longest =
    limits.neighbours * ((2 * limits.waiting + 1) * block_bytes longest + block_bytes (24 * limits.waiting))

-- the most records of one call, in which two milliseconds are due: in the first all neighbours are solicited, and in the second they fail and their
-- packets are lost; each address has a step in both; all routers end; and 16 more
abbrev pub records : Limits → ℕ
records limits = limits.neighbours * (limits.waiting + 2) + 2 * limits.addresses + limits.routers + 16

-- the queue, with 80 bytes for a record. Each of its two parts has at most twice the room that it ever needed; while one grows, its last room is held
-- too
abbrev pub queue_in_pool : Limits → ℕ
queue_in_pool limits = 5 * 80 * records limits

-- the solicitations of two milliseconds for all neighbours and all addresses: a block of 86 bytes each
abbrev pub solicitations_in_pool : Limits → ℕ
solicitations_in_pool limits = 2 * 112 * (limits.neighbours + limits.addresses)

-- how many search names enter by one message at most. The shortest takes 3 bytes. In a full list a name enters where another one went, and as many
-- enter in a row as the list has places: options that begin with 8 bytes let them enter and go by turns
abbrev pub names_entering : Limits → ℕ → ℕ
names_entering limits longest = (limits.names * (longest + 3 * limits.names)) / (6 * limits.names + 16)

-- the copies of these names: their bytes, a block for each, and its place of 24 bytes in a list that doubles, and is held twice while it does
abbrev pub names_in_pool : Limits → ℕ → ℕ
names_in_pool limits longest = longest + (31 + 3 * 24) * names_entering limits longest

-- what else one call takes: a payload and its frame, or a packet and its Redirect; 104 bytes for each of 31 Redirects that wait, by which these are longer
-- than their packets; the list of packets that a cleared table returns; two rooms in reserve for packets; and five advertisements, made, sent and
-- kept in reserve
abbrev pub call_in_pool : Limits → ℕ → ℕ
call_in_pool limits longest =
    8192 + 2 * block_bytes longest + block_bytes (limits.neighbours * (24 * limits.waiting)) + 2 * block_bytes (24 * limits.waiting)
    + 5 * block_bytes (128 + 32 * limits.offers) + names_in_pool limits longest

-- the pool, for frames of that length at most
abbrev pub pool_bytes : Limits → ℕ → ℕ
pool_bytes limits longest =
    tables_in_pool limits + waiting_in_pool limits (longest_held longest) + queue_in_pool limits + solicitations_in_pool limits
    + call_in_pool limits (longest_held longest)
