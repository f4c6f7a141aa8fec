-- Only what is kept, in the code's terms: what an advertisement makes of an entry.
use Rattle.std.specs.Prelude.{ℕ, Bool, if◌then◌else◌, Option, Some, None, true, ◌==◌, false, nat_lt, ◌&&◌}
use Rattle.nd_neighbour.specs.declared.news.Flags.{Flags}
use Rattle.nd_neighbour.specs.EntryKept.{NeighbourEntry, stale_entry, reachable_entry, with_mark, Stage, Resolving, Known}

-- what an advertisement that conforms makes of a neighbour, at this address, which is new or not: a solicited one makes it
-- REACHABLE, another one STALE where the address is new
abbrev pub conforming : Flags → ℕ → ℕ → ℕ → Bool → NeighbourEntry → NeighbourEntry
conforming flags at reachable mac changed n =
    if flags.solicited then reachable_entry n.key flags.router at mac reachable
    else (if changed then stale_entry n.key flags.router at mac else with_mark flags.router n)

-- what an advertisement makes of what is kept. In INCOMPLETE one without an address is discarded, and one with an address
-- conforms. Else one conforms that gives no address, the one that is known, or another one with Override; another one
-- without Override makes REACHABLE STALE, and is ignored in every other state.
abbrev pub advertised_to : Stage → Flags → Option ℕ → ℕ → ℕ → NeighbourEntry → NeighbourEntry
advertised_to (Resolving retrans sent wanted waiting) flags None at reachable n = n
advertised_to (Resolving retrans sent wanted waiting) flags (Some mac) at reachable n = conforming flags at reachable mac true n
advertised_to (Known known confirmed since probing) flags None at reachable n = conforming flags at reachable known false n
advertised_to (Known known confirmed since probing) flags (Some mac) at reachable n =
    if mac == known then conforming flags at reachable known false n
    else (if flags.overrides then conforming flags at reachable mac true n
    else (if confirmed && nat_lt at since then stale_entry n.key n.router at known else n))

-- the same of a neighbour
abbrev pub advertised : ℕ → Flags → Option ℕ → ℕ → NeighbourEntry → NeighbourEntry
advertised at flags mac reachable n = advertised_to n.stage flags mac at reachable n
