-- Only what is kept, in the code's terms: what a message that gives a link-layer address makes of an entry.
use Rattle.std.specs.Prelude.{ℕ, Bool, ◌==◌, Option, unwrap_or, if◌then◌else◌}
use Rattle.nd_neighbour.specs.EntryKept.{NeighbourEntry, Stage, Resolving, Known, stale_entry, with_mark}

-- IsRouter after a message that may say it
abbrev pub mark_or : Option Bool → Bool → Bool
mark_or mark router = unwrap_or mark router

-- what it makes of what is kept: a first address, or another one, makes it STALE; the one that is known only marks it
abbrev pub given_to : Stage → NeighbourEntry → ℕ → ℕ → Bool → NeighbourEntry
given_to (Resolving retrans sent wanted waiting) n at mac router = stale_entry n.key router at mac
given_to (Known known confirmed since probing) n at mac router =
    if mac == known then with_mark router n else stale_entry n.key router at mac

-- the same of a neighbour
abbrev pub given : ℕ → ℕ → Option Bool → NeighbourEntry → NeighbourEntry
given at mac mark n = given_to n.stage n at mac (mark_or mark n.router)
