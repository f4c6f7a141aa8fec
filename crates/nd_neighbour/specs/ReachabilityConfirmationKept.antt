-- Only what is kept, in the code's terms: what a confirmation makes of an entry.
use Rattle.std.specs.Prelude.{ℕ}
use Rattle.nd_neighbour.specs.EntryKept.{NeighbourEntry, Stage, Resolving, Known, reachable_entry}
use Rattle.nd_neighbour.specs.ReachabilityConfirmation.{since}

-- what an upper layer's confirmation makes of what is kept: in INCOMPLETE nothing, else it is REACHABLE
abbrev pub confirmed_to : Stage → ℕ → ℕ → NeighbourEntry → NeighbourEntry
confirmed_to (Resolving retrans sent wanted waiting) at reachable n = n
confirmed_to (Known mac confirmed since probing) at reachable n = reachable_entry n.key n.router at mac reachable

-- the same of a neighbour
abbrev pub confirmed : ℕ → ℕ → NeighbourEntry → NeighbourEntry
confirmed at reachable n = confirmed_to n.stage at reachable n
