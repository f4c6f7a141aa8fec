-- Only what is kept, in the code's terms: the entry that was asked for longest.
use Rattle.std.specs.Prelude.{ℕ, ◌+◌, ◌-◌, ◌*◌, List, Option, Some, None}
use Rattle.nd_table.specs.DueKept.{least_date, first_at}
use Rattle.nd_neighbour.specs.EntryKept.{NeighbourEntry, Stage, Resolving, Known}

-- the solicitations of a resolution come a RetransTimer apart, and so does what is due behind the last
abbrev pub begun_to : ℕ → Stage → Option ℕ
begun_to due (Resolving retrans sent wanted waiting) = Some (due - (sent + 1) * retrans)
begun_to due (Known mac confirmed since probing) = None

-- when the resolution of an entry began, if it is INCOMPLETE
abbrev pub begun : NeighbourEntry → Option ℕ
begun n = begun_to n.due n.stage

-- the first of those whose resolution began at a moment, if there is one
abbrev pub begun_at : Option ℕ → List NeighbourEntry → Option NeighbourEntry
begun_at None entries = None
begun_at (Some at) entries = first_at begun at entries

-- the entry that was asked for longest, at a tie that of the lowest address
abbrev pub asked_longest : List NeighbourEntry → Option NeighbourEntry
asked_longest entries = begun_at (least_date begun entries) entries
