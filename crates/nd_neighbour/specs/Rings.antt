-- The rings in reserve for the packets of new neighbours.
use Rattle.std.specs.Prelude.{ℕ, ◌≤◌, List, Option, is_some, if◌then◌else◌}
use Rattle.std.specs.List.{AllByRecursion}
use Rattle.nd_neighbour.specs.EntryKept.{NeighbourEntry, Stage, Resolving, Known}

-- for how many packets each has room, and how many there are
pub record Rings : Type 0 where
  pub room : ℕ
  pub count : ℕ

-- one, or none
abbrev pub count_of : {X : Type 0} → Option X → ℕ
count_of o = if is_some o then 1 else 0

-- for how many packets an entry has room: where an address is known none waits
abbrev pub room_of : Stage → ℕ
room_of (Resolving retrans sent wanted waiting) = waiting.room
room_of (Known mac confirmed since probing) = 0

-- no entry has room for more packets than this
abbrev pub RoomWithin : ℕ → List NeighbourEntry → Type 0
RoomWithin room entries = AllByRecursion (λ n. room_of n.stage ≤ room) entries
