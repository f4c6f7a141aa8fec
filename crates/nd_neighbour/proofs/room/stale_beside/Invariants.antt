use Rattle.std.proofs.Common.{◌≡◌, drop}
use Rattle.std.specs.List.{list_any}
use Rattle.nd_addr.specs.Number.{number_of}
use Rattle.nd_neighbour.specs.RoomKept.{stale_beside}
use Rattle.nd_neighbour.proofs.room.stale_beside.Given as goal

-- the rest has one where there is one
abbrev pub invariant-loop-entry : goal.invariant-loop-entry
invariant-loop-entry g l = list_any (stale_beside (number_of l.gone.0) l.now) (drop l.entry-index l.entries) ≡ list_any (stale_beside (number_of l.gone.0) l.now) l.entries
