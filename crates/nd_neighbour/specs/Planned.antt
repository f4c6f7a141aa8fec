-- The dates of neighbours, kept in their order next to them.
use Rattle.std.specs.Prelude.{◌≤◌, List, length}
use Rattle.nd_table.specs.Dates.{Planned, AreDates}
use Rattle.nd_neighbour.specs.EntryKept.{NeighbourEntry}
use Rattle.nd_neighbour.specs.TableKept.{address, Rises}
use Rattle.nd_neighbour.specs.DueKept.{date_of}

-- the neighbours are in the order of their addresses, and these are their dates
pub record IsPlanned (entries : List NeighbourEntry) (planned : Planned) : Type 0 where
  pub order : Rises entries
  pub dates : AreDates address date_of planned.dates entries
  pub room : length entries ≤ planned.room
