use Rattle.nd_neighbour.proofs.Overdue.{still_none, by_table, to_table}
use Rattle.nd_neighbour.proofs.laws.none_overdue.Goals as goal

pub returns-clause-still : goal.returns-clause-still
returns-clause-still c = still_none

pub returns-clause-table : goal.returns-clause-table
returns-clause-table c entries history now s = (by_table entries history s now, to_table entries history s now)
