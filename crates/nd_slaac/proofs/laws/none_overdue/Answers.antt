use Rattle.nd_slaac.proofs.Overdue.{still_none, by_table, to_table}
use Rattle.nd_slaac.proofs.laws.none_overdue.Goals as goal

pub returns-clause-still : goal.returns-clause-still
returns-clause-still c = still_none

pub returns-clause-table : goal.returns-clause-table
returns-clause-table c transmits addresses history now s = (by_table transmits addresses history s now, to_table transmits addresses history s now)
