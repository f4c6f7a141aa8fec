use Rattle.nd_slaac.proofs.Unique.{one_table, one_due, one_fit, one_room}
use Rattle.nd_slaac.proofs.laws.one_answer.Goals as goal

pub returns-clause-table : goal.returns-clause-table
returns-clause-table c = one_table

pub returns-clause-due : goal.returns-clause-due
returns-clause-due c = one_due

pub returns-clause-fits : goal.returns-clause-fits
returns-clause-fits c = one_fit

pub returns-clause-room : goal.returns-clause-room
returns-clause-room c = one_room
