use Rattle.nd_neighbour.proofs.Unique.{one_table, one_due, one_longest}
use Rattle.nd_neighbour.proofs.laws.one_answer.Goals as goal

pub returns-clause-table : goal.returns-clause-table
returns-clause-table c = one_table

pub returns-clause-due : goal.returns-clause-due
returns-clause-due c = one_due

pub returns-clause-longest : goal.returns-clause-longest
returns-clause-longest c = one_longest
