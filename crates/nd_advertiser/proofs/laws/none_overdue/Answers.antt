use Rattle.nd_advertiser.proofs.Dates.{next_is, spaced, still}
use Rattle.nd_advertiser.proofs.laws.none_overdue.Goals as goal

pub returns-clause-table : goal.returns-clause-table
returns-clause-table c = λ table history s. next_is table history s

pub returns-clause-still : goal.returns-clause-still
returns-clause-still c = λ history now row is h. still now history row is h

pub returns-clause-spaced : goal.returns-clause-spaced
returns-clause-spaced c = λ history now row is h. spaced now history row is h
