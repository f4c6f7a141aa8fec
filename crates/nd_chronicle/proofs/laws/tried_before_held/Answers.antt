use Rattle.nd_chronicle.proofs.Holding.{tried_at, tried_in_rows}
use Rattle.nd_chronicle.proofs.laws.tried_before_held.Goals as goal

pub returns-clause-history : goal.returns-clause-history
returns-clause-history c = λ start events c' d key runs p assigned. tried_at start events c' runs d p key assigned

pub returns-clause-rows : goal.returns-clause-rows
returns-clause-rows c = λ start events c' d key runs p assigned. tried_in_rows start events c' runs d p key assigned
