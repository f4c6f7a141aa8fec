use Rattle.nd_chronicle.proofs.Growth.{runs_grows, text_grows}
use Rattle.nd_chronicle.proofs.laws.only_grows.Goals as goal

pub returns-clause-rows : goal.returns-clause-rows
returns-clause-rows c = λ start events c' d h. runs_grows start events c' d h

pub returns-clause-told : goal.returns-clause-told
returns-clause-told c = λ newer c'. text_grows newer c'
