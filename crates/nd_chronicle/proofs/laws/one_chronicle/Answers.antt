use Rattle.nd_chronicle.specs.History.{beginning}
use Rattle.nd_chronicle.proofs.Events.{one_run}
use Rattle.nd_chronicle.proofs.laws.one_chronicle.Goals as goal

pub returns : goal.returns
returns c = λ start events c' d h k. one_run start events (beginning start) c' d h k
