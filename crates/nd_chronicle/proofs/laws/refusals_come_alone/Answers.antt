use Rattle.nd_chronicle.proofs.Refusals.{refused_or_not}
use Rattle.nd_chronicle.proofs.laws.refusals_come_alone.Goals as goal

pub returns : goal.returns
returns c = λ start now event c' d h. refused_or_not start now event c' d h
