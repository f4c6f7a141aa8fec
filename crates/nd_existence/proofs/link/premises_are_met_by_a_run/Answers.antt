use Rattle.nd_existence.proofs.Meeting.{meets}
use Rattle.nd_existence.proofs.link.premises_are_met_by_a_run.Goals as goal

pub returns : goal.returns
returns c = λ limits mac transmits words others bytes some. (_, _, meets limits mac bytes transmits some words others)
