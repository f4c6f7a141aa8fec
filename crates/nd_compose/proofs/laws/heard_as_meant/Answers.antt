use Rattle.nd_compose.proofs.Meant.{detection_heard, defence_heard}
use Rattle.nd_compose.proofs.laws.heard_as_meant.Goals as goal

pub returns-clause-detection : goal.returns-clause-detection
returns-clause-detection c = λ frame address role unicast d. detection_heard frame address role unicast d

pub returns-clause-defence : goal.returns-clause-defence
returns-clause-defence c = λ frame address role unicast d. defence_heard frame address role unicast d
