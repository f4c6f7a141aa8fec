use Rattle.nd_compose.proofs.Meant.{detection_sent, defence_sent, resolution_carries, probe_carries, router_solicitation_carries, answer_carries}
use Rattle.nd_compose.proofs.laws.sent_as_meant.Goals as goal

pub returns-clause-detection : goal.returns-clause-detection
returns-clause-detection c = λ mac address m h. detection_sent mac m address h

pub returns-clause-defence : goal.returns-clause-defence
returns-clause-defence c = λ router mac address m h. defence_sent mac m router address h

pub returns-clause-resolution : goal.returns-clause-resolution
returns-clause-resolution c = λ mac source target m s t. resolution_carries mac m source target s t

pub returns-clause-probe : goal.returns-clause-probe
returns-clause-probe c = λ mac source to target m s d t. probe_carries mac m source to target s d t

pub returns-clause-router_solicitation : goal.returns-clause-router_solicitation
returns-clause-router_solicitation c = λ mac source m s. router_solicitation_carries mac m source s

pub returns-clause-answer : goal.returns-clause-answer
returns-clause-answer c = λ router mac target asker to m t a d. answer_carries mac m router target asker to t a d
