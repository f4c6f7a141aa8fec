use Rattle.nd_forwarding.proofs.Looks.{look_routes}
use Rattle.nd_forwarding.proofs.laws.one_answer.Goals as goal

pub returns-clause-found : goal.returns-clause-found
returns-clause-found c = look_routes
