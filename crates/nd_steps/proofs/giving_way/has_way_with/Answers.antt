use Rattle.nd_addr.specs.Number.{number_of}
use Rattle.nd_steps.proofs.GivingWay.{given_way}
use Rattle.nd_steps.proofs.giving_way.has_way_with.Goals as goal

pub returns-in-Given-clause-placed : goal.returns-in-Given-clause-placed
returns-in-Given-clause-placed g c = λ history s.
    rw c.in-Given.is (given_way c.args.neighbours.now.limit c.args.now (number_of c.in-Given.addr.0) history c.has_way.result (c.has_way.ensures.history history s))
