use Rattle.std.proofs.Common.{ap}
use Rattle.nd_addr.specs.Number.{number_of}
use Rattle.nd_nexthop.proofs.Steps.{gains_put}
use Rattle.nd_nexthop.proofs.choice.Choice.redirected.Goals as goal

pub returns-clause-stands : goal.returns-clause-stands
returns-clause-stands g c = λ at.
    gains_put c.args.self.now _ c.self.inside.redirects at (number_of c.args.destination.0) (number_of c.args.target.0) c.to_bits.result c.of.result c.self.invariant.0
    (ap (λ r. r.cap) c.in_ok-put.ensures.entries) (ap (λ r. r.entries) c.in_ok-put.ensures.entries) (ap (λ t. t.redirects.entries) c.self.view_is) (ap (λ t. t.redirects.limit) c.self.view_is) c.to_bits.ensures c.of.ensures
