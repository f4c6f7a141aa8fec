use Rattle.std.proofs.Common.{◌∙◌, ap}
use Rattle.nd_addr.specs.Number.{number_of}
use Rattle.nd_nexthop.specs.Choice.{target_in}
use Rattle.nd_nexthop.proofs.Places.{found_in, none_in}
use Rattle.nd_nexthop.proofs.choice.Choice.target.Goals as goal

pub returns-in-Some : goal.returns-in-Some
returns-in-Some g c =
    c.addr.ensures
    ∙ (found_in c.to_bits.result c.self.inside.redirects.entries c.in-Some.target.now c.in-Some.ensures
    ∙ (ap (λ k. target_in k c.self.inside.redirects.entries) c.to_bits.ensures ∙ ap (λ t. target_in (number_of c.args.destination.0) t.redirects.entries) c.self.view_is))

pub returns-in-None : goal.returns-in-None
returns-in-None g c =
    none_in c.to_bits.result c.self.inside.redirects.entries c.in-None.ensures
    ∙ (ap (λ k. target_in k c.self.inside.redirects.entries) c.to_bits.ensures ∙ ap (λ t. target_in (number_of c.args.destination.0) t.redirects.entries) c.self.view_is)
