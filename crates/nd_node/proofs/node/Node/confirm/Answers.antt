use Rattle.std.proofs.Common.{refl}
use Rattle.nd_addr.specs.Number.{number_of}
use Rattle.nd_neighbour.specs.History.{Confirmed}
use Rattle.nd_steps.specs.DestinationCache.{Keeps}
use Rattle.nd_steps.proofs.Resolved.{gains_as_resolved}
use Rattle.nd_node.proofs.Commands.{confirms}
use Rattle.nd_node.proofs.Leaving.{neighbours_leave}
use Rattle.nd_node.proofs.node.Node.confirm.Goals as goal

pub returns-clause-adds : goal.returns-clause-adds
returns-clause-adds g c =
    rw c.advance_to.ensures (confirms g.R.Rng.stream c.args.self.now _ c.args.now c.args.neighbour c.requires.settled c.none_overdue.ensures.still c.none_overdue.ensures.table
    (record { role = refl; mac = refl; chosen = refl; policies = refl; generator = refl; last = refl; params = refl; routers = refl; prefixes = refl; dns = refl; redirects = refl; solicitations = refl; router = refl; address_mac = refl; address_transmits = refl; address_limit = refl; neighbour_limit = c.confirmed-leaves.ensures.limit; waiting = c.confirmed-leaves.ensures.waiting })
    refl (Keeps refl (gains_as_resolved c.args.now (number_of c.args.neighbour.0) (Confirmed c.times_in_force-times.result.reachable) c.args.self.now.neighbours.entries c.confirmed-leaves.new.self.entries refl (λ s. refl) c.confirmed-leaves.ensures.stands)) c.times_in_force-times.result.reachable c.times_in_force-times.ensures.reachable c.confirmed-leaves.ensures.stands)

pub returns-clause-leaves : goal.returns-clause-leaves
returns-clause-leaves g c = λ leaves. rw c.advance_to.ensures (neighbours_leave c.args.self.now c.confirmed-leaves.new.self c.args.now (c.confirmed-leaves.ensures.leaves leaves))
