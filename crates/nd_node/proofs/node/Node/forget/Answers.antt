use Rattle.std.proofs.Common.{refl, ap}
use Rattle.nd_steps.specs.DestinationCache.{Forgets}
use Rattle.nd_node.proofs.Commands.{forgets}
use Rattle.nd_node.proofs.node.Node.forget.Goals as goal

pub returns-clause-adds : goal.returns-clause-adds
returns-clause-adds g c =
    rw c.advance_to.ensures (forgets g.R.Rng.stream c.args.self.now _ c.args.now c.args.neighbour c.requires.settled c.none_overdue.ensures.still c.none_overdue.ensures.table
    (record { role = refl; mac = refl; chosen = refl; policies = refl; generator = refl; last = refl; params = refl; routers = refl; prefixes = refl; dns = refl; redirects = ap (λ t. t.redirects) c.changed.ensures; solicitations = refl; router = refl; address_mac = refl; address_transmits = refl; address_limit = refl; neighbour_limit = c.forget-packets.ensures.limit; waiting = c.forget-packets.ensures.waiting })
    refl (Forgets c.changed.ensures) c.args.outs.now.items c.reserve.new.self.items c.tell_lost.new.outs.items c.forget-packets.result (c.forget-packets.ensures.stands c.args.now) c.forget-packets.ensures.packets c.in_ok-reserve.ensures.items c.tell_lost.ensures.told)
