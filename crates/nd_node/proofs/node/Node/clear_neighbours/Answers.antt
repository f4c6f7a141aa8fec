use Rattle.std.proofs.Common.{refl, ap}
use Rattle.nd_steps.specs.DestinationCache.{Forgets}
use Rattle.nd_node.proofs.ClearedTables.{clears_neighbours}
use Rattle.nd_node.proofs.node.Node.clear_neighbours.Goals as goal

pub returns-clause-adds : goal.returns-clause-adds
returns-clause-adds g c =
    rw c.advance_to.ensures (clears_neighbours g.R.Rng.stream c.args.self.now _ c.args.outs.now.items c.reserve.new.self.items c.tell_packets.new.outs.items c.args.now c.requires.settled
    (record { role = refl; mac = refl; chosen = refl; policies = refl; generator = refl; last = refl; params = refl; routers = refl; prefixes = refl; dns = refl; redirects = ap (λ t. t.redirects) c.changed.ensures; solicitations = refl; router = refl; address_mac = refl; address_transmits = refl; address_limit = refl; neighbour_limit = c.in_ok-packets.ensures.limit; waiting = c.in_ok-packets.ensures.waiting })
    refl (Forgets c.changed.ensures) c.in_ok-packets.ensures.stands c.in_ok-packets.ensures.none c.in_ok-packets.packets.items c.in_ok-packets.ensures.packets c.in_ok-reserve.ensures.items c.tell_packets.ensures)
