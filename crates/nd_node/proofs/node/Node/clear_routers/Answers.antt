use Rattle.std.proofs.Common.{refl, ◌∙◌, ap}
use Rattle.nd_steps.proofs.Telling.{numbers}
use Rattle.nd_node.proofs.ClearedTables.{clears_routers}
use Rattle.nd_node.proofs.node.Node.clear_routers.Goals as goal

pub returns-clause-adds : goal.returns-clause-adds
returns-clause-adds g c =
    rw c.advance_to.ensures (clears_routers g.R.Rng.stream c.args.self.now _ c.args.outs.now.items c.reserve.new.self.items c.tell_routers.new.outs.items c.args.now c.requires.settled
    (record { role = refl; mac = refl; chosen = refl; policies = refl; generator = refl; params = refl; prefixes = refl; dns = refl; solicitations = refl; router = refl; address_mac = refl; address_transmits = refl; address_limit = refl; neighbour_limit = refl; waiting = refl; room = record { redirects = c.clear-2.ensures.limit; destinations = c.clear-2.ensures.destinations }; router_limit = ap (λ t. t.limit) c.in_ok-routers.ensures.none; last = refl })
    refl refl c.in_ok-routers.ensures.stands (ap (λ t. t.entries) c.in_ok-routers.ensures.none) (c.clear-2.ensures.stands c.args.now) c.clear-2.ensures.memory
    c.deref.result.now (ap numbers c.deref.ensures.value ∙ c.in_ok-routers.ensures.routers) c.in_ok-reserve.ensures.items c.tell_routers.ensures)
