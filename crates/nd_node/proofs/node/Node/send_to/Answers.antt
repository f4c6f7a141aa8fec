use Rattle.std.proofs.Common.{refl}
use Rattle.nd_addr.specs.Number.{number_of}
use Rattle.nd_node.proofs.OutgoingPackets.{goes_to}
use Rattle.nd_node.proofs.node.Node.send_to.Goals as goal

pub returns-clause-adds : goal.returns-clause-adds
returns-clause-adds g c =
    goes_to g.R.Rng.stream c.args.self.now c.go.new.self c.args.outs.now.items c.go.new.outs.items c.args.now (number_of c.args.to.0) c.args.packet c.requires.settled
    (record c.args.self.now { last = c.args.now; neighbours = c.ready_for.new.neighbours }) c.ready_for.new.outs.items
    (record { role = refl; mac = refl; chosen = refl; policies = refl; generator = refl; last = refl; params = refl; routers = refl; prefixes = refl; addresses = refl; entries = c.ready_for.ensures.entries; limit = c.ready_for.ensures.limit; waiting = c.ready_for.ensures.waiting; dns = refl; choice = refl; solicitations = refl; router = refl })
    c.ready_for.ensures.same c.room_is_place.ensures c.full_by_history.ensures c.requires.room (rw c.advance_to.ensures at c.go.ensures.leads)
