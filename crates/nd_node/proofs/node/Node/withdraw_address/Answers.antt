use Rattle.std.proofs.Common.{refl, ap}
use Rattle.nd_node.proofs.ByHand.{withdraws, withdraws_none}
use Rattle.nd_node.proofs.node.Node.withdraw_address.Goals as goal

pub returns-clause-adds : goal.returns-clause-adds
returns-clause-adds g c =
    rw c.advance_to-2.ensures (withdraws g.R.Rng.stream c.args.self.now _ c.args.outs.now.items c.reserve.new.self.items c.push_reserved.new.self.items c.args.now c.args.addr c.requires.settled
    c.withdraw.result c.if-not-withdraw.false c.withdraw.ensures.story c.none_overdue.ensures.still c.none_overdue.ensures.table
    (record { role = refl; mac = refl; chosen = refl; policies = refl; generator = refl; last = refl; params = refl; routers = refl; prefixes = refl; dns = refl; redirects = ap (λ t. t.redirects) c.changed.ensures; solicitations = refl; router = refl; address_mac = c.withdraw.ensures.mac; address_transmits = c.withdraw.ensures.transmits; address_limit = c.withdraw.ensures.limit; neighbour_limit = refl; waiting = refl })
    refl c.changed.ensures (c.withdraw.ensures.gains c.if-not-withdraw.false c.args.now) _ refl c.in_ok-reserve.ensures.items c.push_reserved.ensures.items)

pub returns-then-not-withdraw-clause-adds : goal.returns-then-not-withdraw-clause-adds
returns-then-not-withdraw-clause-adds g c =
    rw c.advance_to.ensures (withdraws_none g.R.Rng.stream c.args.self.now _ c.args.outs.now.items c.reserve.new.self.items c.reserve.new.self.items c.args.now c.args.addr c.requires.settled
    c.withdraw.result c.if-not-withdraw.true c.withdraw.ensures.story (ap (λ a. record c.args.self.now { last = c.args.now; addresses = a }) (c.withdraw.ensures.same c.if-not-withdraw.true)) c.in_ok-reserve.ensures.items refl)
