use Rattle.std.proofs.Common.{refl, ap, ◌∙◌}
use Rattle.nd_chronicle.specs.Happening.{Sent}
use Rattle.nd_node.proofs.Detections.{defends, duplicates}
use Rattle.nd_node.proofs.node.Node.hear_detection.Goals as goal

pub returns-then-hear_conflict-clause-adds : goal.returns-then-hear_conflict-clause-adds
returns-then-hear_conflict-clause-adds g c = λ options.
    let e = c.report_heard.ensures.clock in
    let conflict = rw e at c.if-hear_conflict.ensures in
    rw e (duplicates g.R.Rng.stream c.args.self.now _ c.args.outs.now.items _ _ c.push_reserved.new.self.items c.args.now c.args.heard.now.source c.args.heard.now.destination c.args.ns.now options
    c.requires.unspecified c.requires.settled _ _ refl c.in_ok-reserve.ensures.items (rw c.requires.body at c.report_heard.ensures.items) c.push_reserved.ensures.items
    c.none_overdue.ensures.still c.none_overdue.ensures.table refl
    (record { role = refl; mac = refl; chosen = refl; policies = refl; generator = refl; last = refl; params = refl; routers = refl; prefixes = refl; dns = refl; redirects = ap (λ t. t.redirects) conflict.remembers; solicitations = refl; router = refl; address_mac = conflict.mac; address_transmits = conflict.transmits; address_limit = conflict.limit; neighbour_limit = refl; waiting = refl })
    conflict.remembers refl conflict.tentative (conflict.gains refl c.args.now))

pub returns-clause-adds : goal.returns-clause-adds
returns-clause-adds g c = λ options.
    let e = c.report_heard.ensures.clock in
    let conflict = rw e at c.if-hear_conflict.ensures in
    rw e (defends g.R.Rng.stream c.args.self.now _ c.args.outs.now.items _ _ c.push_reserved-2.new.self.items c.args.now c.args.heard.now.source c.args.heard.now.destination c.args.ns.now options
    c.requires.unspecified c.requires.settled _ _ refl c.in_ok-reserve.ensures.items (rw c.requires.body at c.report_heard.ensures.items) c.push_reserved-2.ensures.items
    c.is_router-router.result (rw e at c.is_router-router.ensures) (ap Sent (rw e at c.defence-defence.ensures))
    (ap (λ a. record c.args.self.now { last = c.args.now; addresses = a; choice = c.hear_conflict.new.choice }) (conflict.same refl)
    ∙ ap (λ t. record c.args.self.now { last = c.args.now; choice = t }) conflict.remembers)
    conflict.tentative)
