use Rattle.std.proofs.Common.{◌<◌, length, refl, subst, arith}
use Rattle.nd_chronicle.specs.Start.{Limits}
use Rattle.nd_chronicle.specs.History.{beginning}
use Rattle.nd_node.specs.NodeKept as node
use Rattle.nd_node.specs.Node.{starting}
use Rattle.nd_link_log.specs.Event.{max_nodes}
use Rattle.nd_link.proofs.Answering.{start_leads}
use Rattle.nd_link.proofs.Refusing.{start_left}
use Rattle.nd_link.proofs.link.Link.start.Goals as goal

pub returns-clause-leads : goal.returns-clause-leads
returns-clause-leads g c =
    let ok = c.args.self.now.nodes.ok.0 in
    let few = c.args.self.now.few in
    let e = c.len.ensures in
    let ne = c.if-len-eq-MAX_NODES.false in
    let less : length c.args.self.now.nodes.items < max_nodes = omega (arith, ok, few, e, ne) in
    let words = g.R.Rng.stream c.args.generator in
    let stands = subst (λ (limits : Limits). node.Stands g.R.Rng.stream (starting c.args.now c.args.role c.args.mac c.args.transmits limits words) c.in-Ok.node (beginning (starting c.args.now c.args.role c.args.mac c.args.transmits limits words))) c.usual.ensures c.in-Ok.ensures.stands in
    start_leads g.R.Rng.stream c.args.self.now c.reach.new.self _ c.args.told.now.items c.in-Ok.node c.args.now c.args.role c.args.mac c.args.transmits (g.R.Rng.stream c.args.generator) less c.reach.ensures.reaches stands c.in_ok-push.ensures.items refl refl

pub returns-in_default-clause-refused : goal.returns-in_default-clause-refused
returns-in_default-clause-refused g c = λ why log s h place.
    let ok = c.args.self.now.nodes.ok.0 in
    let few = c.args.self.now.few in
    let e = c.len.ensures in
    let ne = c.if-len-eq-MAX_NODES.false in
    let less : length c.args.self.now.nodes.items < max_nodes = omega (arith, ok, few, e, ne) in
    absurd (start_left g.R.Rng.stream c.args.self.now c.args.now why log s c.args.role c.args.mac c.args.transmits (g.R.Rng.stream c.args.generator) less h)

pub returns-in_err-push-clause-refused : goal.returns-in_err-push-clause-refused
returns-in_err-push-clause-refused g c = λ why log s h place.
    let ok = c.args.self.now.nodes.ok.0 in
    let few = c.args.self.now.few in
    let e = c.len.ensures in
    let ne = c.if-len-eq-MAX_NODES.false in
    let less : length c.args.self.now.nodes.items < max_nodes = omega (arith, ok, few, e, ne) in
    absurd (start_left g.R.Rng.stream c.args.self.now c.args.now why log s c.args.role c.args.mac c.args.transmits (g.R.Rng.stream c.args.generator) less h)
