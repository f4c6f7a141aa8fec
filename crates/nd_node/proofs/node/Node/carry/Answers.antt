use Rattle.std.proofs.Common.{◌<◌, sym, subst}
use Rattle.std.proofs.lemmas.Result.{IfOk-weaker}
use Rattle.nd_addr.specs.Ip6.{packet_parts}
use Rattle.nd_chronicle.specs.Event as events
use Rattle.nd_node.specs.NodeKept.{Stands}
use Rattle.nd_node.proofs.Steps.{follows}
use Rattle.nd_node.proofs.node.Node.carry.Goals as goal

pub returns-then-is_past-clause-follows : goal.returns-then-is_past-clause-follows
returns-then-is_past-clause-follows g c = IfOk-weaker c.refuse_past.result _ _ (λ a past. past (events.Carries (packet_parts c.args.packet.now))) c.refuse_past.ensures.past

pub returns-clause-follows : goal.returns-clause-follows
returns-clause-follows g c =
    IfOk-weaker c.carry_packet.result _ _ (λ a adds. follows g.R.Rng.stream c.args.self.now _ _ _ _ _ c.args.now (events.Carries (packet_parts c.args.packet.now)) c.if-is_past.ensures c.in_ok-settle.ensures.passes adds) c.carry_packet.ensures.adds

pub returns-clause-refused : goal.returns-clause-refused
returns-clause-refused g c = λ start c' s le lt adds place.
    let idle = c.in_ok-settle.ensures.idle lt in
    c.carry_packet.ensures.refused start c' (subst (λ node. Stands g.R.Rng.stream start node c') (sym idle.1) s) le adds (subst (λ outs. 0 < outs.free) (sym idle.2) place)
