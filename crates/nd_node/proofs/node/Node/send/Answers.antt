use Rattle.std.proofs.Common.{◌<◌, sym, subst}
use Rattle.std.proofs.lemmas.Result.{IfOk-weaker}
use Rattle.nd_chronicle.specs.Event as events
use Rattle.nd_node.specs.NodeKept.{Stands}
use Rattle.nd_node.proofs.OutgoingPackets.{send_refused}
use Rattle.nd_node.proofs.Steps.{follows}
use Rattle.nd_node.proofs.node.Node.send.Goals as goal

pub returns-then-is_past-clause-follows : goal.returns-then-is_past-clause-follows
returns-then-is_past-clause-follows g c = IfOk-weaker c.refuse_past.result _ _ (λ a past. past (events.Sends c.args.source c.args.destination c.args.next_header c.args.payload.now)) c.refuse_past.ensures.past

pub returns-clause-follows : goal.returns-clause-follows
returns-clause-follows g c =
    IfOk-weaker c.send_packet.result _ _ (λ a adds. follows g.R.Rng.stream c.args.self.now _ _ _ _ _ c.args.now (events.Sends c.args.source c.args.destination c.args.next_header c.args.payload.now) c.if-is_past.ensures c.in_ok-settle.ensures.passes adds) c.send_packet.ensures.adds

pub returns-clause-refused : goal.returns-clause-refused
returns-clause-refused g c = λ refusal start c' s le lt is place.
    let idle = c.in_ok-settle.ensures.idle lt in
    c.send_packet.ensures.refused start c' (subst (λ node. Stands g.R.Rng.stream start node c') (sym idle.1) s) le
    (send_refused start c.args.now c.args.source c.args.destination c.args.next_header c.args.payload.now c' refusal is) (subst (λ outs. 0 < outs.free) (sym idle.2) place)
