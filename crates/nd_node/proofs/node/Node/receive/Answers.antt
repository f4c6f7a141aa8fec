use Rattle.std.proofs.Common.{subst, sym}
use Rattle.std.proofs.lemmas.Result.{IfOk-weaker}
use Rattle.nd_chronicle.specs.Event as events
use Rattle.nd_node.specs.Memory.{AsksForNone}
use Rattle.nd_node.specs.NodeKept.{Stands}
use Rattle.nd_node.proofs.Steps.{follows}
use Rattle.nd_node.proofs.node.Node.receive.Goals as goal

pub returns-then-is_past-clause-follows : goal.returns-then-is_past-clause-follows
returns-then-is_past-clause-follows g c = IfOk-weaker c.refuse_past.result _ _ (λ a past. past (events.Receives c.args.frame.now)) c.refuse_past.ensures.past

pub returns-clause-follows : goal.returns-clause-follows
returns-clause-follows g c =
    IfOk-weaker c.judge_frame.result _ _ (λ a adds. follows g.R.Rng.stream c.args.self.now _ _ _ _ _ c.args.now (events.Receives c.args.frame.now) c.if-is_past.ensures c.in_ok-settle.ensures.passes adds) c.judge_frame.ensures.adds

pub returns-clause-quiet : goal.returns-clause-quiet
returns-clause-quiet g c = λ start c' s le lt asks.
    let idle = c.in_ok-settle.ensures.idle lt in
    let now = c.args.now in
    let frame = events.Receives c.args.frame.now in
    c.judge_frame.ensures.quiet start c' (subst (λ node. Stands g.R.Rng.stream start node c') (sym idle.1) s) le
    (subst (λ node. AsksForNone start c' node now c.settle.new.outs.free frame) (sym idle.1)
    (subst (λ outs. AsksForNone start c' c.args.self.now now outs.free frame) (sym idle.2) asks))
