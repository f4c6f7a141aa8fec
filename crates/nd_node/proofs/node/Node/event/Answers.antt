use Rattle.std.proofs.lemmas.Result.{IfOk-weaker}
use Rattle.nd_node.specs.Event.{event_of}
use Rattle.nd_node.proofs.Steps.{follows}
use Rattle.nd_node.proofs.node.Node.event.Goals as goal

pub returns-then-is_past-clause-follows : goal.returns-then-is_past-clause-follows
returns-then-is_past-clause-follows g c = IfOk-weaker c.refuse_past.result _ _ (λ a past. past (event_of c.args.event.now)) c.refuse_past.ensures.past

pub returns-clause-follows : goal.returns-clause-follows
returns-clause-follows g c =
    IfOk-weaker c.add.result _ _ (λ a adds. follows g.R.Rng.stream c.args.self.now _ _ _ _ _ c.args.now (event_of c.args.event.now) c.if-is_past.ensures c.in_ok-settle.ensures.passes adds) c.add.ensures.adds
