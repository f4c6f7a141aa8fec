use Rattle.std.proofs.lemmas.Result.{IfOk-weaker}
use Rattle.nd_node.specs.Event.{request_of}
use Rattle.nd_node.proofs.Steps.{follows}
use Rattle.nd_node.proofs.node.Node.request.Goals as goal

pub returns-then-is_past-clause-follows : goal.returns-then-is_past-clause-follows
returns-then-is_past-clause-follows g c = IfOk-weaker c.refuse_past.result _ _ (λ a past. past (request_of c.args.request.now)) c.refuse_past.ensures.past

pub returns-clause-follows : goal.returns-clause-follows
returns-clause-follows g c =
    IfOk-weaker c.add_request.result _ _ (λ a adds. follows g.R.Rng.stream c.args.self.now _ _ _ _ _ c.args.now (request_of c.args.request.now) c.if-is_past.ensures c.in_ok-settle.ensures.passes adds) c.add_request.ensures.adds
