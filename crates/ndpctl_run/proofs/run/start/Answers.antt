use Rattle.std.proofs.lemmas.Result.{IfOk-weaker}
use Rattle.nd_node.specs.Node.{starting}
use Rattle.ndpctl_run.proofs.run.start.Goals as goal

pub returns-in-Ok : goal.returns-in-Ok
returns-in-Ok g c =
    let asked = c.args.options in
    IfOk-weaker c.new-in-Ok.result _ _
    (λ script is. rw is (c.with_policies.ensures.stands (starting 0 asked.role asked.mac asked.transmits asked.limits (g.R.Rng.stream asked.generator)) c.in-Ok.ensures.stands)) c.new-in-Ok.ensures
