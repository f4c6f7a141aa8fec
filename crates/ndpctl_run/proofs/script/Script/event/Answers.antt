use Rattle.std.proofs.Common.{string_bytes, subst}
use Rattle.std.proofs.lemmas.Result.{on_ok_weaker}
use Rattle.nd_node.specs.Answer.{answer_of}
use Rattle.nd_node.specs.Event.{request_of, FollowsBy}
use Rattle.nd_node.specs.Time.{Leads}
use Rattle.ndpctl_run.proofs.Runs.{event_answered}
use Rattle.ndpctl_run.proofs.script.Script.event.Goals as goal

pub returns : goal.returns
returns g c =
    let leads = subst (λ l. Leads g.R.Rng.stream c.args.self.now.node c.request.new.self l c.request.new.outs.items (FollowsBy c.args.at (request_of c.args.event) (answer_of c.in_ok-request.field-0))) c.clear.ensures c.in_ok-request.ensures.follows in
    on_ok_weaker c.write_outs.result
    (event_answered g.R.Rng.stream c.args.self.now.node c.request.new.self c.args.at (request_of c.args.event) c.request.new.outs.items (string_bytes c.args.text.now) (string_bytes c.write_outs.new.text) leads) c.write_outs.ensures.written
