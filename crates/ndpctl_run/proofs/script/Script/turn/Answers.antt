use Rattle.std.proofs.Common.{string_bytes, subst}
use Rattle.std.proofs.lemmas.Result.{on_ok_weaker}
use Rattle.nd_node.specs.Time.{Comes, Leads}
use Rattle.ndpctl_run.proofs.Runs.{turn_answered}
use Rattle.ndpctl_run.proofs.script.Script.turn.Goals as goal

pub returns-clause-answered : goal.returns-clause-answered
returns-clause-answered g c =
    let leads = subst (λ l. Leads g.R.Rng.stream c.args.self.now.node c.turn.new.self l c.turn.new.outs.items (Comes c.args.next)) c.clear.ensures c.in_ok-turn.ensures.leads in
    let due = rw c.next_due-next.ensures.value at c.next_due-next.ensures.due in
    on_ok_weaker c.write_outs.result (turn_answered g.R.Rng.stream c.args.self.now.node c.turn.new.self c.args.next c.args.end c.turn.new.outs.items (string_bytes c.args.text.now) (string_bytes c.write_outs.new.text) c.requires.not_after (rw c.requires.due due) leads) c.write_outs.ensures.written
