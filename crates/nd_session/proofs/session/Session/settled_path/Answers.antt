use Rattle.std.proofs.Common.{inr, refl, subst, sym}
use Rattle.std.specs.Global.{Global}
use Rattle.nd_node.specs.declared.node.Node.{Node}
use Rattle.nd_node.specs.Time.{Leads, Passes}
use Rattle.nd_random.specs.declared.source.Source.{Source}
use Rattle.nd_random.specs.Source.{stream_of_source}
use Rattle.nd_session.proofs.Behind.{anyhow}
use Rattle.nd_session.proofs.Idling.{time_passes}
use Rattle.nd_session.proofs.session.Session.settled_path.Goals as goal

pub returns-in-Some-clause-passes : goal.returns-in-Some-clause-passes
returns-in-Some-clause-passes c =
    subst (λ (n : Node Source Global). Leads stream_of_source c.args.self.now.node n c.args.self.now.reports.items c.args.self.now.reports.items (Passes c.args.now)) (sym c.timed_path.ensures.same)
    (time_passes c.args.self.now.node c.args.self.now.reports.items c.args.now (c.in-Some.ensures.settled.0 refl))

pub returns-in_err-settle-clause-advances : goal.returns-in_err-settle-clause-advances
returns-in_err-settle-clause-advances c = anyhow c.from_residual.result (λ ready empty. inr (rw c.timed_path.ensures.same at (c.in_err-settle.ensures.advances (rw c.timed_path.ensures.same ready) empty)))
