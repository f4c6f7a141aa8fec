use Rattle.std.proofs.Common.{ℕ, List, sym, ◌∙◌, subst, inl, inr, ⊎_elim}
use Rattle.std.specs.Global.{Global}
use Rattle.nd_out.specs.declared.out.Out.{Out}
use Rattle.nd_steps.specs.Outputs.{HasFrame, happenings}
use Rattle.nd_session.proofs.Keeping.{frame_left}
use Rattle.nd_session.proofs.session.Session.remove_oldest.Goals as goal

pub returns-in-None-clause-ready : goal.returns-in-None-clause-ready
returns-in-None-clause-ready c = λ none ready.
    ⊎_elim (λ there. inl there)
    (λ has. inr (subst (λ (q : List (ℕ × Out Global)). HasFrame (happenings q)) (sym c.pop_oldest.ensures.rest)
    (frame_left c.args.self.now.reports.items c.in-Some.field-0-0 c.in-Some.report (sym c.in-Some.is ∙ c.pop_oldest.ensures.taken) (c.block_of.ensures.other c.in-None.is) has)))
    ready
