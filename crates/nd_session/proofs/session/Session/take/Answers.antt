use Rattle.std.proofs.Common.{◌≡◌, ℕ, List, sym, subst, inl, inr, ⊎_elim}
use Rattle.std.specs.Prelude.{option_copied, slice_get}
use Rattle.std.specs.Global.{Global}
use Rattle.nd_out.specs.declared.out.Out.{Out}
use Rattle.nd_steps.specs.Outputs.{HasFrame, happenings}
use Rattle.nd_session.proofs.Keeping.{frame_left}
use Rattle.nd_session.proofs.session.Session.take.Goals as goal

pub returns-clause-ready : goal.returns-clause-ready
returns-clause-ready c = λ ready.
    ⊎_elim (λ there. inl there)
    (λ has. inr (subst (λ (q : List (ℕ × Out Global)). HasFrame (happenings q)) (sym c.pop_oldest-2.ensures.rest)
    (frame_left c.args.self.now.reports.items c.in-Some.field-0.now.0 c.in-Some.field-0.now.1 (subst (λ r. option_copied r ≡ slice_get c.args.self.now.reports.items 0) c.in-Some.is c.oldest.ensures) (c.is_frame.ensures.other c.if-is_frame.false) has)))
    ready
