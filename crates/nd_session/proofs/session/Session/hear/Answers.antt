use Rattle.std.proofs.Common.{sym, ◌∙◌, ap}
use Rattle.nd_node.specs.Answer.{answer_of}
use Rattle.nd_session.specs.Slots.{Slots}
use Rattle.nd_session.proofs.Behind.{answered_of, failed_of, idle_of, left_alone}
use Rattle.nd_session.proofs.Lasting.{keeps_where}
use Rattle.nd_session.proofs.Remembered.{remembers_where}
use Rattle.nd_session.proofs.session.Session.hear.Goals as goal

pub returns-clause-adds : goal.returns-clause-adds
returns-clause-adds c = answered_of c.hear_frame-heard.result c.answer_in.result c.answer_in.ensures _ c.hear_frame-heard.ensures.adds

pub returns-clause-stays : goal.returns-clause-stays
returns-clause-stays c = failed_of c.hear_frame-heard.result _ c.answer_in.result c.answer_in.ensures c.hear_frame-heard.ensures.stays

pub returns-clause-told : goal.returns-clause-told
returns-clause-told c = failed_of c.hear_frame-heard.result _ c.answer_in.result c.answer_in.ensures c.hear_frame-heard.ensures.told

pub invariant_of-self : goal.invariant_of-self
invariant_of-self c = record {
  remembered = remembers_where c.changes_tables.result c.args.self.now.paths c.forget_where.new.self c.args.self.now.node c.hear_frame-heard.new.self c.args.now c.forget_where.ensures.forgotten c.forget_where.ensures.kept
      (λ same. left_alone c.hear_frame-heard.result _ (sym c.changes_tables.ensures ∙ same) c.hear_frame-heard.ensures.leaves) c.args.self.now.remembered;
}

pub returns-clause-leases : goal.returns-clause-leases
returns-clause-leases c =
    keeps_where c.changes_tables.result c.args.self.now _ c.args.now c.forget_where.ensures.least
    c.forget_where.ensures.grows (λ same. left_alone c.hear_frame-heard.result _ (sym c.changes_tables.ensures ∙ same) c.hear_frame-heard.ensures.leaves)

pub returns-clause-idle : goal.returns-clause-idle
returns-clause-idle c = λ verdict start history s le heard leaves.
    idle_of c.hear_frame-heard.result _ c.answer_in.result c.answer_in.ensures (c.hear_frame-heard.ensures.idle verdict start history s le heard leaves)
    (λ idle. ap (λ (p : Slots). p.leases) (c.forget_where.ensures.kept (c.changes_tables.ensures ∙ idle)))
