use Rattle.std.proofs.Common.{ap, ◌∙◌}
use Rattle.std.proofs.lemmas.Result.{on_err_weaker, on_ok_weaker}
use Rattle.nd_lines.specs.Counts.{one_more}
use Rattle.nd_node.proofs.Running.{on_err_any}
use Rattle.nd_link.specs.Event.{link_event}
use Rattle.nd_link.proofs.Answering.{follows_leads, late_leads, passed_so_far, told_nothing, told_so_far}
use Rattle.nd_link.proofs.link.Link.answer.Goals as goal

pub returns-in_err-tell_refused-clause-told : goal.returns-in_err-tell_refused-clause-told
returns-in_err-tell_refused-clause-told g c =
    on_err_any c.from_residual.result _ (told_nothing g.R.Rng.stream c.args.self.now c.args.told.now.items c.tell_refused.new.told.items c.args.now c.in_err-tell_refused.ensures.same)

pub returns-then-now-self-clause-follows : goal.returns-then-now-self-clause-follows
returns-then-now-self-clause-follows g c = λ faithful.
    late_leads g.R.Rng.stream c.args.self.now c.args.told.now.items c.tell_refused.new.told.items c.args.now (link_event g.R.Rng.stream c.args.event) c.if-now-self.true c.in_ok-tell_refused.ensures.tells

pub returns-clause-follows : goal.returns-clause-follows
returns-clause-follows g c = λ faithful.
    on_ok_weaker c.add.result
    (λ happens. follows_leads g.R.Rng.stream c.args.self.now c.settle.new.self c.add.new.self c.args.told.now.items c.settle.new.told.items c.add.new.told.items c.args.now (link_event g.R.Rng.stream c.args.event) c.if-now-self.false
    c.in_ok-settle.ensures.passes happens)
    (c.add.ensures.leads faithful)

pub returns-clause-told : goal.returns-clause-told
returns-clause-told g c =
    on_err_weaker c.add.result (told_so_far g.R.Rng.stream c.args.self.now c.settle.new.self c.args.told.now.items c.settle.new.told.items c.add.new.told.items c.args.now c.in_ok-settle.ensures.onward) c.add.ensures.told

pub returns-clause-passes : goal.returns-clause-passes
returns-clause-passes g c = λ wire.
    passed_so_far g.R.Rng.stream c.args.self.now c.settle.new.self c.add.new.self c.args.told.now.items c.settle.new.told.items c.add.new.told.items c.args.now c.add.result _ c.in_ok-settle.ensures.passes (c.add.ensures.stands wire) wire
    c.add.ensures.told

pub returns-clause-wire_failed : goal.returns-clause-wire_failed
returns-clause-wire_failed g c = λ wire. c.add.ensures.fault wire ∙ ap (λ w. one_more (g.W.Wire.failed w)) c.settle.ensures.wire
