use Rattle.std.proofs.Common.{ℕ, List, sym, subst}
use Rattle.std.proofs.lemmas.Result.{IfOk-weaker, on_err_weaker}
use Rattle.nd_node.specs.Event.{event_of, clearable_of}
use Rattle.nd_node.proofs.Judging.{stays_same}
use Rattle.nd_node.proofs.Steps.{not_past, passing}
use Rattle.nd_node.proofs.Refusals.{clears_left, forgets_left}
use Rattle.nd_chronicle.specs.Event as events
use Rattle.nd_chronicle.specs.Event.{EventAdds}
use Rattle.nd_node.specs.Memory.{AddsRefusal}
use Rattle.nd_node.proofs.node.Node.add.Goals as goal

pub returns-in-Passes-clause-adds : goal.returns-in-Passes-clause-adds
returns-in-Passes-clause-adds g c = rw c.in-Passes.is (passing g.R.Rng.stream c.args.self.now c.pass.new.self c.args.outs.now.items c.args.now c.requires.settled (c.pass.ensures.moves c.if-is_past.ensures))

pub returns-in-Forgets-clause-stays : goal.returns-in-Forgets-clause-stays
returns-in-Forgets-clause-stays g c = on_err_weaker c.forget.result (stays_same g.R.Rng.stream c.args.self.now c.forget.new.self) c.forget.ensures.keeps

pub returns-in-Clears-clause-stays : goal.returns-in-Clears-clause-stays
returns-in-Clears-clause-stays g c = on_err_weaker c.clear.result (stays_same g.R.Rng.stream c.args.self.now c.clear.new.self) c.clear.ensures.keeps

pub returns-then-is_past-clause-adds : goal.returns-then-is_past-clause-adds
returns-then-is_past-clause-adds g c = IfOk-weaker c.refuse_past.result _ _ (λ a past. not_past g.R.Rng.stream c.args.self.now c.refuse_past.new.self c.args.outs.now.items c.refuse_past.new.outs.items c.args.now (event_of c.args.event.now) c.if-is_past.ensures) c.refuse_past.ensures.past

pub returns-then-is_past-clause-past : goal.returns-then-is_past-clause-past
returns-then-is_past-clause-past g c = λ late. IfOk-weaker c.refuse_past.result _ _ (λ a past. past (event_of c.args.event.now)) c.refuse_past.ensures.past

pub returns-in-Receives-clause-refused : goal.returns-in-Receives-clause-refused
returns-in-Receives-clause-refused g c = rw c.in-Receives.is (λ start c' s le adds place.
    c.judge_frame.ensures.refused start c' s le (subst (λ (frame : List ℕ). AddsRefusal c.args.now c' (EventAdds start c.args.now (events.Receives frame))) (sym c.deref.ensures.value) adds) place)

pub returns-in-Forgets-clause-refused : goal.returns-in-Forgets-clause-refused
returns-in-Forgets-clause-refused g c = rw c.in-Forgets.is (λ start c' s le adds place. absurd (forgets_left start c.args.now c' c.in-Forgets.neighbour adds))

pub returns-in-Clears-clause-refused : goal.returns-in-Clears-clause-refused
returns-in-Clears-clause-refused g c = rw c.in-Clears.is (λ start c' s le adds place. absurd (clears_left start c.args.now c' (clearable_of c.in-Clears.table) adds))
