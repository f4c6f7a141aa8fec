use Rattle.std.proofs.Common.{◌<◌, refl, sym, ◌∙◌, subst, arith}
use Rattle.nd_node.specs.NodeKept.{next_of}
use Rattle.nd_node.proofs.Running.{on_err_any}
use Rattle.nd_link.specs.Due.{AreSettled, IsFirst}
use Rattle.nd_link.specs.Told.{Tells}
use Rattle.nd_link.proofs.FirstNode.{none_dated, none_first, none_later}
use Rattle.nd_link.proofs.Walks.{settle_end, settle_more}
use Rattle.nd_link.proofs.link.Link.settle.Goals as goal

pub returns-in_default-clause-passes : goal.returns-in_default-clause-passes
returns-in_default-clause-passes g c =
    let none = sym c.deref.ensures.value ∙ c.in_default.ensures in
    settle_end g.R.Rng.stream c.args.self.now c.loop-place.self c.args.told.now.items c.loop-place.told.items c.args.now c.loop-place.invariant.onward
    (none_dated g.R.Rng.stream c.loop-place.self.nodes.items none) (none_later g.R.Rng.stream c.loop-place.self.nodes.items (λ i n. c.args.now < next_of n) none)

pub returns-then-due-now-clause-passes : goal.returns-then-due-now-clause-passes
returns-then-due-now-clause-passes g c =
    let first = subst (λ l. IsFirst g.R.Rng.stream l c.in-Some.place c.in-Some.due) c.deref.ensures.value c.in-Some.ensures in
    settle_end g.R.Rng.stream c.args.self.now c.loop-place.self c.args.told.now.items c.loop-place.told.items c.args.now c.loop-place.invariant.onward first.dated
    (λ i n is. let le = first.least i n is in let lt = c.if-due-now.true in omega (arith, le, lt))

pub returns-then-due-now-clause-settled : goal.returns-then-due-now-clause-settled
returns-then-due-now-clause-settled g c =
    let first = subst (λ l. IsFirst g.R.Rng.stream l c.in-Some.place c.in-Some.due) c.deref.ensures.value c.in-Some.ensures in
    λ i n is. let le = first.least i n is in let lt = c.if-due-now.true in omega (arith, le, lt)

pub loop-place-smaller : goal.loop-place-smaller
loop-place-smaller g c = c.in_ok-turn.ensures.fewer c.args.now c.if-due-now.false

pub returns-in_default-clause-idle : goal.returns-in_default-clause-idle
returns-in_default-clause-idle g c = λ settled. (refl, (c.loop-place.invariant.idle settled).0, (c.loop-place.invariant.idle settled).1)

pub returns-then-due-now-clause-idle : goal.returns-then-due-now-clause-idle
returns-then-due-now-clause-idle g c = λ settled. (refl, (c.loop-place.invariant.idle settled).0, (c.loop-place.invariant.idle settled).1)

pub returns-in_err-turn-clause-idle : goal.returns-in_err-turn-clause-idle
returns-in_err-turn-clause-idle g c = λ settled. absurd (
    let first = subst (λ l. IsFirst g.R.Rng.stream l c.in-Some.place c.in-Some.due) c.deref.ensures.value c.in-Some.ensures in
    let same = (c.loop-place.invariant.idle settled).0 in
    none_first g.R.Rng.stream c.loop-place.self.nodes.items c.in-Some.place c.in-Some.due c.args.now first c.if-due-now.false (subst (λ link. AreSettled c.args.now link.nodes.items) (sym same) settled))

pub loop-place-preserved : goal.loop-place-preserved
loop-place-preserved g c =
    let inv = c.loop-place.invariant in
    let last = c.in_ok-turn.ensures.last in
    let le = c.if-due-now.false in record {
      onward = settle_more g.R.Rng.stream c.args.self.now c.loop-place.self c.turn.new.self c.args.told.now.items c.loop-place.told.items c.turn.new.told.items c.args.now c.in-Some.due inv.onward c.in_ok-turn.ensures.leads le;
      in_time = omega (arith, last, le);
      wire = c.in_ok-turn.ensures.wire ∙ inv.wire;
      spent = c.in_ok-turn.ensures.spent ∙ inv.spent;
      idle = λ settled. absurd (
          let first = subst (λ l. IsFirst g.R.Rng.stream l c.in-Some.place c.in-Some.due) c.deref.ensures.value c.in-Some.ensures in
          let same = (c.loop-place.invariant.idle settled).0 in
          none_first g.R.Rng.stream c.loop-place.self.nodes.items c.in-Some.place c.in-Some.due c.args.now first c.if-due-now.false (subst (λ link. AreSettled c.args.now link.nodes.items) (sym same) settled));
    }

pub returns-in_err-turn-clause-told : goal.returns-in_err-turn-clause-told
returns-in_err-turn-clause-told g c =
    let was = c.args.told.now.items in
    on_err_any c.from_residual.result _ (record {
      each = λ log s. let m = c.loop-place.invariant.onward.each log s in (m.0, m.1, subst (Tells log m.0 was) (sym c.in_err-turn.ensures.told) m.3);
    })
