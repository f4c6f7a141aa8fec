use Rattle.std.proofs.Common.{◌≡◌, ◌<◌, ◌≤◌, ℕ, Ok, ap, arith, ◌∙◌}
use Rattle.std.proofs.lemmas.Bool.{and_parts}
use Rattle.nd_node.specs.NodeKept.{next_of}
use Rattle.nd_node.proofs.Growing.{grows_on, room_on}
use Rattle.nd_node.proofs.Leaving.{leave_both}
use Rattle.nd_node.proofs.Walks.{settle_more, settle_end}
use Rattle.nd_node.proofs.node.Node.go_on.Goals as goal

-- what is due now isn't due later
turns_late : (first later next now : ℕ) → now < first → later ≡ first → next ≡ later → next ≤ now → ⊥
turns_late first later next now lt same is le = omega (arith, lt, same, is, le)

pub returns-then-next-now-clause-passes : goal.returns-then-next-now-clause-passes
returns-then-next-now-clause-passes g c =
    settle_end g.R.Rng.stream c.idle_time_passes.ensures _ _ _ _ c.args.now _ c.loop-now.invariant.0 c.next_due-next.ensures.due c.if-next-now.true

pub loop-now-preserved : goal.loop-now-preserved
loop-now-preserved g c = (
  settle_more g.R.Rng.stream c.idle_time_passes.ensures _ _ _ _ _ _ c.args.now _ c.loop-now.invariant.0 c.next_due-next.ensures.due c.in_ok-turn_leaves.ensures.leads c.if-next-now.false,
  λ lt. absurd (turns_late (next_of c.args.self.now) (next_of c.loop-now.self) c.next_due-next.result c.args.now lt (ap next_of (c.loop-now.invariant.1 lt).0) c.next_due-next.ensures.value c.if-next-now.false),
  room_on _ _ _ _ _ _ c.loop-now.invariant.2 c.loop-now.invariant.3 c.in_ok-turn_leaves.ensures.room c.in_ok-turn_leaves.ensures.grows,
  grows_on _ _ _ c.loop-now.invariant.3 c.in_ok-turn_leaves.ensures.grows,
  c.in_ok-turn_leaves.ensures.longest ∙ c.loop-now.invariant.4,
  λ all.
      let parts = and_parts _ _ all in
      let before = c.loop-now.invariant.5 parts.0 in (
        before.0,
        leave_both c.args.self.now c.loop-now.self _ before.1 (c.in_ok-turn_leaves.ensures.leaves parts.1),
      ),
)

pub returns-then-next-now-clause-idle : goal.returns-then-next-now-clause-idle
returns-then-next-now-clause-idle g c = λ lt. (ap Ok (c.loop-now.invariant.1 lt).2, (c.loop-now.invariant.1 lt).0, (c.loop-now.invariant.1 lt).1)

pub returns-in_err-turn_leaves-clause-idle : goal.returns-in_err-turn_leaves-clause-idle
returns-in_err-turn_leaves-clause-idle g c =
    λ lt. absurd (turns_late (next_of c.args.self.now) (next_of c.loop-now.self) c.next_due-next.result c.args.now lt (ap next_of (c.loop-now.invariant.1 lt).0) c.next_due-next.ensures.value c.if-next-now.false)

pub returns-in_err-turn_leaves-clause-room : goal.returns-in_err-turn_leaves-clause-room
returns-in_err-turn_leaves-clause-room g c = room_on _ _ _ _ _ _ c.loop-now.invariant.2 c.loop-now.invariant.3 c.in_err-turn_leaves.ensures.room c.in_err-turn_leaves.ensures.grows

pub returns-in_err-turn_leaves-clause-grows : goal.returns-in_err-turn_leaves-clause-grows
returns-in_err-turn_leaves-clause-grows g c = grows_on _ _ _ c.loop-now.invariant.3 c.in_err-turn_leaves.ensures.grows
