use Rattle.std.proofs.lemmas.Result.{IfOk-weaker, on_ok_weaker}
use Rattle.nd_node.proofs.Growing.{on_err_of, room_on}
use Rattle.nd_node.proofs.Leaving.{leave_both, passing_leaves}
use Rattle.nd_node.proofs.Walks.{first_advances, first_onward, first_passes, settle_end, still}
use Rattle.nd_node.proofs.node.Node.settle_in.Goals as goal

pub returns-then-next-now-clause-passes : goal.returns-then-next-now-clause-passes
returns-then-next-now-clause-passes g c =
    settle_end g.R.Rng.stream c.idle_time_passes.ensures _ _ _ _ c.args.now _ (still g.R.Rng.stream c.args.self.now c.args.outs.now.items c.args.now) c.next_due-next.ensures.due c.if-next-now.true

pub returns-in_err-leaves-clause-onward : goal.returns-in_err-leaves-clause-onward
returns-in_err-leaves-clause-onward g c = rw (c.in_err-leaves.ensures.same, c.in_err-leaves.ensures.told) (still g.R.Rng.stream c.args.self.now c.args.outs.now.items c.args.now)

pub returns-clause-onward : goal.returns-clause-onward
returns-clause-onward g c =
    first_onward g.R.Rng.stream c.idle_time_passes.ensures _ _ _ _ _ _ c.args.now _ c.next_due-next.ensures.due c.in_ok-leaves.ensures.leads c.if-next-now.false c.go_on.ensures.onward

pub returns-clause-passes : goal.returns-clause-passes
returns-clause-passes g c =
    on_ok_weaker c.go_on.result
    (first_passes g.R.Rng.stream c.idle_time_passes.ensures _ _ _ _ _ _ c.args.now _ c.next_due-next.ensures.due c.in_ok-leaves.ensures.leads c.if-next-now.false)
    c.go_on.ensures.passes

pub returns-clause-advances : goal.returns-clause-advances
returns-clause-advances g c = λ in_hand places.
    on_err_of c.go_on.result
    (first_advances g.R.Rng.stream c.idle_time_passes.ensures _ _ _ _ _ _ c.args.now _ c.next_due-next.ensures.due c.in_ok-leaves.ensures.leads c.if-next-now.false c.go_on.ensures.onward)

pub returns-clause-room : goal.returns-clause-room
returns-clause-room g c = room_on _ _ _ _ _ _ c.in_ok-leaves.ensures.room c.in_ok-leaves.ensures.grows c.go_on.ensures.room c.go_on.ensures.grows

pub returns-then-next-now-clause-leaves : goal.returns-then-next-now-clause-leaves
returns-then-next-now-clause-leaves g c = λ _. passing_leaves c.args.self.now c.args.self.now.last

pub returns-clause-leaves : goal.returns-clause-leaves
returns-clause-leaves g c =
    IfOk-weaker c.go_on.result _ _ (λ all h is. let rest = h is in leave_both c.args.self.now _ _ (c.in_ok-leaves.ensures.leaves rest.0) rest.1) c.go_on.ensures.leaves
