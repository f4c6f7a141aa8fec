use Rattle.nd_node.specs.Event.{events_of}
use Rattle.nd_node.proofs.Running.{came, came_in_part, at_place, split_at_place, on_err_any}
use Rattle.nd_node.proofs.node.Node.run.Goals as goal

pub loop-at-preserved : goal.loop-at-preserved
loop-at-preserved g c =
    came g.R.Rng.stream c.args.self.now c.loop-at.self c.event.new.self c.args.outs.now.items c.loop-at.outs.items c.event.new.outs.items _ c.loop-at.invariant _ _ _ (at_place c.args.events.now c.loop-at.at-index _ c.loop-at-test.true c.loop-at-item.is) c.in_ok-event.ensures.follows

pub returns-in_err-event-clause-in_part : goal.returns-in_err-event-clause-in_part
returns-in_err-event-clause-in_part g c =
    on_err_any c.from_residual.result _ (came_in_part g.R.Rng.stream c.args.self.now c.loop-at.self c.event.new.self c.args.outs.now.items c.loop-at.outs.items c.event.new.outs.items _ c.loop-at.invariant (events_of c.args.events.now) _ _ _
    (split_at_place c.args.events.now c.loop-at.at-index _ c.loop-at-test.true c.loop-at-item.is) c.in_err-event.ensures.onward)
