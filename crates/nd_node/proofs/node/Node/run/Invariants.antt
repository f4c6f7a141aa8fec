use Rattle.std.proofs.Common.{take}
use Rattle.nd_node.specs.Event.{events_of, RunsBy}
use Rattle.nd_node.specs.Time.{Leads}
use Rattle.nd_node.proofs.node.Node.run.Given as goal

-- the events so far have come
abbrev pub invariant-loop-at : goal.invariant-loop-at
invariant-loop-at g l = Leads g.R.Rng.stream l.fn.self l.self l.fn.outs.items l.outs.items (RunsBy (take l.at-index (events_of l.events)))
