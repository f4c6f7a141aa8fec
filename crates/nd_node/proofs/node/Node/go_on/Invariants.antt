use Rattle.std.specs.Prelude.{true, ◌≡◌, ◌<◌, ◌⊎◌}
use Rattle.nd_steps.specs.Outputs.{Grows, SendsFrame}
use Rattle.nd_node.specs.Time.{Leads, Onward, longest_due}
use Rattle.nd_node.specs.NodeKept.{next_of, turns_left}
use Rattle.nd_node.specs.PathKept.{LeavesPaths}
use Rattle.nd_node.proofs.node.Node.go_on.Given as goal

-- the node stands for where the walk has come to, where nothing is due up to the moment nothing has happened, the room is as it was unless a
-- frame was sent, and the paths are left
abbrev pub invariant-loop-now : goal.invariant-loop-now
invariant-loop-now g l = Leads g.R.Rng.stream l.fn.self l.self l.fn.outs.items l.outs.items (Onward l.now) × (l.now < next_of l.fn.self → (l.self ≡ l.fn.self) × (l.outs ≡ l.fn.outs) × (l.leaves ≡ l.fn.leaves))
    × ((l.room ≡ l.fn.room) ⊎ SendsFrame l.fn.outs.items l.outs.items) × Grows l.fn.outs.items l.outs.items × (longest_due l.self ≡ longest_due l.fn.self)
    × (l.leaves ≡ true → (l.fn.leaves ≡ true) × LeavesPaths l.fn.self l.self)

-- each turn leaves fewer turns
abbrev pub decreases-loop-now : goal.decreases-loop-now
decreases-loop-now g l = turns_left l.now l.self
