use Rattle.std.proofs.Common.{take}
use Rattle.nd_link.specs.Due.{FirstDue}
use Rattle.nd_link.proofs.due.first_due.Given as goal

-- it is the first of those so far
abbrev pub invariant-loop-i : goal.invariant-loop-i
invariant-loop-i g l = FirstDue g.R.Rng.stream (take l.i l.nodes) l.first
