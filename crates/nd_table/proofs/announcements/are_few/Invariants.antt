use Rattle.std.proofs.Common.{◌≡◌, ◌+◌, length}
use Rattle.nd_table.proofs.announcements.are_few.Given as goal

-- one place is taken for each announcement so far
abbrev pub invariant-loop-left : goal.invariant-loop-left
invariant-loop-left g l = length (g.I.Announces.told l.initial.rest) + l.left ≡ length (g.I.Announces.told l.rest) + l.room

abbrev pub decreases-loop-left : goal.decreases-loop-left
decreases-loop-left g l = length (g.I.Announces.told l.rest)
