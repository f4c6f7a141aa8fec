use Rattle.std.proofs.Common.{◌≡◌}
use Rattle.nd_table.specs.Left.{standing_left}
use Rattle.nd_table.specs.Due.{lesser}
use Rattle.nd_routers.specs.OnLinkKept.{least_end}
use Rattle.nd_routers.proofs.on_link.least_end.Given as goal

-- the least so far and the least of the rest are the least of all
abbrev pub invariant-loop-entry : goal.invariant-loop-entry
invariant-loop-entry l = lesser l.least (least_end (standing_left l.entry-iterator)) ≡ least_end (standing_left l.initial.entry-iterator)
