use Rattle.std.proofs.Common.{◌≡◌, drop}
use Rattle.nd_table.specs.Due.{lesser}
use Rattle.nd_table.specs.DueKept.{least_date}
use Rattle.nd_neighbour.specs.GivingWayKept.{begun}
use Rattle.nd_neighbour.proofs.giving_way.first_begun.Given as goal

-- with the first of the rest it is the first of all
abbrev pub invariant-loop-entry : goal.invariant-loop-entry
invariant-loop-entry g l = lesser l.first (least_date begun (drop l.entry-index l.entries)) ≡ least_date begun l.entries
