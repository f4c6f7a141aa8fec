use Rattle.std.proofs.Common.{◌≡◌, drop}
use Rattle.nd_table.specs.DueKept.{first_at}
use Rattle.nd_neighbour.specs.GivingWayKept.{begun}
use Rattle.nd_neighbour.proofs.giving_way.begun_at.Given as goal

-- the first of the rest is the first of all
abbrev pub invariant-loop-entry : goal.invariant-loop-entry
invariant-loop-entry g l = first_at begun l.moment (drop l.entry-index l.entries) ≡ first_at begun l.moment l.entries
