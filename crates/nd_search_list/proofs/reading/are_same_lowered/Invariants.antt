use Rattle.std.proofs.Common.{◌≡◌, length}
use Rattle.nd_search_list.specs.Name.{lowered}
use Rattle.nd_search_list.specs.Reading.{lowers_to}
use Rattle.nd_search_list.proofs.reading.are_same_lowered.Given as goal

abbrev pub invariant-loop-first : goal.invariant-loop-first
invariant-loop-first l = lowers_to l.first (lowered l.second) ≡ lowers_to l.bytes (lowered l.others)

abbrev pub decreases-loop-first : goal.decreases-loop-first
decreases-loop-first l = length l.first
