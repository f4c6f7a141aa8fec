use Rattle.std.proofs.Common.{◌≡◌, length}
use Rattle.nd_search_list.specs.Reading.{lowers_to}
use Rattle.nd_search_list.proofs.reading.lowers_to.Given as goal

abbrev pub invariant-loop-rest : goal.invariant-loop-rest
invariant-loop-rest l = lowers_to l.rest l.left ≡ lowers_to l.bytes l.others

abbrev pub decreases-loop-rest : goal.decreases-loop-rest
decreases-loop-rest l = length l.rest
