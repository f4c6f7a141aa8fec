use Rattle.std.proofs.Common.{◌≡◌, length}
use Rattle.nd_search_list.specs.Reading.{are_zeros}
use Rattle.nd_search_list.proofs.reading.are_zeros.Given as goal

abbrev pub invariant-loop-rest : goal.invariant-loop-rest
invariant-loop-rest l = are_zeros l.rest ≡ are_zeros l.bytes

abbrev pub decreases-loop-rest : goal.decreases-loop-rest
decreases-loop-rest l = length l.rest
