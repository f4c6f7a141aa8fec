use Rattle.std.proofs.Common.{◌≡◌, length}
use Rattle.nd_search_list.specs.Reading.{are_small}
use Rattle.nd_search_list.proofs.reading.are_small.Given as goal

abbrev pub invariant-loop-rest : goal.invariant-loop-rest
invariant-loop-rest l = are_small l.rest ≡ are_small l.bytes

abbrev pub decreases-loop-rest : goal.decreases-loop-rest
decreases-loop-rest l = length l.rest
