use Rattle.std.proofs.Common.{◌≡◌, length}
use Rattle.nd_search_list.specs.Names.{rest_in}
use Rattle.nd_search_list.proofs.names.rest_in.Given as goal

abbrev pub invariant-loop-after : goal.invariant-loop-after
invariant-loop-after l = rest_in l.rest ≡ rest_in l.bytes

abbrev pub decreases-loop-after : goal.decreases-loop-after
decreases-loop-after l = length l.rest
