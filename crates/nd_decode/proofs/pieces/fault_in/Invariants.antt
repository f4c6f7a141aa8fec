use Rattle.std.proofs.Common.{◌≡◌, length}
use Rattle.nd_decode.specs.Whole.{rest_in}
use Rattle.nd_decode.proofs.pieces.fault_in.Given as goal

abbrev pub invariant-loop-after : goal.invariant-loop-after
invariant-loop-after l = rest_in l.rest ≡ rest_in l.bytes

abbrev pub decreases-loop-after : goal.decreases-loop-after
decreases-loop-after l = length l.rest
