use Rattle.std.proofs.Common.{◌≡◌, length}
use Rattle.nd_decode.specs.Pieces.{options_left}
use Rattle.nd_decode.specs.OfType.{from_kind}
use Rattle.nd_decode.proofs.options.Options.next_of_type.Given as goal

-- what is to come of the type is the same at each step
abbrev pub invariant-loop-piece : goal.invariant-loop-piece
invariant-loop-piece l = from_kind l.kind (options_left l.self) ≡ from_kind l.kind (options_left l.initial.self)

abbrev pub decreases-loop-piece : goal.decreases-loop-piece
decreases-loop-piece l = length l.self.rest.now
