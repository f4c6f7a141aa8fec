use Rattle.std.proofs.Common.{◌≡◌, length}
use Rattle.nd_decode.specs.Pieces.{options_left}
use Rattle.nd_decode.specs.OfType.{first_prefix}
use Rattle.nd_decode.proofs.options.Options.next_prefix.Given as goal

-- the first that is to come is the same at each step
abbrev pub invariant-loop-piece : goal.invariant-loop-piece
invariant-loop-piece l = first_prefix (options_left l.self) ≡ first_prefix (options_left l.initial.self)

abbrev pub decreases-loop-piece : goal.decreases-loop-piece
decreases-loop-piece l = length l.self.rest.now
