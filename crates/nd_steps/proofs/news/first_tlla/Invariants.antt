use Rattle.std.proofs.Common.{◌≡◌, length}
use Rattle.nd_decode.specs.Pieces.{options_left}
use Rattle.nd_chronicle.specs.Reading.{without}
use Rattle.nd_chronicle.specs.LinkLayerAddress.{first_tlla}
use Rattle.nd_steps.proofs.news.first_tlla.Given as goal

-- the first of the rest is the first of all
abbrev pub invariant-loop-option : goal.invariant-loop-option
invariant-loop-option l = first_tlla (without l.own (options_left l.rest)) ≡ first_tlla (without l.own (options_left l.initial.rest))

abbrev pub decreases-loop-option : goal.decreases-loop-option
decreases-loop-option l = length (options_left l.rest)
