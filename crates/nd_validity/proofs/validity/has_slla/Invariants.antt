use Rattle.std.proofs.Common.{◌≡◌, length}
use Rattle.std.specs.List.{list_any}
use Rattle.nd_decode.specs.Pieces.{options_left}
use Rattle.nd_validity.specs.Validity.{is_slla}
use Rattle.nd_validity.proofs.validity.has_slla.Given as goal

abbrev pub invariant-loop-option : goal.invariant-loop-option
invariant-loop-option l = list_any is_slla (options_left l.rest) ≡ list_any is_slla (options_left l.initial.rest)

abbrev pub decreases-loop-option : goal.decreases-loop-option
decreases-loop-option l = length (options_left l.rest)
