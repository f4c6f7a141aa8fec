use Rattle.std.proofs.Common.{◌≡◌, length}
use Rattle.std.specs.List.{list_any}
use Rattle.nd_decode.specs.Pieces.{options_left}
use Rattle.nd_chronicle.specs.Hearing.{is_source_address}
use Rattle.nd_chronicle.specs.Reading.{without}
use Rattle.nd_steps.proofs.forbidden.gives_source_address.Given as goal

-- one of the rest is one of all
abbrev pub invariant-loop-option : goal.invariant-loop-option
invariant-loop-option l = list_any is_source_address (without l.own (options_left l.rest)) ≡ list_any is_source_address (without l.own (options_left l.initial.rest))

abbrev pub decreases-loop-option : goal.decreases-loop-option
decreases-loop-option l = length (options_left l.rest)
