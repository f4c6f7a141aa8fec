use Rattle.std.proofs.Common.{◌≡◌, ◌++◌}
use Rattle.std.specs.Prelude.{string_bytes}
use Rattle.std.specs.List.{flat_map}
use Rattle.nd_decode.specs.Pieces.{options_left}
use Rattle.ndpctl_check.specs.OptionText.{option_text}
use Rattle.ndpctl_check.proofs.option_text.write_options.Given as goal

abbrev pub invariant-loop-option : goal.invariant-loop-option
invariant-loop-option g l =
    string_bytes l.text ++ flat_map option_text (options_left l.option-iterator) ≡ string_bytes l.fn.text ++ flat_map option_text (options_left l.initial.option-iterator)
