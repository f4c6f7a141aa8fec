use Rattle.std.proofs.Common.{◌≡◌, ◌++◌}
use Rattle.std.specs.Prelude.{string_bytes}
use Rattle.std.specs.List.{flat_map}
use Rattle.nd_search_list.specs.NamesLeft.{names_left}
use Rattle.ndpctl_check.specs.OptionText.{search_text}
use Rattle.ndpctl_check.proofs.option_text.write_each_name.Given as goal

abbrev pub invariant-loop-name : goal.invariant-loop-name
invariant-loop-name g l =
    string_bytes l.text ++ flat_map search_text (names_left l.name-iterator) ≡ string_bytes l.fn.text ++ flat_map search_text (names_left l.initial.name-iterator)
