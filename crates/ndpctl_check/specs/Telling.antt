-- The text of what is heard in a frame.
use Rattle.std.specs.Prelude.{ℕ, List, ◌++◌, codes}
use Rattle.std.specs.Fmt.{decimal}
use Rattle.std.specs.List.{flat_map}
use Rattle.nd_addr.specs.Why.{number_of, name_of}
use Rattle.nd_validity.specs.Hearing.{Outcome, valid, other, dropped}
use Rattle.ndpctl_check.specs.MessageText.{body_text}
use Rattle.ndpctl_check.specs.OptionText.{option_text}

-- the text of what is heard
abbrev pub told : Outcome → List ℕ
told (dropped why) = codes "drop " ++ decimal (number_of why) ++ codes " " ++ name_of why
told (other packet) = codes "other " ++ decimal packet.header.next_header
told (valid source destination message) = body_text source destination message.body ++ flat_map option_text message.options
