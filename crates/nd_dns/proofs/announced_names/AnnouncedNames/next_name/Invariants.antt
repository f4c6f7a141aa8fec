use Rattle.std.proofs.Common.{◌≡◌, [], length}
use Rattle.nd_decode.specs.Pieces.{options_left}
use Rattle.nd_dns.specs.AnnouncedNamesKept.{names_to_come, at_hand}
use Rattle.nd_dns.proofs.announced_names.AnnouncedNames.next_name.Given as goal

-- nothing is left of the option at hand, and what is to come is the same at each step
abbrev pub invariant-loop-option : goal.invariant-loop-option
invariant-loop-option l = (at_hand l.self.names ≡ []) × (names_to_come l.self ≡ names_to_come l.initial.self)

abbrev pub decreases-loop-option : goal.decreases-loop-option
decreases-loop-option l = length (options_left l.self.options)
