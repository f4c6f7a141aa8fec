use Rattle.std.proofs.Common.{◌≡◌, ◌++◌, take, drop}
use Rattle.std.specs.Prelude.{map}
use Rattle.nd_addr.specs.Number.{number_of}
use Rattle.nd_routers.specs.Preferences.{preferred_anew}
use Rattle.nd_routers.proofs.preferred.prefer_each.Given as goal

abbrev pub invariant-loop-preferred : goal.invariant-loop-preferred
invariant-loop-preferred l =
    l.preferences ≡ map (preferred_anew (number_of l.addr.0) l.preference) (take l.preferred-index l.initial.preferences) ++ drop l.preferred-index l.initial.preferences
