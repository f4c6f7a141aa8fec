use Rattle.std.proofs.Common.{◌≡◌, drop}
use Rattle.nd_addr.specs.Number.{number_of}
use Rattle.nd_routers.specs.Preferences.{preference_among}
use Rattle.nd_routers.proofs.preferred.preference_among.Given as goal

-- the router is among the rest where it is anywhere
abbrev pub invariant-loop-preferred : goal.invariant-loop-preferred
invariant-loop-preferred l = preference_among (number_of l.addr.0) (drop l.preferred-index l.preferences) ≡ preference_among (number_of l.addr.0) l.preferences
