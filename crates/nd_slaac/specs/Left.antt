-- What an iterator over the addresses has left.
use Rattle.std.specs.Prelude.{List, map}
use Rattle.nd_slaac.specs.declared.shown.ShownAddresses.{ShownAddresses}
use Rattle.nd_slaac.specs.Shown.{Seen}
use Rattle.nd_slaac.specs.ShownKept.{seen}

abbrev pub addresses_left : ShownAddresses → List Seen
addresses_left s = map (seen s.moment) s.rest.now
