-- Only what is kept, in the code's terms: the fate that an answer stands for.
use Rattle.nd_addr.specs.Number.{number_of}
use Rattle.nd_nexthop.specs.NextHop.{direct, via}
use Rattle.nd_forwarding.specs.declared.forward.Fate.{Fate as Answer}
use Rattle.nd_forwarding.specs.declared.forward.Fate.TheVariants.{Direct, Via, NoRoute, HopLimit}
use Rattle.nd_forwarding.specs.Forward.{Fate, lost_no_route, lost_hop_limit, sent}

-- the same of an answer
abbrev pub fate_of : Answer → Fate
fate_of Direct = sent direct
fate_of (Via a) = sent (via (number_of a.0))
fate_of NoRoute = lost_no_route
fate_of HopLimit = lost_hop_limit
