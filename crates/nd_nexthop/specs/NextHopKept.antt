-- Only what is kept, in the code's terms: the next hop that an answer stands for.
use Rattle.nd_addr.specs.Number.{number_of}
use Rattle.nd_nexthop.specs.declared.next_hop.Hop.{Hop}
use Rattle.nd_nexthop.specs.declared.next_hop.Hop.TheVariants.{Direct, Via, NoRoute}
use Rattle.nd_nexthop.specs.NextHop.{NextHop, direct, via, no_route}

-- the same of an answer
abbrev pub hop_of : Hop → NextHop
hop_of Direct = direct
hop_of (Via a) = via (number_of a.0)
hop_of NoRoute = no_route
