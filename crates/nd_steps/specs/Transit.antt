-- What a router makes of a packet that is in transit, by what it keeps (RFC 4861, section 8.2).
use Rattle.std.specs.Prelude.{Option, Some, None}
use Rattle.std.specs.Option.{option_map}
use Rattle.nd_addr.specs.declared.mac.Mac.{Mac}
use Rattle.nd_addr.specs.Number.{mac_at}
use Rattle.nd_neighbour.specs.EntryKept.{NeighbourEntry, known_mac}

-- the link-layer address of a neighbour that may be there, if it is known
abbrev pub mac_in : Option NeighbourEntry → Option Mac
mac_in None = None
mac_in (Some n) = option_map mac_at (known_mac n.stage)
