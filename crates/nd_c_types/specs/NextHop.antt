-- The next hop of a packet, as C sees it (RFC 4861, section 5.2).
use Rattle.std.specs.Prelude.{Option, Some, None}
use Rattle.nd_addr.specs.declared.addr.Addr.{Addr}
use Rattle.nd_nexthop.specs.declared.next_hop.Hop.{Hop}
use Rattle.nd_nexthop.specs.declared.next_hop.Hop.TheVariants as hops
use Rattle.nd_c_types.specs.declared.next_hop.NextHopRow.{NextHopRow}

-- the destination itself, or a router: enum nd_hop
abbrev pub next_hop_row : Hop → Addr → Option NextHopRow
next_hop_row hops.Direct destination = Some (record { address = destination.0; hop = 1; reserved = 0 })
next_hop_row (hops.Via router) destination = Some (record { address = router.0; hop = 2; reserved = 0 })
next_hop_row hops.NoRoute destination = None
