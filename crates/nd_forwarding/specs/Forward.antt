-- What a router forwards, and what becomes of it.
use Rattle.std.specs.Prelude.{ℕ, nat_lt, Bool, true, false, ◌||◌, not, if◌then◌else◌, List, bytes_eq}
use Rattle.nd_addr.specs.declared.ip6.Ip6.{Ip6}
use Rattle.nd_addr.specs.Kind.{link_local_prefix, loopback_address, multicast_prefix, unspecified_address}
use Rattle.nd_addr.specs.Number.{holds}
use Rattle.nd_addr.specs.Prefix.{PrefixValue}
use Rattle.nd_nexthop.specs.NextHop.{NextHop, direct, via, no_route}
use Rattle.nd_forwarding.specs.declared.route.Route.{Route}
use Rattle.nd_forwarding.specs.NextHop.{hop}

-- A packet from or to such an address isn't forwarded: link-local, unspecified or loopback (RFC 4291, sections 2.5.6, 2.5.2 and 2.5.3), or
-- multicast (our choice: there is no multicast routing).
abbrev pub stays : List ℕ → Bool
stays address =
    holds multicast_prefix address || holds link_local_prefix address || bytes_eq address unspecified_address || bytes_eq address loopback_address

-- a packet may be forwarded
abbrev pub may_be_forwarded : Ip6 → Bool
may_be_forwarded header = not (stays header.source.0 || stays header.destination.0)

-- what becomes of a packet that is to be forwarded: it is lost, since there is no route or since it has gone too far, or it is sent
pub data Fate : Type 0 where
  lost_no_route : Fate
  lost_hop_limit : Fate
  sent : NextHop → Fate

-- "When forwarding, the packet is discarded if Hop Limit was zero when received or is decremented to zero" (RFC 8200, section 3)
abbrev pub unless_spent : ℕ → NextHop → Fate
unless_spent limit next = if nat_lt limit 2 then lost_hop_limit else sent next

-- what becomes of a packet of this hop limit that has this next hop
abbrev pub fate_by : ℕ → NextHop → Fate
fate_by limit no_route = lost_no_route
fate_by limit direct = unless_spent limit direct
fate_by limit (via router) = unless_spent limit (via router)

-- what becomes of a packet that a router is to forward which has these own addresses and these routes
abbrev pub fate : (List ℕ → Bool) → List (PrefixValue × Route) → Ip6 → Fate
fate own es header = fate_by header.hop_limit (hop own es header.destination.0)

-- it isn't lost
abbrev pub is_sent : Fate → Bool
is_sent lost_no_route = false
is_sent lost_hop_limit = false
is_sent (sent next) = true
