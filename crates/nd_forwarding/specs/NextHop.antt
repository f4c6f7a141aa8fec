-- Next-hop determination of a router (RFC 4861, section 5.2).
use Rattle.std.specs.Prelude.{ℕ, Bool, ◌||◌, if◌then◌else◌, List, Option, Some, None}
use Rattle.nd_addr.specs.Kind.{link_local_subnet, multicast_prefix}
use Rattle.nd_addr.specs.Number.{holds, number_of}
use Rattle.nd_addr.specs.Prefix.{PrefixValue}
use Rattle.nd_nexthop.specs.NextHop.{NextHop, direct, via, no_route, is_own_or_none}
use Rattle.nd_forwarding.specs.declared.route.Route.{Route}
use Rattle.nd_forwarding.specs.declared.route.Route.TheVariants.{Direct, Via}
use Rattle.nd_forwarding.specs.Routes.{route_to}

-- where a packet goes by a route, if there is one
abbrev pub by_route : Option Route → NextHop
by_route None = no_route
by_route (Some Direct) = direct
by_route (Some (Via a)) = via (number_of a.0)

-- The next hop of a packet to an address to which this is the longest route, of a router that has these own addresses. The subnet of
-- link-local addresses is on the link (RFC 4291, section 2.5.6).
abbrev pub hop_by : (List ℕ → Bool) → Option Route → List ℕ → NextHop
hop_by own route address =
    if is_own_or_none own address then no_route
    else (if holds multicast_prefix address || holds link_local_subnet address then direct
    else by_route route)

-- the same where the router has these routes
abbrev pub hop : (List ℕ → Bool) → List (PrefixValue × Route) → List ℕ → NextHop
hop own es address = hop_by own (route_to address es) address
