-- When a router sends a Redirect, and of what target (RFC 4861, section 8.2).
use Rattle.std.specs.Prelude.{ℕ, ◌+◌, nat_le, Bool, true, false, ◌&&◌, if◌then◌else◌, List, [], ◌∷◌, Option, Some, None, bytes_eq}
use Rattle.nd_addr.specs.declared.addr.Addr.{Addr}
use Rattle.nd_addr.specs.declared.ip6.Ip6.{Ip6}
use Rattle.nd_addr.specs.Kind.{link_local_prefix}
use Rattle.nd_addr.specs.Number.{holds}
use Rattle.nd_addr.specs.Prefix.{PrefixValue}
use Rattle.nd_forwarding.specs.declared.route.Route.{Route}
use Rattle.nd_forwarding.specs.declared.route.Route.TheVariants.{Direct, Via}
use Rattle.nd_forwarding.specs.Forward.{fate, is_sent, may_be_forwarded}
use Rattle.nd_forwarding.specs.History.{Row, RoutePut, RedirectMade}
use Rattle.nd_forwarding.specs.Routes.{route_to}

-- the least time between two Redirects, in milliseconds (our choice)
abbrev pub min_delay_between_redirects : ℕ
min_delay_between_redirects = 100

-- when the last Redirect was made
abbrev pub last_redirect : List Row → Option ℕ
last_redirect [] = None
last_redirect (RoutePut prefix route ∷ history) = last_redirect history
last_redirect (RedirectMade at ∷ history) = Some at

-- "A router MUST limit the rate at which Redirect messages are sent": the last one was made so long ago, if there was one
abbrev pub may_redirect : ℕ → Option ℕ → Bool
may_redirect now None = true
may_redirect now (Some last) = nat_le (last + min_delay_between_redirects) now

-- the route is there, and leads to the destination itself
abbrev pub is_direct : Option Route → Bool
is_direct None = false
is_direct (Some Direct) = true
is_direct (Some (Via a)) = false

-- "The Source Address field of the packet identifies a neighbor": the longest route to it is direct
abbrev pub is_neighbour : List (PrefixValue × Route) → Addr → Bool
is_neighbour es source = is_direct (route_to source.0 es)

-- The better first hop of a destination by its route. "If the target is a router, that router's link-local address MUST be used. If the
-- target is a host, the target address field MUST be set to the same value as the Destination Address field."
abbrev pub first_hop : Addr → Option Route → Option Addr
first_hop destination None = None
first_hop destination (Some Direct) = Some destination
first_hop destination (Some (Via router)) = if holds link_local_prefix router.0 then Some router else None

-- the target, unless it is the sender of the packet
abbrev pub other_than : Addr → Option Addr → Option Addr
other_than source None = None
other_than source (Some target) = if bytes_eq target.0 source.0 then None else Some target

-- a Redirect may be sent to the sender of this packet, of a router that has these own addresses and these routes: it forwards the packet, whose
-- source is on the link
abbrev pub redirects : (List ℕ → Bool) → List (PrefixValue × Route) → Ip6 → Bool
redirects own es header = may_be_forwarded header && is_sent (fate own es header) && is_neighbour es header.source

-- The target of the Redirect that such a router sends now before it forwards this packet, if it sends one, where its last one was made then.
abbrev pub redirect : (List ℕ → Bool) → List (PrefixValue × Route) → Option ℕ → ℕ → Ip6 → Option Addr
redirect own es last now header =
    if redirects own es header && may_redirect now last then other_than header.source (first_hop header.destination (route_to header.destination.0 es)) else None
