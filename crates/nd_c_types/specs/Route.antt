-- A static route of a router, from and to C (RFC 4861, section 5.2).
use Rattle.std.specs.Prelude.{ℕ, ◌==◌, nat_le, if◌then◌else◌, List, Option, Some, None}
use Rattle.nd_addr.specs.Prefix.{prefix_at}
use Rattle.nd_forwarding.specs.declared.kept_routes.KeptRoute.{KeptRoute}
use Rattle.nd_forwarding.specs.declared.route.Route.{Route}
use Rattle.nd_forwarding.specs.declared.route.Route.TheVariants as routes
use Rattle.nd_c_types.specs.Numbers.{no_address}
use Rattle.nd_c_types.specs.declared.route.RouteRow.{RouteRow}

-- the router, or zeros
abbrev pub router_bytes : Route → List ℕ
router_bytes routes.Direct = no_address
router_bytes (routes.Via router) = router.0

-- enum nd_hop
abbrev pub hop_number : Route → ℕ
hop_number routes.Direct = 1
hop_number (routes.Via router) = 2

abbrev pub route_row : KeptRoute → RouteRow
route_row r = record { prefix = r.prefix.address.0; router = router_bytes r.route; bits = r.prefix.length; hop = hop_number r.route }

-- where packets go
abbrev pub route_in : RouteRow → Option Route
route_in row = if row.hop == 1 then Some routes.Direct else (if row.hop == 2 then Some (routes.Via (record { 0 = row.router })) else None)

-- the route to the first bits of the prefix
abbrev pub kept_at : RouteRow → Option Route → Option KeptRoute
kept_at row None = None
kept_at row (Some route) = Some (record { prefix = prefix_at row.bits row.prefix; route = route })

-- the static route, if the length is at most 128 and the hop is one
abbrev pub route_of : RouteRow → Option KeptRoute
route_of row = if nat_le row.bits 128 then kept_at row (route_in row) else None
