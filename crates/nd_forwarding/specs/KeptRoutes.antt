-- What an iterator over the routes has left.
use Rattle.std.specs.Prelude.{List}
use Rattle.nd_addr.specs.Prefix.{PrefixValue}
use Rattle.nd_forwarding.specs.declared.kept_routes.KeptRoute.{KeptRoute}
use Rattle.nd_forwarding.specs.declared.kept_routes.KeptRoutes.{KeptRoutes}
use Rattle.nd_forwarding.specs.declared.route.Route.{Route}

abbrev pub routes_left : KeptRoutes → List (PrefixValue × Route)
routes_left r = r.rest

-- the prefix and where it leads
abbrev pub entry_of : KeptRoute → PrefixValue × Route
entry_of r = (r.prefix, r.route)
