use Rattle.std.proofs.Common.{◌++◌, List, map, refl, ap, ◌∙◌}
use Rattle.nd_addr.specs.Prefix.{PrefixValue}
use Rattle.nd_addr.specs.declared.role.Role.{Role}
use Rattle.nd_table.specs.Left.{lifetimes_left}
use Rattle.nd_neighbour.specs.Left.{neighbours_left}
use Rattle.nd_routers.specs.Left.{routers_left}
use Rattle.nd_slaac.specs.Left.{addresses_left}
use Rattle.nd_nexthop.specs.Left.{redirects_left}
use Rattle.nd_forwarding.specs.KeptRoutes.{routes_left}
use Rattle.nd_forwarding.specs.declared.route.Route.{Route}
use Rattle.nd_params.specs.ParamsKept as parameters
use Rattle.nd_chronicle.specs.Histories.{parameter_history, advertising_history}
use Rattle.nd_chronicle.specs.Shown.{NeighbourTable, RouterTable, PrefixTable, AddressTable, DnsTable, RedirectTable, ParameterTable, AdvertiseTable, RouteTable, neighbour_row, router_row, prefix_row, address_row, server_row, search_row, redirect_row, advertise_rows, route_rows}
use Rattle.nd_out.specs.Advertised.{advertise_rows_of}
use Rattle.nd_node.specs.Event.{table_of}
use Rattle.nd_node.proofs.Rows.{rows_shown, rows_shown_always, advertised_are}
use Rattle.nd_node.proofs.node.Node.rows.Goals as goal

pub returns-in-Neighbours : goal.returns-in-Neighbours
returns-in-Neighbours g c =
    rows_shown g.R.Rng.stream c.args.self.now c.args.now (table_of c.args.table) NeighbourTable (ap table_of c.in-Neighbours.is) _ (map neighbour_row (neighbours_left c.neighbours.result))
    c.neighbour_rows.result c.neighbour_rows.ensures (λ start c' s le. (neighbours_left c.neighbours.result, c.neighbours.ensures start c' s, refl))

pub returns-in-Routers : goal.returns-in-Routers
returns-in-Routers g c =
    rows_shown g.R.Rng.stream c.args.self.now c.args.now (table_of c.args.table) RouterTable (ap table_of c.in-Routers.is) _ (map router_row (routers_left c.default_routers.result))
    c.router_rows.result c.router_rows.ensures (λ start c' s le. (routers_left c.default_routers.result, c.default_routers.ensures start c' s, refl))

pub returns-in-Prefixes : goal.returns-in-Prefixes
returns-in-Prefixes g c =
    rows_shown g.R.Rng.stream c.args.self.now c.args.now (table_of c.args.table) PrefixTable (ap table_of c.in-Prefixes.is) _ (map prefix_row (lifetimes_left c.prefixes.result))
    c.prefix_rows.result c.prefix_rows.ensures (λ start c' s le. (lifetimes_left c.prefixes.result, c.prefixes.ensures start c' s le, refl))

pub returns-in-Addresses : goal.returns-in-Addresses
returns-in-Addresses g c =
    rows_shown g.R.Rng.stream c.args.self.now c.args.now (table_of c.args.table) AddressTable (ap table_of c.in-Addresses.is) _ (map address_row (addresses_left c.addresses.result))
    c.address_rows.result c.address_rows.ensures (λ start c' s le. (addresses_left c.addresses.result, c.addresses.ensures start c' s, refl))

pub returns-in-Dns : goal.returns-in-Dns
returns-in-Dns g c =
    rows_shown g.R.Rng.stream c.args.self.now c.args.now (table_of c.args.table) DnsTable (ap table_of c.in-Dns.is) _
    (map server_row (lifetimes_left c.servers.result) ++ map search_row (lifetimes_left c.search_names.result)) c.dns_rows.result c.dns_rows.ensures
    (λ start c' s le. (lifetimes_left c.servers.result, c.servers.ensures start c' s le, lifetimes_left c.search_names.result, c.search_names.ensures start c' s le, refl))

pub returns-in-Redirects : goal.returns-in-Redirects
returns-in-Redirects g c =
    rows_shown g.R.Rng.stream c.args.self.now c.args.now (table_of c.args.table) RedirectTable (ap table_of c.in-Redirects.is) _ (map redirect_row (redirects_left c.redirects.result))
    c.redirect_rows.result c.redirect_rows.ensures (λ start c' s le. ap (map redirect_row) (c.redirects.ensures start c' s))

pub returns-in-Params : goal.returns-in-Params
returns-in-Params g c =
    rows_shown_always g.R.Rng.stream c.args.self.now c.args.now (table_of c.args.table) ParameterTable (ap table_of c.in-Params.is) _ (λ start c'. parameters.Stands c.parameters.result (parameter_history c'))
    c.parameter_row.result c.parameter_row.ensures.rows (λ start c' s le. c.parameters.ensures start c' s)

pub returns-in-Advertise : goal.returns-in-Advertise
returns-in-Advertise g c =
    rows_shown g.R.Rng.stream c.args.self.now c.args.now (table_of c.args.table) AdvertiseTable (ap table_of c.in-Advertise.is) _
    (advertise_rows_of c.args.self.now.role c.is_on-advertises.result c.offers.result) c.advertise_rows.result c.advertise_rows.ensures
    (λ start c' s le.
    advertised_are c.args.self.now.role c.is_on-advertises.result c.offers.result (advertising_history start c') (c.is_on-advertises.ensures.by_history (advertising_history start c') s.router.advertiser) (c.offers.ensures start c' s)
    ∙ ap (λ (role : Role). advertise_rows role (advertising_history start c')) s.role)

pub returns-in-Routes : goal.returns-in-Routes
returns-in-Routes g c =
    rows_shown g.R.Rng.stream c.args.self.now c.args.now (table_of c.args.table) RouteTable (ap table_of c.in-Routes.is) _ (route_rows c.args.self.now.role (routes_left c.routes.result))
    c.route_rows.result c.route_rows.ensures
    (λ start c' s le. ap (λ (role : Role). route_rows role (routes_left c.routes.result)) s.role ∙ ap (λ (kept : List (PrefixValue × Route)). route_rows start.role kept) (c.routes.ensures start c' s))
