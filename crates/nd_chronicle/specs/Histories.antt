-- What of a chronicle concerns each table: the history that the table stands for.
use Rattle.std.specs.Prelude.{ℕ, ◌==◌, Bool, true, false, if◌then◌else◌, bytes_eq, List, [], ◌∷◌, Option, Some, None}
use Rattle.std.specs.Option.{option_map}
use Rattle.nd_addr.specs.Kind.{unspecified_address}
use Rattle.nd_addr.specs.Number.{number_of}
use Rattle.nd_addr.specs.Prefix.{PrefixValue}
use Rattle.nd_addr.specs.declared.addr.Addr.{Addr}
use Rattle.nd_addr.specs.declared.mac.Mac.{Mac}
use Rattle.nd_decode.specs.Option.{Said}
use Rattle.nd_decode.specs.declared.body.Body.{Body}
use Rattle.nd_decode.specs.declared.body.Body.TheVariants as bodies
use Rattle.nd_decode.specs.declared.neighbor_advertisement.NeighborAdvertisement.{NeighborAdvertisement}
use Rattle.nd_decode.specs.declared.redirect.Redirect.{Redirect}
use Rattle.nd_table.specs.Announcements as lifetimes
use Rattle.nd_table.specs.Listing.{then_announced}
use Rattle.nd_params.specs.History as parameters
use Rattle.nd_params.specs.ReachableTime.{reachable_of}
use Rattle.nd_neighbour.specs.History as neighbours
use Rattle.nd_routers.specs.History as routers
use Rattle.nd_routers.specs.OnLinkPrefixes.{prefixes_in}
use Rattle.nd_slaac.specs.History as addresses
use Rattle.nd_dns.specs.AnnouncedServers.{servers_told}
use Rattle.nd_dns.specs.AnnouncedNames.{names_told}
use Rattle.nd_nexthop.specs.History as redirects
use Rattle.nd_advertiser.specs.History as advertising
use Rattle.nd_forwarding.specs.History as routes
use Rattle.nd_chronicle.specs.Start.{Start, link_local_key}
use Rattle.nd_chronicle.specs.Happening.{ForReachableTime, Drew, Heard, Neighbour, Address, LeftRouter, Unlisted, ClearedPrefixes, ClearedRedirects, ClearedDns, Configured, Offered, Ceased, Advertised, Planned, RoutePut, RedirectMade, Chronicle}
use Rattle.nd_chronicle.specs.LinkLayerAddress.{first_slla, first_tlla}

-- ---- the parameters of the link: what Router Advertisements announce, and the draws of ReachableTime (RFC 4861, section 6.3.4)

abbrev pub then_parameters : Body → List Said → List parameters.Row → List parameters.Row
then_parameters (bodies.Ra ra) options history = parameters.Heard ra options ∷ history
then_parameters _ options history = history

abbrev pub parameter_history : Chronicle → List parameters.Row
parameter_history [] = []
parameter_history ((at, Heard source destination message) ∷ c) = then_parameters message.body message.options (parameter_history c)
parameter_history ((at, Drew ForReachableTime value) ∷ c) = parameters.Drew at value ∷ parameter_history c
parameter_history ((at, _) ∷ c) = parameter_history c

-- ---- the neighbours: whom a message speaks of, and what it says of it

-- that it gives its link-layer address, and may say whether it is a router; without the address only what it says of that
abbrev pub given_or_marked : ℕ → Option Mac → Option Bool → Option (ℕ × neighbours.RowKind)
given_or_marked key (Some mac) mark = Some (key, neighbours.Given (number_of mac.0) mark)
given_or_marked key None mark = option_map (λ router. (key, neighbours.Marked router)) mark

-- the same of the source of a solicitation, which may be :: and is no neighbour then
abbrev pub said_of_source : Addr → Option Mac → Option Bool → Option (ℕ × neighbours.RowKind)
said_of_source source mac mark = if bytes_eq source.0 unspecified_address then None else given_or_marked (number_of source.0) mac mark

-- a Neighbor Advertisement, at the ReachableTime in force (RFC 4861, section 7.2.5)
abbrev pub advertised_by : NeighborAdvertisement → Option Mac → ℕ → neighbours.RowKind
advertised_by na mac reachable =
    neighbours.Advertised (record { router = na.router; solicited = na.solicited; overrides = na.override_flag }) (option_map (λ m. number_of m.0) mac) reachable

-- "If the Target Address is not the same as the Destination Address, the host MUST set IsRouter to TRUE for the target." (section 8.3)
abbrev pub mark_of_target : Redirect → Option Bool
mark_of_target r = if bytes_eq r.target.0 r.destination.0 then None else Some true

abbrev pub said_of_neighbour : Addr → Body → List Said → ℕ → Option (ℕ × neighbours.RowKind)
-- "the entry's IsRouter flag MUST be set to FALSE" (section 6.2.6)
said_of_neighbour source bodies.Rs options reachable = said_of_source source (first_slla options) (Some false)
-- "the IsRouter flag in the Neighbor Cache entry MUST be set to TRUE" (section 6.3.4)
said_of_neighbour source (bodies.Ra ra) options reachable = given_or_marked (number_of source.0) (first_slla options) (Some true)
-- section 7.2.3
said_of_neighbour source (bodies.Ns ns) options reachable = said_of_source source (first_slla options) None
said_of_neighbour source (bodies.Na na) options reachable = Some (number_of na.target.0, advertised_by na (first_tlla options) reachable)
said_of_neighbour source (bodies.Redirect r) options reachable = given_or_marked (number_of r.target.0) (first_tlla options) (mark_of_target r)

abbrev pub then_neighbour : ℕ → Option (ℕ × neighbours.RowKind) → List neighbours.Row → List neighbours.Row
then_neighbour at None history = history
then_neighbour at (Some said) history = (at, said.0, said.1) ∷ history

abbrev pub neighbour_history : Chronicle → List neighbours.Row
neighbour_history [] = []
neighbour_history ((at, Heard source destination message) ∷ c) =
    then_neighbour at (said_of_neighbour source message.body message.options (reachable_of (parameter_history c))) (neighbour_history c)
neighbour_history ((at, Neighbour key kind) ∷ c) = (at, key, kind) ∷ neighbour_history c
neighbour_history ((at, _) ∷ c) = neighbour_history c

-- ---- the default routers: what they announce (RFC 4861, section 6.3.4), that one left, and that one failed as a neighbour (section 6.3.6)

abbrev pub then_router : ℕ → Addr → Body → List routers.RouterRow → List routers.RouterRow
then_router at source (bodies.Ra ra) history = routers.Heard at (number_of source.0) ra.router_lifetime ra.preference ∷ history
then_router at source _ history = history

abbrev pub then_failed : ℕ → ℕ → neighbours.RowKind → List routers.RouterRow → List routers.RouterRow
then_failed at key (neighbours.Forgot neighbours.Failed) history = routers.Failed at key ∷ history
then_failed at key _ history = history

abbrev pub router_history : Chronicle → List routers.RouterRow
router_history [] = []
router_history ((at, Heard source destination message) ∷ c) = then_router at source message.body (router_history c)
router_history ((at, LeftRouter key) ∷ c) = routers.LeftList at key ∷ router_history c
-- its advertisement is heard whole, and behind it the router is not in the list
router_history ((at, Unlisted key) ∷ c) = routers.LeftList at key ∷ router_history c
router_history ((at, Neighbour key kind) ∷ c) = then_failed at key kind (router_history c)
router_history ((at, _) ∷ c) = router_history c

-- ---- the on-link prefixes (RFC 4861, section 6.3.4)

abbrev pub then_prefixes : ℕ → Body → List Said → List (lifetimes.Row PrefixValue) → List (lifetimes.Row PrefixValue)
then_prefixes at (bodies.Ra ra) options history = then_announced at (prefixes_in options) history
then_prefixes at _ options history = history

abbrev pub prefix_history : Chronicle → List (lifetimes.Row PrefixValue)
prefix_history [] = []
prefix_history ((at, Heard source destination message) ∷ c) = then_prefixes at message.body message.options (prefix_history c)
prefix_history ((at, ClearedPrefixes) ∷ c) = lifetimes.Cleared at ∷ prefix_history c
prefix_history ((at, _) ∷ c) = prefix_history c

-- ---- the own addresses: each option that forms or renews one has a row of its own, since which one it names the message can't say

abbrev pub address_history : Chronicle → List addresses.Row
address_history [] = []
address_history ((at, Address key kind) ∷ c) = (at, key, kind) ∷ address_history c
address_history ((at, _) ∷ c) = address_history c

-- ---- the DNS servers and search names (RFC 8106, section 6.1)

abbrev pub then_servers : ℕ → Body → List Said → List (lifetimes.Row Addr) → List (lifetimes.Row Addr)
then_servers at (bodies.Ra ra) options history = then_announced at (servers_told options) history
then_servers at _ options history = history

abbrev pub server_history : Chronicle → List (lifetimes.Row Addr)
server_history [] = []
server_history ((at, Heard source destination message) ∷ c) = then_servers at message.body message.options (server_history c)
server_history ((at, ClearedDns) ∷ c) = lifetimes.Cleared at ∷ server_history c
server_history ((at, _) ∷ c) = server_history c

abbrev pub then_names : ℕ → Body → List Said → List (lifetimes.Row (List ℕ)) → List (lifetimes.Row (List ℕ))
then_names at (bodies.Ra ra) options history = then_announced at (names_told options) history
then_names at _ options history = history

abbrev pub name_history : Chronicle → List (lifetimes.Row (List ℕ))
name_history [] = []
name_history ((at, Heard source destination message) ∷ c) = then_names at message.body message.options (name_history c)
name_history ((at, ClearedDns) ∷ c) = lifetimes.Cleared at ∷ name_history c
name_history ((at, _) ∷ c) = name_history c

-- ---- the redirects (RFC 4861, section 8.3): a target is gone where it failed as a neighbour (section 7.3.3) or left the list of routers
-- (section 6.3.5)

abbrev pub then_redirect : ℕ → Body → List redirects.RedirectRow → List redirects.RedirectRow
then_redirect at (bodies.Redirect r) history = redirects.Redirected at (number_of r.destination.0) (number_of r.target.0) ∷ history
then_redirect at _ history = history

abbrev pub then_target : ℕ → ℕ → neighbours.RowKind → List redirects.RedirectRow → List redirects.RedirectRow
then_target at key (neighbours.Forgot neighbours.Failed) history = redirects.TargetGone at key ∷ history
then_target at key _ history = history

abbrev pub redirect_history : Chronicle → List redirects.RedirectRow
redirect_history [] = []
redirect_history ((at, Heard source destination message) ∷ c) = then_redirect at message.body (redirect_history c)
redirect_history ((at, LeftRouter key) ∷ c) = redirects.TargetGone at key ∷ redirect_history c
redirect_history ((at, Neighbour key kind) ∷ c) = then_target at key kind (redirect_history c)
redirect_history ((at, ClearedRedirects) ∷ c) = redirects.Cleared at ∷ redirect_history c
redirect_history ((at, _) ∷ c) = redirect_history c

-- ---- what a router advertises (RFC 4861, section 6.2): what it is to advertise, when its link-local address was assigned, when it advertised,
-- and which solicitations it answers

abbrev pub then_assigned : ℕ → ℕ → ℕ → addresses.RowKind → List advertising.Row → List advertising.Row
then_assigned own at key addresses.Assigned history = if key == own then advertising.Assigned at ∷ history else history
then_assigned own at key _ history = history

abbrev pub advertising_history : Start → Chronicle → List advertising.Row
advertising_history start [] = []
advertising_history start ((at, Configured settings) ∷ c) = advertising.Advertises at settings ∷ advertising_history start c
advertising_history start ((at, Offered info) ∷ c) = advertising.Offered info ∷ advertising_history start c
advertising_history start ((at, Ceased) ∷ c) = advertising.Ceased at ∷ advertising_history start c
advertising_history start ((at, Advertised interval) ∷ c) = advertising.Sent at interval ∷ advertising_history start c
advertising_history start ((at, Planned delay) ∷ c) = advertising.Solicited at delay ∷ advertising_history start c
advertising_history start ((at, Address key kind) ∷ c) = then_assigned (link_local_key start) at key kind (advertising_history start c)
advertising_history start ((at, _) ∷ c) = advertising_history start c

-- ---- the static routes of a router, and the Redirects that it made (RFC 4861, section 8.2)

abbrev pub route_history : Chronicle → List routes.Row
route_history [] = []
route_history ((at, RoutePut prefix route) ∷ c) = routes.RoutePut prefix route ∷ route_history c
route_history ((at, RedirectMade) ∷ c) = routes.RedirectMade at ∷ route_history c
route_history ((at, _) ∷ c) = route_history c
