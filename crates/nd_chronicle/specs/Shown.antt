-- What is shown of each table, row by row (the texts are this project's own).
use Rattle.std.specs.Prelude.{◌≡◌, ℕ, Bool, true, false, ◌++◌, List, [], ◌∷◌, map, codes, Option, Some, None}
use Rattle.std.specs.Fmt.{decimal}
use Rattle.nd_text.specs.Flags.{flags_text}
use Rattle.nd_addr.specs.declared.addr.Addr.{Addr}
use Rattle.nd_addr.specs.declared.role.Role.{Role}
use Rattle.nd_addr.specs.declared.role.Role.TheVariants.{Host, Router}
use Rattle.nd_addr.specs.Number.{addr_at, mac_at}
use Rattle.nd_addr.specs.Prefix.{PrefixValue}
use Rattle.nd_addr.specs.Preference.{name_of}
use Rattle.nd_addr.specs.Text.{address_text, mac_text, prefix_text}
use Rattle.nd_addr.specs.Same.{same_addr, same_prefix}
use Rattle.nd_search_list.specs.Text.{name_text}
use Rattle.nd_decode.specs.declared.prefix_info.PrefixInfo.{PrefixInfo}
use Rattle.nd_advertiser.specs.History as advertising
use Rattle.nd_advertiser.specs.Advertising.{is_on}
use Rattle.nd_advertiser.specs.Offers.{offers_of}
use Rattle.nd_forwarding.specs.Routes.{routes}
use Rattle.nd_forwarding.specs.declared.route.Route.{Route}
use Rattle.nd_forwarding.specs.declared.route.Route.TheVariants.{Direct, Via}
use Rattle.nd_table.specs.Shown as lifetimes
use Rattle.nd_params.specs.History.{managed_of, other_of}
use Rattle.nd_neighbour.specs.declared.shown.Reachability.{Reachability}
use Rattle.nd_neighbour.specs.declared.shown.Reachability.TheVariants.{Incomplete, Reachable, Stale, Delay, Probe}
use Rattle.nd_neighbour.specs.Shown as neighbours
use Rattle.nd_routers.specs.Shown as routers
use Rattle.nd_slaac.specs.declared.state.State.{State}
use Rattle.nd_slaac.specs.declared.state.State.TheVariants.{Tentative, Preferred, Deprecated, Duplicate}
use Rattle.nd_slaac.specs.Shown as addresses
use Rattle.nd_dns.specs.AnnouncedNames.{same_name}
use Rattle.nd_nexthop.specs.History.{redirects}
use Rattle.nd_chronicle.specs.Start.{Start}
use Rattle.nd_chronicle.specs.Happening.{Chronicle}
use Rattle.nd_chronicle.specs.Histories.{parameter_history, neighbour_history, router_history, prefix_history, address_history, server_history, name_history, redirect_history, advertising_history, route_history}
use Rattle.nd_chronicle.specs.InForce.{hop_limit, link_mtu, base_reachable_time, reachable_time, retrans_timer}

-- the tables that a command shows
pub data Table : Type 0 where
  NeighbourTable : Table
  RouterTable : Table
  PrefixTable : Table
  AddressTable : Table
  DnsTable : Table
  RedirectTable : Table
  ParameterTable : Table
  AdvertiseTable : Table
  RouteTable : Table

-- the address of a number
abbrev pub key_text : ℕ → List ℕ
key_text key = address_text (addr_at key).0

-- what is left of a lifetime, in milliseconds, or `inf`
abbrev pub left_text : Option ℕ → List ℕ
left_text None = codes "inf"
left_text (Some left) = decimal left

abbrev pub mac_or_none_text : Option ℕ → List ℕ
mac_or_none_text None = codes "-"
mac_or_none_text (Some mac) = mac_text (mac_at mac).0

abbrev pub reachability_text : Reachability → List ℕ
reachability_text Incomplete = codes "incomplete"
reachability_text Reachable = codes "reachable"
reachability_text Stale = codes "stale"
reachability_text Delay = codes "delay"
reachability_text Probe = codes "probe"

abbrev pub router_or_host_text : Bool → List ℕ
router_or_host_text true = codes "router"
router_or_host_text false = codes "host"

abbrev pub state_text : State → List ℕ
state_text Tentative = codes "tentative"
state_text Preferred = codes "preferred"
state_text Deprecated = codes "deprecated"
state_text Duplicate = codes "duplicate"

abbrev pub flag_text : Bool → List ℕ
flag_text true = codes "1"
flag_text false = codes "0"

abbrev pub neighbour_row : neighbours.Seen → List ℕ
neighbour_row n =
    codes "neighbour " ++ key_text n.key ++ codes " " ++ mac_or_none_text n.mac ++ codes " " ++ reachability_text n.state ++ codes " " ++ router_or_host_text n.router

abbrev pub router_row : routers.Seen → List ℕ
router_row r = codes "router " ++ key_text r.key ++ codes " " ++ left_text r.left ++ codes " " ++ name_of r.preference

abbrev pub prefix_row : lifetimes.Seen PrefixValue → List ℕ
prefix_row p = codes "prefix " ++ prefix_text p.key ++ codes " " ++ left_text p.left

abbrev pub address_row : addresses.Seen → List ℕ
address_row a =
    codes "address " ++ key_text a.key ++ codes " " ++ state_text a.state ++ codes " " ++ left_text a.preferred_left ++ codes " " ++ left_text a.valid_left

abbrev pub server_row : lifetimes.Seen Addr → List ℕ
server_row s = codes "server " ++ address_text s.key.0 ++ codes " " ++ left_text s.left

abbrev pub search_row : lifetimes.Seen (List ℕ) → List ℕ
search_row s = codes "search " ++ name_text s.key ++ codes " " ++ left_text s.left

-- a destination and its target
abbrev pub redirect_row : ℕ × ℕ → List ℕ
redirect_row redirect = codes "redirect " ++ key_text redirect.0 ++ codes " " ++ key_text redirect.1

abbrev pub times_text : Chronicle → List ℕ
times_text c = codes " reachable " ++ decimal (base_reachable_time c) ++ codes " " ++ decimal (reachable_time c) ++ codes " retrans " ++ decimal (retrans_timer c)

abbrev pub parameter_row : Chronicle → List ℕ
parameter_row c =
    codes "params hop " ++ decimal (hop_limit c) ++ codes " mtu " ++ decimal (link_mtu c) ++ times_text c
    ++ codes " managed " ++ flag_text (managed_of (parameter_history c)) ++ codes " other " ++ flag_text (other_of (parameter_history c))

abbrev pub on_text : Bool → List ℕ
on_text true = codes "advertise on"
on_text false = codes "advertise off"

-- an advertised prefix, with its lifetimes in seconds
abbrev pub lifetimes_text : PrefixInfo → List ℕ
lifetimes_text info = codes " " ++ decimal info.valid_lifetime ++ codes " " ++ decimal info.preferred_lifetime

abbrev pub offer_flags_text : PrefixInfo → List ℕ
offer_flags_text info = codes " " ++ flags_text info.on_link info.autonomous (codes "l") (codes "a")

abbrev pub offer_row : PrefixInfo → List ℕ
offer_row info = codes "offer " ++ prefix_text info.prefix ++ lifetimes_text info ++ offer_flags_text info

-- a host advertises nothing
abbrev pub advertise_rows : Role → List advertising.Row → List (List ℕ)
advertise_rows Host history = []
advertise_rows Router history = on_text (is_on history) ∷ map offer_row (offers_of history)

abbrev pub way_of : Route → List ℕ
way_of Direct = codes "direct"
way_of (Via a) = address_text a.0

abbrev pub route_row : PrefixValue × Route → List ℕ
route_row (prefix, route) = codes "route " ++ prefix_text prefix ++ codes " " ++ way_of route

-- nor has it static routes
abbrev pub route_rows : Role → List (PrefixValue × Route) → List (List ℕ)
route_rows Host kept = []
route_rows Router kept = map route_row kept

-- These are the rows of the table at the moment: neighbours and addresses by their numbers, routers, prefixes, servers and names in the
-- order in which they came, redirects the newest first, offers and routes in the order in which they were first made.
abbrev pub AreRows : Start → Chronicle → ℕ → Table → List (List ℕ) → Type 0
AreRows start c now NeighbourTable rows = (seen : List neighbours.Seen) × neighbours.Lists (neighbour_history c) now seen × (rows ≡ map neighbour_row seen)
AreRows start c now RouterTable rows = (seen : List routers.Seen) × routers.Shows (router_history c) now seen × (rows ≡ map router_row seen)
AreRows start c now PrefixTable rows =
    (seen : List (lifetimes.Seen PrefixValue)) × lifetimes.Shows same_prefix (prefix_history c) now seen × (rows ≡ map prefix_row seen)
AreRows start c now AddressTable rows = (seen : List addresses.Seen) × addresses.Lists (address_history c) now seen × (rows ≡ map address_row seen)
AreRows start c now DnsTable rows =
    (servers : List (lifetimes.Seen Addr)) × lifetimes.Shows same_addr (server_history c) now servers
    × (names : List (lifetimes.Seen (List ℕ))) × lifetimes.Shows same_name (name_history c) now names
    × (rows ≡ map server_row servers ++ map search_row names)
AreRows start c now RedirectTable rows = rows ≡ map redirect_row (redirects start.limits.redirects (redirect_history c))
AreRows start c now ParameterTable rows = rows ≡ parameter_row c ∷ []
AreRows start c now AdvertiseTable rows = rows ≡ advertise_rows start.role (advertising_history start c)
AreRows start c now RouteTable rows = rows ≡ route_rows start.role (routes (route_history c))
