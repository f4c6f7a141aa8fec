-- Which row answers a question, by all that happened at the node.
use Rattle.std.specs.Prelude.{◌≡◌, ℕ, ◌≤◌, Option, Some, None, List, slice_get}
use Rattle.std.specs.Option.{option_map}
use Rattle.nd_addr.specs.Number.{number_of}
use Rattle.nd_addr.specs.Same.{same_addr, same_prefix}
use Rattle.nd_addr.specs.declared.addr.Addr.{Addr}
use Rattle.nd_table.specs.Left as lifetimes
use Rattle.nd_table.specs.Shown.{Shows}
use Rattle.nd_neighbour.specs.History as neighbour_rows
use Rattle.nd_neighbour.specs.Shown as neighbours
use Rattle.nd_neighbour.specs.View as neighbour_view
use Rattle.nd_routers.specs.Shown as routers
use Rattle.nd_routers.specs.View as router_view
use Rattle.nd_slaac.specs.Shown as addresses
use Rattle.nd_slaac.specs.View as address_view
use Rattle.nd_dns.specs.AnnouncedNames.{same_name}
use Rattle.nd_nexthop.specs.History.{redirects}
use Rattle.nd_nexthop.specs.Left.{redirect_of}
use Rattle.nd_params.specs.ParamsKept as parameters
use Rattle.nd_params.specs.ParamsKept.{Values}
use Rattle.nd_advertiser.specs.Advertising.{advertised_by}
use Rattle.nd_advertiser.specs.Offers.{offers_of}
use Rattle.nd_forwarding.specs.KeptRoutes.{entry_of}
use Rattle.nd_forwarding.specs.Routes.{routes}
use Rattle.nd_nexthop.specs.NextHopKept.{hop_of}
use Rattle.nd_nexthop.specs.declared.next_hop.Hop.{Hop}
use Rattle.nd_chronicle.specs.NextHop.{IsHopOf}
use Rattle.nd_chronicle.specs.Start.{Start}
use Rattle.nd_chronicle.specs.Happening.{Chronicle, last_moment}
use Rattle.nd_chronicle.specs.Histories.{parameter_history, neighbour_history, router_history, prefix_history, address_history, server_history, name_history, redirect_history, advertising_history, route_history}
use Rattle.nd_node.specs.NodeKept.{Stands}
use Rattle.nd_node.specs.Counts.{Counted}
use Rattle.nd_node.specs.declared.counts.Counts.{Counts}
use Rattle.nd_random.specs.Source.{stream_of_source}
use Rattle.nd_session.specs.declared.session.Session.{Session}
use Rattle.nd_c_types.specs.Neighbour.{neighbour_row}
use Rattle.nd_c_types.specs.Router.{router_row}
use Rattle.nd_c_types.specs.Prefix.{prefix_row}
use Rattle.nd_c_types.specs.Address.{address_row}
use Rattle.nd_c_types.specs.Dns.{server_row, name_row}
use Rattle.nd_c_types.specs.Redirect.{redirect_row}
use Rattle.nd_c_types.specs.Parameters.{parameters_row}
use Rattle.nd_c_types.specs.Advertising.{advertising_of}
use Rattle.nd_c_types.specs.Offer.{offer_row}
use Rattle.nd_c_types.specs.Route.{route_row}
use Rattle.nd_c_types.specs.Counts.{counts_row}
use Rattle.nd_c_types.specs.NextHop.{next_hop_row}
use Rattle.nd_c_types.specs.declared.next_hop.NextHopRow.{NextHopRow}
use Rattle.nd_c_types.specs.declared.neighbour.NeighbourRow.{NeighbourRow}
use Rattle.nd_c_types.specs.declared.router.RouterRow.{RouterRow}
use Rattle.nd_c_types.specs.declared.prefix.PrefixRow.{PrefixRow}
use Rattle.nd_c_types.specs.declared.address.AddressRow.{AddressRow}
use Rattle.nd_c_types.specs.declared.dns.ServerRow.{ServerRow}
use Rattle.nd_c_types.specs.declared.dns.NameRow.{NameRow}
use Rattle.nd_c_types.specs.declared.redirect.RedirectRow.{RedirectRow}
use Rattle.nd_c_types.specs.declared.parameters.ParametersRow.{ParametersRow}
use Rattle.nd_c_types.specs.declared.advertising.Advertising.{Advertising}
use Rattle.nd_c_types.specs.declared.offer.OfferRow.{OfferRow}
use Rattle.nd_c_types.specs.declared.route.RouteRow.{RouteRow}
use Rattle.nd_c_types.specs.declared.counts.CountsRow.{CountsRow}

-- what holds of each history that a session's node stands for
abbrev pub InEach : Session → (Start → Chronicle → Type 0) → Type 0
InEach s Holds = (start : Start) (c : Chronicle) → Stands stream_of_source start s.node c → Holds start c

-- what holds of each that is not ahead of a moment
abbrev pub InEachUpTo : ℕ → Session → (Start → Chronicle → Type 0) → Type 0
InEachUpTo now s Holds = InEach s (λ start c. last_moment start.at c ≤ now → Holds start c)

module _ {Seen Item Row : Type 0} (seen_in : Item → Seen) (row_of : Item → Row) where
  -- the row of what is seen, if something is
  abbrev pub IsRowOf : Option Seen → Option Row → Type 0
  IsRowOf seen None = seen ≡ None
  IsRowOf seen (Some row) = (item : Item) × (seen ≡ Some (seen_in item)) × (row ≡ row_of item)

  -- the row of the entry at an index of the list
  abbrev pub IsRowIn : (List Seen → Type 0) → ℕ → Option Row → Type 0
  IsRowIn Lists index row = (list : List Seen) × Lists list × IsRowOf (slice_get list index) row

-- the neighbour at an index
pub record NeighbourAt (now : ℕ) (index : ℕ) (s : Session) (row : Option NeighbourRow) : Type 0 where
  pub each : InEach s (λ start c. IsRowIn neighbour_view.seen_in neighbour_row (neighbours.Lists (neighbour_history c) now) index row)

-- the neighbour of an address
pub record NeighbourOf (now : ℕ) (addr : Addr) (s : Session) (row : Option NeighbourRow) : Type 0 where
  pub each : InEach s (λ start c. IsRowOf neighbour_view.seen_in neighbour_row (neighbours.seen_of (number_of addr.0) (neighbour_rows.story (number_of addr.0) (neighbour_history c)) now) row)

-- the default router at an index
pub record RouterAt (now : ℕ) (index : ℕ) (s : Session) (row : Option RouterRow) : Type 0 where
  pub each : InEach s (λ start c. IsRowIn router_view.seen_in router_row (routers.Shows (router_history c) now) index row)

-- the prefix on the link at an index
pub record PrefixAt (now : ℕ) (index : ℕ) (s : Session) (row : Option PrefixRow) : Type 0 where
  pub each : InEachUpTo now s (λ start c. IsRowIn lifetimes.seen_in prefix_row (Shows same_prefix (prefix_history c) now) index row)

-- one of the node's own addresses, at an index
pub record AddressAt (now : ℕ) (index : ℕ) (s : Session) (row : Option AddressRow) : Type 0 where
  pub each : InEach s (λ start c. IsRowIn address_view.seen_in address_row (addresses.Lists (address_history c) now) index row)

-- the DNS server at an index
pub record ServerAt (now : ℕ) (index : ℕ) (s : Session) (row : Option ServerRow) : Type 0 where
  pub each : InEachUpTo now s (λ start c. IsRowIn lifetimes.seen_in server_row (Shows same_addr (server_history c) now) index row)

-- the search name at an index
pub record NameAt (now : ℕ) (index : ℕ) (s : Session) (row : Option NameRow) : Type 0 where
  pub each : InEachUpTo now s (λ start c. IsRowIn lifetimes.seen_in name_row (Shows same_name (name_history c) now) index row)

-- the redirect at an index
pub record RedirectAt (index : ℕ) (s : Session) (row : Option RedirectRow) : Type 0 where
  pub each : InEach s (λ start c. IsRowOf redirect_of redirect_row (slice_get (redirects start.limits.redirects (redirect_history c)) index) row)

-- the offer at an index
pub record OfferAt (index : ℕ) (s : Session) (row : Option OfferRow) : Type 0 where
  pub each : InEach s (λ start c. row ≡ option_map offer_row (slice_get (offers_of (advertising_history start c)) index))

-- the static route at an index
pub record RouteAt (index : ℕ) (s : Session) (row : Option RouteRow) : Type 0 where
  pub each : InEach s (λ start c. IsRowOf entry_of route_row (slice_get (routes (route_history c)) index) row)

-- what is advertised
pub record AdvertisingOf (s : Session) (row : Option Advertising) : Type 0 where
  pub each : InEach s (λ start c. row ≡ option_map advertising_of (advertised_by (advertising_history start c)))

-- the parameters of the link
pub record ParametersOf (s : Session) (row : Option ParametersRow) : Type 0 where
  pub each : InEach s (λ start c. (values : Values) × parameters.Stands values (parameter_history c) × (row ≡ Some (parameters_row values)))

-- the numbers of entries, and the limits, which are those of the start
pub record CountsOf (s : Session) (row : Option CountsRow) : Type 0 where
  pub each : (counts : Counts) × Counted s.node counts × (row ≡ Some (counts_row counts s.node.limits))
  pub limits : InEach s (λ start c. s.node.limits ≡ start.limits)

-- the next hop of a packet to a destination
pub record HopTo (now : ℕ) (destination : Addr) (s : Session) (row : Option NextHopRow) : Type 0 where
  pub each : InEachUpTo now s (λ start c. (hop : Hop) × IsHopOf start start.role c now destination (hop_of hop) × (row ≡ next_hop_row hop destination))
