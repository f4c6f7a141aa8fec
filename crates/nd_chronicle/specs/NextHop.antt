-- The next hop of a node's packets (RFC 4861, sections 5.2 and 6.3.6), asked of a place of a chronicle.
use Rattle.std.specs.Prelude.{◌≡◌, ℕ, is_some, List, map}
use Rattle.nd_addr.specs.declared.addr.Addr.{Addr}
use Rattle.nd_addr.specs.declared.role.Role.{Role}
use Rattle.nd_addr.specs.declared.role.Role.TheVariants.{Host, Router}
use Rattle.nd_addr.specs.Number.{number_of}
use Rattle.nd_addr.specs.Prefix.{PrefixValue}
use Rattle.nd_addr.specs.Same.{same_prefix}
use Rattle.nd_table.specs.declared.lasting.Lasting.{Lasting}
use Rattle.nd_table.specs.Listing.{Lists}
use Rattle.nd_neighbour.specs.History.{story}
use Rattle.nd_neighbour.specs.Story as neighbours
use Rattle.nd_routers.specs.RouterFailures.{Failures, place_among}
use Rattle.nd_routers.specs.History.{announcements, preference_of}
use Rattle.nd_routers.specs.OnLink.{is_held}
use Rattle.nd_routers.specs.Routers.{same}
use Rattle.nd_nexthop.specs.DefaultRouter.{DefaultRouter}
use Rattle.nd_nexthop.specs.History.{kept}
use Rattle.nd_nexthop.specs.NextHop.{NextHop, hop}
use Rattle.nd_forwarding.specs.NextHop as routes
use Rattle.nd_forwarding.specs.Routes.{routes}
use Rattle.nd_chronicle.specs.Start.{Start}
use Rattle.nd_chronicle.specs.Happening.{Chronicle}
use Rattle.nd_chronicle.specs.Histories.{neighbour_history, router_history, prefix_history, redirect_history, route_history}
use Rattle.nd_chronicle.specs.OwnAddress.{is_own}

-- a router of the list: it is in any state other than INCOMPLETE where its link-layer address is known
abbrev pub candidate : Chronicle → List ℕ → ℕ → DefaultRouter
candidate c failed key = record {
  key = key;
  usable = is_some (neighbours.mac_of (story key (neighbour_history c)));
  preference = preference_of key (router_history c);
  failed = place_among key failed;
}

-- the default routers at the moment, in the order of their list, as the choice among them sees them
pub record AreRouters (c : Chronicle) (now : ℕ) (routers : List DefaultRouter) : Type 0 where
  pub entries : List (Lasting ℕ)
  pub listed : Lists same (announcements (router_history c)) now entries
  pub failed : List ℕ
  pub failures : Failures (router_history c) failed
  pub routers_are : routers ≡ map (λ (e : Lasting ℕ). candidate c failed e.key) entries

-- it is the next hop of a host's packet to the destination at the moment
pub record IsNextHop (start : Start) (c : Chronicle) (now : ℕ) (destination : Addr) (next : NextHop) : Type 0 where
  pub prefixes : List (Lasting PrefixValue)
  pub standing : Lists same_prefix (prefix_history c) now prefixes
  pub routers : List DefaultRouter
  pub those : AreRouters c now routers
  pub next_is : next ≡ hop (is_own c) (λ (a : List ℕ). is_held a prefixes) routers (kept start.limits.redirects (number_of destination.0) (redirect_history c)) destination.0

-- that of a router's packet, by its static routes
abbrev pub routed_hop : Chronicle → Addr → NextHop
routed_hop c destination = routes.hop (is_own c) (routes (route_history c)) destination.0

-- that of a packet of a node
abbrev pub IsHopOf : Start → Role → Chronicle → ℕ → Addr → NextHop → Type 0
IsHopOf start Host c now destination next = IsNextHop start c now destination next
IsHopOf start Router c now destination next = next ≡ routed_hop c destination
