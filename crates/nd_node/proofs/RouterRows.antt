-- Rows of what only a router has, and the chronicle that a node stands for.
use Rattle.std.proofs.Common.{◌≡◌, ℕ, ◌∷◌, refl, sym, ◌∙◌}
use Rattle.rand_core.specs.Stream.{Stream}
use Rattle.nd_table.specs.DueKept.{NotBefore}
use Rattle.nd_addr.specs.Prefix.{PrefixValue}
use Rattle.nd_advertiser.specs.Config.{Settings}
use Rattle.nd_advertiser.specs.History as advertising_rows
use Rattle.nd_advertiser.specs.Overdue.{IsOf}
use Rattle.nd_advertiser.specs.Table as advertising
use Rattle.nd_decode.specs.declared.prefix_info.PrefixInfo.{PrefixInfo}
use Rattle.nd_forwarding.specs.declared.route.Route.{Route}
use Rattle.nd_forwarding.specs.History as route_rows
use Rattle.nd_forwarding.specs.Table as routes
use Rattle.nd_chronicle.specs.Start.{Start}
use Rattle.nd_chronicle.specs.Happening.{Ignored, Limit, Chronicle, Happening, Ceased, Configured, Drew, ForAnswer, Offered, Planned, RedirectMade, RoutePut, last_moment}
use Rattle.nd_chronicle.specs.Histories.{parameter_history, neighbour_history, router_history, prefix_history, address_history, server_history, name_history, redirect_history, advertising_history, route_history}
use Rattle.nd_chronicle.specs.Generator.{stream_left}
use Rattle.nd_chronicle.specs.Due.{solicited_routers}
use Rattle.nd_steps.specs.RouterTables as router_only
use Rattle.nd_steps.specs.RouterTables.{next_advertisement}
use Rattle.nd_steps.specs.declared.router_tables.RouterTables.{RouterTables}
use Rattle.nd_steps.proofs.RouterSide.{later_row, stands_row}
use Rattle.nd_node.specs.declared.node.Node.{Node}
use Rattle.nd_node.specs.NodeKept.{Stands}
use Rattle.nd_node.proofs.Turns.{advertisement_before, all_later, addresses_before, neighbours_before, redraw_before, routers_before, solicitation_before}

-- what happened between the two concerns none of the tables that a host has, and no time passed
pub record Aside (start : ℕ) (c d : Chronicle) : Type 0 where
  pub parameters : parameter_history d ≡ parameter_history c
  pub neighbours : neighbour_history d ≡ neighbour_history c
  pub routers : router_history d ≡ router_history c
  pub prefixes : prefix_history d ≡ prefix_history c
  pub addresses : address_history d ≡ address_history c
  pub servers : server_history d ≡ server_history c
  pub names : name_history d ≡ name_history c
  pub redirects : redirect_history d ≡ redirect_history c
  pub solicited : solicited_routers d ≡ solicited_routers c
  pub last : last_moment start d ≡ last_moment start c

-- the rows of which that is so
pub data Kind : Type 0 where
  Configures : (settings : Settings) → Kind
  Offers : (info : PrefixInfo) → Kind
  Ceases : Kind
  PlansAnswer : (delay : ℕ) → Kind
  DrawsDelay : (delay : ℕ) → Kind
  PutsRoute : (prefix : PrefixValue) (route : Route) → Kind
  Redirects : Kind
  IgnoresPart : (limit : Limit) → Kind

abbrev pub what_of : Kind → Happening
what_of (Configures settings) = Configured settings
what_of (Offers info) = Offered info
what_of Ceases = Ceased
what_of (PlansAnswer delay) = Planned delay
what_of (DrawsDelay delay) = Drew ForAnswer delay
what_of (PutsRoute prefix route) = RoutePut prefix route
what_of Redirects = RedirectMade
what_of (IgnoresPart limit) = Ignored limit

pub aside : (kind : Kind) (at start : ℕ) (c : Chronicle) → last_moment start c ≡ at → Aside start c ((at, what_of kind) ∷ c)
aside (Configures settings) at start c now = record { parameters = refl; neighbours = refl; routers = refl; prefixes = refl; addresses = refl; servers = refl; names = refl; redirects = refl; solicited = refl; last = sym now }
aside (Offers info) at start c now = record { parameters = refl; neighbours = refl; routers = refl; prefixes = refl; addresses = refl; servers = refl; names = refl; redirects = refl; solicited = refl; last = sym now }
aside Ceases at start c now = record { parameters = refl; neighbours = refl; routers = refl; prefixes = refl; addresses = refl; servers = refl; names = refl; redirects = refl; solicited = refl; last = sym now }
aside (PlansAnswer delay) at start c now = record { parameters = refl; neighbours = refl; routers = refl; prefixes = refl; addresses = refl; servers = refl; names = refl; redirects = refl; solicited = refl; last = sym now }
aside (DrawsDelay delay) at start c now = record { parameters = refl; neighbours = refl; routers = refl; prefixes = refl; addresses = refl; servers = refl; names = refl; redirects = refl; solicited = refl; last = sym now }
aside (PutsRoute prefix route) at start c now = record { parameters = refl; neighbours = refl; routers = refl; prefixes = refl; addresses = refl; servers = refl; names = refl; redirects = refl; solicited = refl; last = sym now }
aside Redirects at start c now = record { parameters = refl; neighbours = refl; routers = refl; prefixes = refl; addresses = refl; servers = refl; names = refl; redirects = refl; solicited = refl; last = sym now }
aside (IgnoresPart limit) at start c now = record { parameters = refl; neighbours = refl; routers = refl; prefixes = refl; addresses = refl; servers = refl; names = refl; redirects = refl; solicited = refl; last = sym now }

pub aside_same : (start : ℕ) (c : Chronicle) → Aside start c c
aside_same start c = record { parameters = refl; neighbours = refl; routers = refl; prefixes = refl; addresses = refl; servers = refl; names = refl; redirects = refl; solicited = refl; last = refl }

pub aside_then : (start : ℕ) (c d e : Chronicle) → Aside start c d → Aside start d e → Aside start c e
aside_then start c d e a b = record {
  parameters = b.parameters ∙ a.parameters;
  neighbours = b.neighbours ∙ a.neighbours;
  routers = b.routers ∙ a.routers;
  prefixes = b.prefixes ∙ a.prefixes;
  addresses = b.addresses ∙ a.addresses;
  servers = b.servers ∙ a.servers;
  names = b.names ∙ a.names;
  redirects = b.redirects ∙ a.redirects;
  solicited = b.solicited ∙ a.solicited;
  last = b.last ∙ a.last;
}

module _ {R A : Type 0} (stream : R → Stream) (start : Start) (old : Node R A) (c d : Chronicle) (a : Aside start.at c d) (s : Stands stream start old c) where
  -- a node stands for it with tables of a router and a generator that do
  pub stands_aside : (r : RouterTables A) (g : R) → router_only.Stands start r d → stream g ≡ stream_left start d → NotBefore (last_moment start.at c) (next_advertisement old.role r)
      → Stands stream start (record old { router = r; generator = g }) d
  stands_aside r g stands' generator later = record {
    role = s.role;
    mac = s.mac;
    chosen = s.chosen;
    policies = s.policies;
    address_mac = s.address_mac;
    address_transmits = s.address_transmits;
    limits = s.limits;
    params = rw a.parameters s.params;
    routers = rw a.routers s.routers;
    prefixes = rw a.prefixes s.prefixes;
    addresses = rw a.addresses s.addresses;
    neighbours = rw a.neighbours s.neighbours;
    dns = rw (a.servers, a.names) s.dns;
    redirects = rw a.redirects s.redirects;
    solicitations = record {
      assigned = rw a.addresses s.solicitations.assigned;
      sent = rw a.solicited s.solicitations.sent;
      heard = rw a.parameters s.solicitations.heard;
    };
    router = stands';
    generator = generator;
    last = s.last ∙ sym (a.last);
    memo = s.memo;
    prefixes_by_then = rw (a.prefixes, a.last) s.prefixes_by_then;
    servers_by_then = rw (a.servers, a.last) s.servers_by_then;
    names_by_then = rw (a.names, a.last) s.names_by_then;
    in_time = rw (a.last) (let at = last_moment start.at c in all_later (record old { router = r; generator = g }) at (routers_before old at s.in_time) (addresses_before old at s.in_time)
        (neighbours_before old at s.in_time) (solicitation_before old at s.in_time) later (redraw_before old at s.in_time));
  }

  -- one more row of what is advertised
  pub stands_advertising : (r : RouterTables A) (g : R) (row : advertising_rows.Row) → IsOf (last_moment start.at c) row → advertising.GainsRow old.router.advertiser r.advertiser row → r.advertiser.limit ≡ old.router.advertiser.limit → r.routes ≡ old.router.routes
      → advertising_history start d ≡ row ∷ advertising_history start c → route_history d ≡ route_history c → stream g ≡ stream_left start d
      → Stands stream start (record old { router = r; generator = g }) d
  stands_advertising r g row is gains limit same more others generator =
      let at = last_moment start.at c in
      let t = stands_row start old.router r c d at row is gains limit same more others s.router in
      stands_aside r g t generator (later_row start old.role old.router r c d at row is s.role more s.router t (advertisement_before old at s.in_time))

  -- one more row of the routes
  pub stands_routes : (r : RouterTables A) (row : route_rows.Row) → r.advertiser ≡ old.router.advertiser → routes.GainsRow old.router.routes r.routes row → r.routes.limit ≡ old.router.routes.limit
      → advertising_history start d ≡ advertising_history start c → route_history d ≡ row ∷ route_history c → stream_left start d ≡ stream_left start c
      → Stands stream start (record old { router = r }) d
  stands_routes r row same gains limit others more left =
      let at = last_moment start.at c in
      let t : router_only.Stands start r d = record {
        advertiser = rw (same, others) s.router.advertiser;
        routes = rw more (gains.stands (route_history c) s.router.routes);
        offer_limit = rw same s.router.offer_limit;
        route_limit = limit ∙ s.router.route_limit;
        spaced = rw others s.router.spaced;
      } in
      stands_aside r old.generator t (s.generator ∙ sym left) (rw same (advertisement_before old at s.in_time))
