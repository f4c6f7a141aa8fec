-- The next hop by what a node keeps is that of the chronicle.
use Rattle.std.proofs.Common.{◌≡◌, ◌<◌, ◌≤◌, ℕ, Bool, List, [], ◌∷◌, map, Option, Some, None, refl, sym, ◌∙◌, ap, subst, arith}
use Rattle.std.specs.Prelude.{◌+◌, IsTrue, is_some}
use Rattle.std.proofs.lemmas.Bool.Decides.{eqb_tells}
use Rattle.std.proofs.lemmas.Bool.{lt-ltb}
use Rattle.nd_addr.specs.declared.addr.Addr.{Addr}
use Rattle.nd_addr.specs.Number.{number_of}
use Rattle.nd_addr.specs.declared.preference.Preference.{Preference}
use Rattle.nd_addr.specs.declared.role.Role.{Role}
use Rattle.nd_addr.specs.declared.role.Role.TheVariants.{Host, Router}
use Rattle.nd_table.specs.declared.lasting.Lasting.{Lasting}
use Rattle.nd_table.specs.Listing.{Lists, open_at}
use Rattle.nd_table.proofs.Behind.{open_all}
use Rattle.nd_table.proofs.Finding.{Has, Has-head, Has-tail}
use Rattle.nd_table.proofs.Steps.{lists_at}
use Rattle.nd_neighbour.specs.EntryKept.{NeighbourEntry}
use Rattle.nd_neighbour.specs.History as neighbour_rows
use Rattle.nd_neighbour.specs.Story.{mac_of}
use Rattle.nd_neighbour.specs.TableKept as neighbours
use Rattle.nd_neighbour.specs.DueKept as neighbour_dates
use Rattle.nd_slaac.specs.Dates as address_dates
use Rattle.nd_params.specs.ReachableTime.{redraw_after}
use Rattle.nd_routers.specs.History.{announcements, preference_of}
use Rattle.nd_routers.specs.Preferences.{preference_among}
use Rattle.nd_routers.specs.OnLink.{is_held}
use Rattle.nd_routers.specs.RouterFailures.{place_among}
use Rattle.nd_routers.specs.RoutersKept as routers
use Rattle.nd_routers.specs.Routers.{same}
use Rattle.nd_routers.proofs.Preferring.{found_among}
use Rattle.nd_routers.proofs.Settled.{open_each}
use Rattle.nd_table.specs.Ends.{is_before}
use Rattle.nd_nexthop.specs.DefaultRouter.{DefaultRouter}
use Rattle.nd_nexthop.specs.History.{kept}
use Rattle.nd_nexthop.specs.NextHop.{NextHop, hop}
use Rattle.nd_forwarding.specs.History as route_rows
use Rattle.nd_forwarding.specs.NextHop as by_routes
use Rattle.nd_forwarding.specs.Routes.{routes}
use Rattle.nd_forwarding.specs.Table as routing
use Rattle.nd_slaac.specs.declared.destination.Counted.TheVariants.{Own}
use Rattle.nd_slaac.specs.Destination.{counted_in}
use Rattle.nd_slaac.specs.TableKept.{address_in}
use Rattle.nd_slaac.proofs.Destinations.{counted_by_history}
use Rattle.rand_core.specs.Stream.{Stream}
use Rattle.nd_chronicle.specs.Start.{Start}
use Rattle.nd_chronicle.specs.Happening.{Chronicle, last_moment}
use Rattle.nd_chronicle.specs.Histories.{neighbour_history, router_history, address_history, redirect_history, route_history}
use Rattle.nd_chronicle.specs.NextHop.{candidate, IsHopOf, IsNextHop}
use Rattle.nd_chronicle.specs.OwnAddress.{is_own}
use Rattle.nd_steps.specs.RouterTables.{next_advertisement}
use Rattle.nd_steps.specs.SolicitRouters.{next_solicitation}
use Rattle.nd_steps.specs.NextHop.{candidate_in, candidates_in}
use Rattle.nd_steps.proofs.Remembering.{hop_by_own}
use Rattle.nd_steps.proofs.Resolved.{resolved_by_history}
use Rattle.nd_nexthop.specs.Choice as choice
use Rattle.nd_steps.specs.DestinationCache.{KeepsRoom}
use Rattle.nd_node.proofs.Recalling.{Recalls}
use Rattle.nd_node.specs.declared.node.Node as nodes
use Rattle.nd_node.specs.Moments.{earlier}
use Rattle.nd_node.specs.NodeKept.{Stands, next_of}

-- ---- a router in any state other than INCOMPLETE

candidates_are : (c : Chronicle) (kept : List NeighbourEntry) (table : routers.Table) (entries : List (Lasting ℕ)) → neighbours.Stands kept (neighbour_history c)
    → ((key : ℕ) → Has same eqb_tells entries key → preference_among key table.preferences ≡ preference_of key (router_history c))
    → map (λ key. candidate_in kept table key) (routers.keys entries) ≡ map (λ (e : Lasting ℕ). candidate c table.failed e.key) entries
candidates_are c kept table [] s preferred = refl
candidates_are c kept table (e ∷ entries) s preferred =
    let rest = map (λ key. candidate_in kept table key) (routers.keys entries) in
    ap (λ (u : Bool). record { key = e.key; usable = u; preference = preference_among e.key table.preferences; failed = place_among e.key table.failed } ∷ rest) (resolved_by_history e.key kept (neighbour_history c) s)
    ∙ (ap (λ (p : Preference). record { key = e.key; usable = is_some (mac_of (neighbour_rows.story e.key (neighbour_history c))); preference = p; failed = place_among e.key table.failed } ∷ rest) (preferred e.key (Has-head same eqb_tells e entries))
    ∙ ap (λ (l : List DefaultRouter). candidate c table.failed e.key ∷ l) (candidates_are c kept table entries s (λ key h. preferred key (Has-tail same eqb_tells e entries key h))))

pub before_next : (end : Option ℕ) (rest now : ℕ) → now < earlier end rest → IsTrue (is_before now end)
before_next None rest now lt = refl
before_next (Some end) rest now lt = lt-ltb now end (omega (arith, lt))

-- no router's lifetime has ended at a node at which nothing is due
pub settled_routers : {R A : Type 0} (node : nodes.Node R A) (now : ℕ) → now < next_of node → routers.IsSettled node.routers.entries now
settled_routers node now settled =
    before_next (routers.next_end node.routers.entries) (earlier (address_dates.next_in node.addresses.addresses) (earlier (neighbour_dates.next_in node.neighbours.entries) (earlier (next_solicitation node.role node.solicitations) (earlier (next_advertisement node.role node.router) (node.params.drawn_at + redraw_after))))) now settled

module _ {R A : Type 0} (stream : R → Stream) (start : Start) (node : nodes.Node R A) (c : Chronicle) (now : ℕ) (s : Stands stream start node c) (le : last_moment start.at c ≤ now) (settled : now < next_of node) where
  open_routers : open_at now node.routers.entries ≡ node.routers.entries
  open_routers = open_all same eqb_tells node.routers.entries now (open_each node.routers.entries now (settled_routers node now settled))

  -- the routers that it keeps are those that stand
  pub routers_listed : Lists same (announcements (router_history c)) now node.routers.entries
  routers_listed = rw (sym open_routers) (lists_at same eqb_tells node.routers.entries (announcements (router_history c)) now s.routers.routers)

  pub next_hop_is : (destination : Addr) (next : NextHop)
      → next ≡ hop (λ (a : List ℕ). counted_in Own (address_in (number_of a) node.addresses.addresses)) (λ (a : List ℕ). is_held a (open_at now node.prefixes.entries)) (candidates_in node.neighbours.entries node.routers) (kept node.choice.redirects.limit (number_of destination.0) (redirect_history c)) destination.0
      → IsNextHop start c now destination next
  next_hop_is destination next is = record {
    prefixes = open_at now node.prefixes.entries;
    standing = s.prefixes.lists now (omega (arith, s.prefixes_by_then, le));
    routers = candidates_in node.neighbours.entries node.routers;
    those = record {
      entries = node.routers.entries;
      listed = routers_listed;
      failed = node.routers.failed;
      failures = s.routers.failures;
      routers_are = candidates_are c node.neighbours.entries node.routers node.routers.entries s.neighbours
          (λ key h. ap (λ ps. preference_among key ps) s.routers.preferred ∙ found_among (λ k. preference_of k (router_history c)) key node.routers.entries h);
    };
    next_is = is ∙ (hop_by_own (λ (a : List ℕ). counted_in Own (address_in (number_of a) node.addresses.addresses)) (is_own c) (λ (a : List ℕ). is_held a (open_at now node.prefixes.entries)) (candidates_in node.neighbours.entries node.routers) (kept node.choice.redirects.limit (number_of destination.0) (redirect_history c)) destination.0
        (counted_by_history Own (number_of destination.0) node.addresses.addresses (address_history c) s.addresses)
        ∙ ap (λ (limit : ℕ). hop (is_own c) (λ (a : List ℕ). is_held a (open_at now node.prefixes.entries)) (candidates_in node.neighbours.entries node.routers) (kept limit (number_of destination.0) (redirect_history c)) destination.0) s.limits.redirects);
  }

-- ---- a packet of a node of either role

pub hop_of_host : (start : Start) (role : Role) → role ≡ start.role → role ≡ Host → (c : Chronicle) (now : ℕ) (destination : Addr) (next : NextHop) → IsNextHop start c now destination next → IsHopOf start start.role c now destination next
hop_of_host start role is host c now destination next h = subst (λ (r : Role). IsHopOf start r c now destination next) (sym host ∙ is) h

-- a router's goes by its routes
pub hop_of_router : {R A : Type 0} (stream : R → Stream) (start : Start) (node : nodes.Node R A) (c : Chronicle) (now : ℕ) → Stands stream start node c → node.role ≡ Router → (destination : Addr) (own : Bool) (next : NextHop)
    → own ≡ counted_in Own (address_in (number_of destination.0) node.addresses.addresses)
    → ((is : List ℕ → Bool) → is destination.0 ≡ own → (history : List route_rows.Row) → routing.Stands node.router.routes history → next ≡ by_routes.hop is (routes history) destination.0)
    → IsHopOf start start.role c now destination next
hop_of_router stream start node c now s router destination own next own_is by_history = subst (λ (r : Role). IsHopOf start r c now destination next) (sym router ∙ s.role)
    (by_history (is_own c) (sym (own_is ∙ counted_by_history Own (number_of destination.0) node.addresses.addresses (address_history c) s.addresses)) (route_history c) s.router.routes)

-- ---- the next hop is remembered

-- a node whose choice was asked stands for the same
pub stands_asked : {R A : Type 0} (stream : R → Stream) (start : Start) (node : nodes.Node R A) (c : Chronicle) (asked : choice.Table) → Stands stream start node c → KeepsRoom node.choice asked → choice.Stands asked (redirect_history c)
    → Recalls node.last (record node { choice = asked }) → Stands stream start (record node { choice = asked }) c
stands_asked stream start node c asked s room redirects recalls = record {
  role = s.role;
  mac = s.mac;
  chosen = s.chosen;
  policies = s.policies;
  address_mac = s.address_mac;
  address_transmits = s.address_transmits;
  limits = record {
    neighbours = s.limits.neighbours;
    routers = s.limits.routers;
    prefixes = s.limits.prefixes;
    addresses = s.limits.addresses;
    servers = s.limits.servers;
    names = s.limits.names;
    redirects = room.redirects ∙ s.limits.redirects;
    destinations = room.destinations ∙ s.limits.destinations;
    waiting = s.limits.waiting;
  };
  params = s.params;
  routers = s.routers;
  prefixes = s.prefixes;
  addresses = s.addresses;
  neighbours = s.neighbours;
  dns = s.dns;
  redirects = redirects;
  solicitations = s.solicitations;
  router = s.router;
  generator = s.generator;
  last = s.last;
  prefixes_by_then = s.prefixes_by_then;
  servers_by_then = s.servers_by_then;
  names_by_then = s.names_by_then;
  memo = recalls;
  in_time = s.in_time;
}
