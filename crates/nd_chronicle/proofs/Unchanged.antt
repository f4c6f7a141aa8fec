-- What leaves every history as it was leaves every question as it was.
use Rattle.std.proofs.Common.{◌≡◌, ℕ, true, List, ◌∷◌, Option, Some, None, refl, sym, ◌∙◌, ap, subst}
use Rattle.std.specs.Prelude.{◌≢◌, ◌||◌, Bool, is_some, map}
use Rattle.nd_addr.specs.declared.addr.Addr.{Addr}
use Rattle.nd_addr.specs.declared.role.Role.{Role}
use Rattle.nd_addr.specs.declared.role.Role.TheVariants.{Host, Router}
use Rattle.nd_addr.specs.Number.{number_of}
use Rattle.nd_addr.specs.Prefix.{PrefixValue}
use Rattle.nd_addr.specs.Same.{same_addr, same_prefix}
use Rattle.nd_dns.specs.AnnouncedNames.{same_name}
use Rattle.nd_table.specs.declared.lasting.Lasting.{Lasting}
use Rattle.nd_table.specs.Announcements as lifetimes
use Rattle.nd_table.specs.Listing.{Lists}
use Rattle.nd_table.specs.Shown.{Shows}
use Rattle.nd_neighbour.specs.Due as neighbours_due
use Rattle.nd_neighbour.specs.History as neighbours
use Rattle.nd_neighbour.specs.Shown as neighbours_shown
use Rattle.nd_neighbour.specs.Story.{mac_of}
use Rattle.nd_nexthop.specs.DefaultRouter.{DefaultRouter}
use Rattle.nd_nexthop.specs.History as redirects
use Rattle.nd_nexthop.specs.NextHop.{NextHop, hop}
use Rattle.nd_params.specs.History as parameters
use Rattle.nd_params.specs.ReachableTime.{next_draw}
use Rattle.nd_routers.specs.RouterFailures.{Failures, place_among}
use Rattle.nd_routers.specs.Due as routers_due
use Rattle.nd_routers.specs.History as routers
use Rattle.nd_routers.specs.History.{announcements, preference_of}
use Rattle.nd_routers.specs.OnLink.{is_held}
use Rattle.nd_routers.specs.Routers.{same}
use Rattle.nd_routers.specs.Shown as routers_shown
use Rattle.nd_slaac.specs.Due as addresses_due
use Rattle.nd_slaac.specs.History as addresses
use Rattle.nd_slaac.specs.Shown as addresses_shown
use Rattle.nd_slaac.specs.State as states
use Rattle.nd_chronicle.specs.Start.{Start}
use Rattle.nd_chronicle.specs.Happening.{Chronicle, Happening, Passed, Dropped, Refused, TooLate}
use Rattle.nd_chronicle.specs.Histories.{parameter_history, neighbour_history, router_history, prefix_history, address_history, server_history, name_history, redirect_history, advertising_history, route_history}
use Rattle.nd_chronicle.specs.Generator.{stream_left}
use Rattle.nd_chronicle.specs.NextHop.{candidate, AreRouters, IsNextHop, IsHopOf}
use Rattle.nd_chronicle.specs.OwnAddress.{is_own}
use Rattle.nd_chronicle.specs.Due.{What, RouterEnds, AddressFalls, NeighbourFalls, RoutersSolicited, RouterAdvertises, Redraws, Due, NoRouter, NoAddress, NoNeighbour, NoSolicitation, NoAdvertisement, solicited_routers, router_solicitation_date, router_advertisement_date}
use Rattle.nd_chronicle.specs.Shown.{Table, NeighbourTable, RouterTable, PrefixTable, AddressTable, DnsTable, RedirectTable, ParameterTable, AdvertiseTable, RouteTable, AreRows}
use Rattle.nd_chronicle.specs.Unchanged.{changes_nothing, IsUnchanged}

-- the same histories
record Same (start : Start) (c d : Chronicle) : Type 0 where
  parameters : parameter_history d ≡ parameter_history c
  neighbours : neighbour_history d ≡ neighbour_history c
  routers : router_history d ≡ router_history c
  prefixes : prefix_history d ≡ prefix_history c
  addresses : address_history d ≡ address_history c
  servers : server_history d ≡ server_history c
  names : name_history d ≡ name_history c
  redirects : redirect_history d ≡ redirect_history c
  advertising : advertising_history start d ≡ advertising_history start c
  routes : route_history d ≡ route_history c
  words : stream_left start d ≡ stream_left start c
  solicited : solicited_routers d ≡ solicited_routers c

back : (start : Start) (c d : Chronicle) → Same start c d → Same start d c
back start c d s = record {
  parameters = sym s.parameters;
  neighbours = sym s.neighbours;
  routers = sym s.routers;
  prefixes = sym s.prefixes;
  addresses = sym s.addresses;
  servers = sym s.servers;
  names = sym s.names;
  redirects = sym s.redirects;
  advertising = sym s.advertising;
  routes = sym s.routes;
  words = sym s.words;
  solicited = sym s.solicited;
}

-- a router of the list, and the own addresses, asked of the histories
abbrev candidate_in : List neighbours.Row → List routers.RouterRow → List ℕ → ℕ → DefaultRouter
candidate_in known announced failed key = record {
  key = key;
  usable = is_some (mac_of (neighbours.story key known));
  preference = preference_of key announced;
  failed = place_among key failed;
}

abbrev own_in : List addresses.Row → List ℕ → Bool
own_in history address = states.is_tentative (addresses.story (number_of address) history) || states.is_assigned (addresses.story (number_of address) history)

module _ (start : Start) (c d : Chronicle) (s : Same start c d) where
  -- ---- what is due

  solicitation_date : router_solicitation_date start d ≡ router_solicitation_date start c
  solicitation_date = rw (s.solicited, s.parameters, s.addresses) refl

  advertisement_date : router_advertisement_date start d ≡ router_advertisement_date start c
  advertisement_date = rw s.advertising refl

  module _ (moment : ℕ) where
    no_router : NoRouter d moment → NoRouter c moment
    no_router n = subst (λ (h : List routers.RouterRow). routers_due.FirstDue h moment None) s.routers n

    no_address : NoAddress start d moment → NoAddress start c moment
    no_address n = subst (λ (h : List addresses.Row). addresses_due.FirstDue start.transmits h moment None) s.addresses n

    no_neighbour : NoNeighbour d moment → NoNeighbour c moment
    no_neighbour n = subst (λ (h : List neighbours.Row). neighbours_due.FirstDue h moment None) s.neighbours n

    no_solicitation : NoSolicitation start d moment → NoSolicitation start c moment
    no_solicitation n = λ e. n (solicitation_date ∙ e)

    no_advertisement : NoAdvertisement start d moment → NoAdvertisement start c moment
    no_advertisement n = λ e. n (advertisement_date ∙ e)

    due_by : (what : Option What) → Due start d moment what → Due start c moment what
    due_by (Some (RouterEnds key)) h = subst (λ (x : List routers.RouterRow). routers_due.FirstDue x moment (Some key)) s.routers h
    due_by (Some (AddressFalls falls)) h = (no_router h.0, subst (λ (x : List addresses.Row). addresses_due.FirstDue start.transmits x moment (Some falls)) s.addresses h.1)
    due_by (Some (NeighbourFalls falls)) h = (no_router h.0, no_address h.1, subst (λ (x : List neighbours.Row). neighbours_due.FirstDue x moment (Some falls)) s.neighbours h.2)
    due_by (Some RoutersSolicited) h = (no_router h.0, no_address h.1, no_neighbour h.2, sym solicitation_date ∙ h.3)
    due_by (Some RouterAdvertises) h = (no_router h.0, no_address h.1, no_neighbour h.2, no_solicitation h.3, sym advertisement_date ∙ h.4)
    due_by (Some Redraws) h =
        (no_router h.0, no_address h.1, no_neighbour h.2, no_solicitation h.3, no_advertisement h.4, subst (λ (x : List parameters.Row). next_draw x ≡ moment) s.parameters h.5)
    due_by None h =
        (no_router h.0, no_address h.1, no_neighbour h.2, no_solicitation h.3, no_advertisement h.4, subst (λ (x : List parameters.Row). next_draw x ≢ moment) s.parameters h.5)

  -- ---- next hops

  module _ (now : ℕ) where
    candidates : candidate d ≡ candidate c
    candidates = ap (λ (h : List neighbours.Row). candidate_in h (router_history d)) s.neighbours ∙ ap (λ (h : List routers.RouterRow). candidate_in (neighbour_history c) h) s.routers

    routers_by : (rs : List DefaultRouter) → AreRouters d now rs → AreRouters c now rs
    routers_by rs a = record {
      entries = a.entries;
      listed = subst (λ (x : List routers.RouterRow). Lists same (announcements x) now a.entries) s.routers a.listed;
      failed = a.failed;
      failures = subst (λ (x : List routers.RouterRow). Failures x a.failed) s.routers a.failures;
      routers_are = a.routers_are ∙ ap (λ (f : List ℕ → ℕ → DefaultRouter). map (λ (e : Lasting ℕ). f a.failed e.key) a.entries) candidates;
    }

    own_by : is_own d ≡ is_own c
    own_by = ap own_in s.addresses

    next_hop_by : (destination : Addr) (next : NextHop) → IsNextHop start d now destination next → IsNextHop start c now destination next
    next_hop_by destination next h = record {
      prefixes = h.prefixes;
      standing = subst (λ (x : List (lifetimes.Row PrefixValue)). Lists same_prefix x now h.prefixes) s.prefixes h.standing;
      routers = h.routers;
      those = routers_by h.routers h.those;
      next_is = h.next_is
          ∙ ap (λ (own : List ℕ → Bool). hop own (λ (a : List ℕ). is_held a h.prefixes) h.routers (redirects.kept start.limits.redirects (number_of destination.0) (redirect_history d)) destination.0) own_by
          ∙ ap (λ (x : List redirects.RedirectRow). hop (is_own c) (λ (a : List ℕ). is_held a h.prefixes) h.routers (redirects.kept start.limits.redirects (number_of destination.0) x) destination.0) s.redirects;
    }

    hop_by : (role : Role) (destination : Addr) (next : NextHop) → IsHopOf start role d now destination next → IsHopOf start role c now destination next
    hop_by Host destination next h = next_hop_by destination next h
    hop_by Router destination next h = h ∙ rw (s.addresses, s.routes) refl

    -- ---- what is shown

    rows_by : (table : Table) (rows : List (List ℕ)) → AreRows start d now table rows → AreRows start c now table rows
    rows_by NeighbourTable rows h = (h.0, subst (λ (x : List neighbours.Row). neighbours_shown.Lists x now h.0) s.neighbours h.1, h.2)
    rows_by RouterTable rows h = (h.0, subst (λ (x : List routers.RouterRow). routers_shown.Shows x now h.0) s.routers h.1, h.2)
    rows_by PrefixTable rows h = (h.0, subst (λ (x : List (lifetimes.Row PrefixValue)). Shows same_prefix x now h.0) s.prefixes h.1, h.2)
    rows_by AddressTable rows h = (h.0, subst (λ (x : List addresses.Row). addresses_shown.Lists x now h.0) s.addresses h.1, h.2)
    rows_by DnsTable rows h = (
      h.0,
      subst (λ (x : List (lifetimes.Row Addr)). Shows same_addr x now h.0) s.servers h.1,
      h.2,
      subst (λ (x : List (lifetimes.Row (List ℕ))). Shows same_name x now h.2) s.names h.3,
      h.4,
    )
    rows_by RedirectTable rows h = h ∙ rw s.redirects refl
    rows_by ParameterTable rows h = h ∙ rw s.parameters refl
    rows_by AdvertiseTable rows h = h ∙ rw s.advertising refl
    rows_by RouteTable rows h = h ∙ rw s.routes refl

same_by : (start : Start) (c : Chronicle) (at : ℕ) (what : Happening) → changes_nothing what ≡ true → Same start c ((at, what) ∷ c)
same_by start c at Passed is = record { parameters = refl; neighbours = refl; routers = refl; prefixes = refl; addresses = refl; servers = refl; names = refl; redirects = refl; advertising = refl; routes = refl; words = refl; solicited = refl }
same_by start c at (Dropped why) is = record { parameters = refl; neighbours = refl; routers = refl; prefixes = refl; addresses = refl; servers = refl; names = refl; redirects = refl; advertising = refl; routes = refl; words = refl; solicited = refl }
same_by start c at (Refused refusal) is = record { parameters = refl; neighbours = refl; routers = refl; prefixes = refl; addresses = refl; servers = refl; names = refl; redirects = refl; advertising = refl; routes = refl; words = refl; solicited = refl }
same_by start c at (TooLate last) is = record { parameters = refl; neighbours = refl; routers = refl; prefixes = refl; addresses = refl; servers = refl; names = refl; redirects = refl; advertising = refl; routes = refl; words = refl; solicited = refl }
same_by start c at what is = absurd (let e : ⊥ = cc in e)

module _ (start : Start) (c : Chronicle) where
  unchanged : (d : Chronicle) → Same start c d → IsUnchanged start c d
  unchanged d s = record {
    parameters = s.parameters;
    neighbours = s.neighbours;
    routers = s.routers;
    prefixes = s.prefixes;
    addresses = s.addresses;
    servers = s.servers;
    names = s.names;
    redirects = s.redirects;
    advertising = s.advertising;
    routes = s.routes;
    words = s.words;
    due = λ moment what. (due_by start c d s moment what, due_by start d c (back start c d s) moment what);
    hops = λ now destination next. (hop_by start c d s now start.role destination next, hop_by start d c (back start c d s) now start.role destination next);
    rows = λ now table rows. (rows_by start c d s now table rows, rows_by start d c (back start c d s) now table rows);
  }

  pub unchanged_by : (at : ℕ) (what : Happening) → changes_nothing what ≡ true → IsUnchanged start c ((at, what) ∷ c)
  unchanged_by at what is = unchanged ((at, what) ∷ c) (same_by start c at what is)

  -- with the time that passed up to the event
  pub unchanged_by_event : (now : ℕ) (what : Happening) → changes_nothing what ≡ true → IsUnchanged start c ((now, what) ∷ (now, Passed) ∷ c)
  unchanged_by_event now what is = unchanged ((now, what) ∷ (now, Passed) ∷ c) (passed (same_by start ((now, Passed) ∷ c) now what is))
    where
      passed : Same start ((now, Passed) ∷ c) ((now, what) ∷ (now, Passed) ∷ c) → Same start c ((now, what) ∷ (now, Passed) ∷ c)
      passed s = record {
        parameters = s.parameters;
        neighbours = s.neighbours;
        routers = s.routers;
        prefixes = s.prefixes;
        addresses = s.addresses;
        servers = s.servers;
        names = s.names;
        redirects = s.redirects;
        advertising = s.advertising;
        routes = s.routes;
        words = s.words;
        solicited = s.solicited;
      }
