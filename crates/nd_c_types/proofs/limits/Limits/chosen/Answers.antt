use Rattle.std.proofs.Common.{◌≡◌, ◌∙◌, ℕ, true, ap, sym, subst, refl}
use Rattle.nd_neighbour.specs.TableKept.{max_neighbours}
use Rattle.nd_routers.specs.Routers.{max_routers}
use Rattle.nd_routers.specs.OnLinkPrefixes.{max_prefixes}
use Rattle.nd_slaac.specs.Room.{max_addresses}
use Rattle.nd_dns.specs.Dns.{max_names, max_servers}
use Rattle.nd_nexthop.specs.History.{max_redirects}
use Rattle.nd_nexthop.specs.Memo.{max_remembered}
use Rattle.nd_advertiser.specs.Offers.{max_offers}
use Rattle.nd_forwarding.specs.Routes.{max_routes}
use Rattle.nd_packet.specs.Waiting.{max_waiting}
use Rattle.nd_chronicle.specs.Start.{Limits}
use Rattle.nd_node.specs.Limits.{IsLimit, usual_limits}
use Rattle.nd_c_types.specs.Limits.{is_nothing, number_or}
use Rattle.nd_c_types.proofs.limits.Limits.chosen.Goals as goal

pub returns : goal.returns
returns c =
    let l = c.args.self.now in
    let usual : c.usual-usual.result ≡ usual_limits = c.usual-usual.ensures in
    let n1 : c.number_or.result ≡ number_or l.neighbours usual_limits.neighbours = c.number_or.ensures ∙ ap (number_or l.neighbours) (c.neighbours.ensures.value ∙ ap (λ (x : Limits). x.neighbours) usual) in
    let n2 : c.number_or-2.result ≡ number_or l.routers usual_limits.routers = c.number_or-2.ensures ∙ ap (number_or l.routers) (c.routers.ensures.value ∙ ap (λ (x : Limits). x.routers) usual) in
    let n3 : c.number_or-3.result ≡ number_or l.prefixes usual_limits.prefixes = c.number_or-3.ensures ∙ ap (number_or l.prefixes) (c.prefixes.ensures.value ∙ ap (λ (x : Limits). x.prefixes) usual) in
    let n4 : c.number_or-4.result ≡ number_or l.addresses usual_limits.addresses = c.number_or-4.ensures ∙ ap (number_or l.addresses) (c.addresses.ensures.value ∙ ap (λ (x : Limits). x.addresses) usual) in
    let n5 : c.number_or-5.result ≡ number_or l.servers usual_limits.servers = c.number_or-5.ensures ∙ ap (number_or l.servers) (c.servers.ensures.value ∙ ap (λ (x : Limits). x.servers) usual) in
    let n6 : c.number_or-6.result ≡ number_or l.names usual_limits.names = c.number_or-6.ensures ∙ ap (number_or l.names) (c.names.ensures.value ∙ ap (λ (x : Limits). x.names) usual) in
    let n7 : c.number_or-7.result ≡ number_or l.redirects usual_limits.redirects = c.number_or-7.ensures ∙ ap (number_or l.redirects) (c.redirects.ensures.value ∙ ap (λ (x : Limits). x.redirects) usual) in
    let n8 : c.number_or-8.result ≡ number_or l.destinations usual_limits.destinations = c.number_or-8.ensures ∙ ap (number_or l.destinations) (c.destinations.ensures.value ∙ ap (λ (x : Limits). x.destinations) usual) in
    let n9 : c.number_or-9.result ≡ number_or l.offers usual_limits.offers = c.number_or-9.ensures ∙ ap (number_or l.offers) (c.offers.ensures.value ∙ ap (λ (x : Limits). x.offers) usual) in
    let n10 : c.number_or-10.result ≡ number_or l.routes usual_limits.routes = c.number_or-10.ensures ∙ ap (number_or l.routes) (c.routes.ensures.value ∙ ap (λ (x : Limits). x.routes) usual) in
    let n11 : c.number_or-11.result ≡ number_or l.waiting usual_limits.waiting = c.number_or-11.ensures ∙ ap (number_or l.waiting) (c.waiting.ensures.value ∙ ap (λ (x : Limits). x.waiting) usual) in
    let none : is_nothing l.reserved ≡ true = sym c.is_nothing.ensures ∙ c.if-not-is_nothing.false in (
      record {
        limits = record {
          neighbours = subst (λ (n : ℕ). IsLimit max_neighbours n) n1 c.in_ok-with_neighbours.ensures.0;
          routers = subst (λ (n : ℕ). IsLimit max_routers n) n2 c.in_ok-with_routers.ensures.0;
          prefixes = subst (λ (n : ℕ). IsLimit max_prefixes n) n3 c.in_ok-with_prefixes.ensures.0;
          addresses = subst (λ (n : ℕ). IsLimit max_addresses n) n4 c.in_ok-with_addresses.ensures.0;
          servers = subst (λ (n : ℕ). IsLimit max_servers n) n5 c.in_ok-with_servers.ensures.0;
          names = subst (λ (n : ℕ). IsLimit max_names n) n6 c.in_ok-with_names.ensures.0;
          redirects = subst (λ (n : ℕ). IsLimit max_redirects n) n7 c.in_ok-with_redirects.ensures.0;
          destinations = subst (λ (n : ℕ). IsLimit max_remembered n) n8 c.in_ok-with_destinations.ensures.0;
          offers = subst (λ (n : ℕ). IsLimit max_offers n) n9 c.in_ok-with_offers.ensures.0;
          routes = subst (λ (n : ℕ). IsLimit max_routes n) n10 c.in_ok-with_routes.ensures.0;
          waiting = subst (λ (n : ℕ). IsLimit max_waiting n) n11 c.in_ok-limits.ensures.0;
        };
        reserved = none;
      },
      rw (c.in_ok-limits.ensures.1, c.in_ok-with_routes.ensures.1, c.in_ok-with_offers.ensures.1, c.in_ok-with_destinations.ensures.1, c.in_ok-with_redirects.ensures.1, c.in_ok-with_names.ensures.1, c.in_ok-with_servers.ensures.1, c.in_ok-with_addresses.ensures.1, c.in_ok-with_prefixes.ensures.1, c.in_ok-with_routers.ensures.1, c.in_ok-with_neighbours.ensures.1, n1, n2, n3, n4, n5, n6, n7, n8, n9, n10, n11) refl,
    )
