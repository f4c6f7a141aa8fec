use Rattle.std.proofs.Common.{◌≡◌, ℕ, ◌∷◌, [], refl, ◌∙◌, ap, subst}
use Rattle.std.specs.Prelude.{None}
use Rattle.rand_core.specs.Stream.{Stream, next_u32}
use Rattle.nd_params.specs.History.{Drew}
use Rattle.nd_params.specs.ParamsKept as parameters
use Rattle.nd_slaac.specs.History.{Formed}
use Rattle.nd_slaac.specs.PrefixOption.{link_local_of}
use Rattle.nd_slaac.specs.TableKept as addresses
use Rattle.nd_chronicle.specs.Generator.{drawn_from}
use Rattle.nd_node.specs.Node.{starting}
use Rattle.nd_node.proofs.Beginning.{stands_beginning}
use Rattle.nd_node.proofs.node.Node.new.Goals as goal

pub returns-clause-stands : goal.returns-clause-stands
returns-clause-stands g c =
    let stream = g.R.Rng.stream in
    let at = c.args.start in
    let first = starting at c.args.role c.args.mac c.args.transmits c.args.limits (stream c.args.generator) in
    let delay_is : c.drawn_from-delay.result ≡ drawn_from 0 1000 (next_u32 (stream c.args.generator)).1 =
    c.drawn_from-delay.ensures.value ∙ ap (λ (s : Stream). drawn_from 0 1000 s) c.reachable_drawn-reachable.ensures.left in
    let retrans_is : c.retrans_timer-retrans.result ≡ 1000 = c.retrans_timer-retrans.ensures.value ∙ ap (λ (v : parameters.Values). v.retrans_timer) c.new-params.ensures.value in
    stands_beginning stream first _
    (record {
      role = refl;
      mac = refl;
      chosen = refl;
      policies = c.none.ensures;
      last = refl;
      drawn_at = ap (λ (v : parameters.Values). v.drawn_at) c.new-params.ensures.value;
      address_mac = ap (λ (t : addresses.Table). t.mac) c.start.ensures.first;
      address_transmits = ap (λ (t : addresses.Table). t.transmits) c.start.ensures.first;
      address_limit = ap (λ (t : addresses.Table). t.limit) c.start.ensures.first ∙ c.in-Ok.ensures.addresses;
      delay = _;
      retrans = _;
      formed = ap (λ (t : addresses.Table). t.addresses) c.start.ensures.first;
      routers = c.in-Ok.ensures.routers;
      neighbours = c.in-Ok.ensures.neighbours;
      solicitations = c.new-2.ensures;
      advertiser = c.in-Ok.ensures.advertiser;
      routes = c.in-Ok.ensures.routes;
      no_prefixes = c.in-Ok.ensures.no_prefixes;
      no_dns = c.in-Ok.ensures.no_dns;
      choice = c.in-Ok.ensures.choice;
    })
    (subst (λ (v : ℕ). parameters.Stands c.new-params.result (Drew at v ∷ [])) c.reachable_drawn-reachable.ensures.value c.new-params.ensures.stands)
    c.in-Ok.ensures.router_history
    c.in-Ok.ensures.prefixes
    (subst (λ (r : ℕ). addresses.Stands c.start.result.addresses ((at, link_local_of c.args.mac, Formed (drawn_from 0 1000 (next_u32 (stream c.args.generator)).1) r None) ∷ [])) retrans_is
    (subst (λ (d : ℕ). addresses.Stands c.start.result.addresses ((at, link_local_of c.args.mac, Formed d c.retrans_timer-retrans.result None) ∷ [])) delay_is c.start.ensures.stands))
    c.in-Ok.ensures.neighbour_history
    c.in-Ok.ensures.dns
    c.in-Ok.ensures.redirects
    (c.drawn_from-delay.ensures.left ∙ ap (λ (s : Stream). (next_u32 s).1) c.reachable_drawn-reachable.ensures.left)
