-- A node that starts stands for the beginning.
use Rattle.std.proofs.Common.{◌≡◌, ℕ, [], ◌∷◌, None, false, refl, ap, arith}
use Rattle.std.specs.Prelude.{if◌then◌else◌}
use Rattle.rand_core.specs.Stream.{Stream}
use Rattle.nd_addr.specs.declared.role.Role.{Role}
use Rattle.nd_addr.specs.declared.role.Role.TheVariants.{Host, Router}
use Rattle.nd_addr.specs.Same.{same_prefix}
use Rattle.nd_table.specs.DueKept.{NotBefore}
use Rattle.nd_table.specs.ListingKept as lists
use Rattle.nd_neighbour.specs.TableKept as neighbours
use Rattle.nd_slaac.specs.TableKept as addresses
use Rattle.nd_slaac.specs.Calls.{formed}
use Rattle.nd_routers.specs.RoutersKept as routers
use Rattle.nd_params.specs.ParamsKept as parameters
use Rattle.nd_dns.specs.DnsKept as dns
use Rattle.nd_routers.specs.PrefixesKept.{Prefixes}
use Rattle.nd_nexthop.specs.Choice as choice
use Rattle.nd_chronicle.specs.Start.{Policies, Start, link_local_key, is_host}
use Rattle.nd_chronicle.specs.Histories.{parameter_history, address_history}
use Rattle.nd_chronicle.specs.Generator.{stream_left}
use Rattle.nd_chronicle.specs.History.{beginning}
use Rattle.nd_steps.specs.SolicitRouters.{Solicitations, next_solicitation}
use Rattle.nd_node.specs.declared.node.Node.{Node}
use Rattle.nd_node.specs.Node.{with_policies}
use Rattle.nd_node.specs.NodeKept.{Stands}
use Rattle.nd_steps.proofs.Remembering.{remembers_nothing}
use Rattle.nd_node.proofs.Turns.{all_later}

abbrev none_sent : Solicitations
none_sent = record { assigned = None; sent = 0; heard = false }

none_is_due : (role : Role) (now : ℕ) → NotBefore now (next_solicitation role none_sent)
none_is_due Host now = tt
none_is_due Router now = tt

none_advertised : (role : Role) (now : ℕ) → NotBefore now (if is_host role then None else None)
none_advertised Host now = tt
none_advertised Router now = tt

-- the values of a node that starts
pub record Starts {R A : Type 0} (stream : R → Stream) (start : Start) (node : Node R A) : Type 0 where
  pub role : node.role ≡ start.role
  pub mac : node.mac ≡ start.mac
  pub chosen : node.limits ≡ start.limits
  pub policies : node.policies ≡ start.policies
  pub last : node.last ≡ start.at
  pub drawn_at : node.params.drawn_at ≡ start.at
  pub address_mac : node.addresses.mac ≡ start.mac
  pub address_transmits : node.addresses.transmits ≡ start.transmits
  pub address_limit : node.addresses.limit ≡ start.limits.addresses
  pub delay : ℕ
  pub retrans : ℕ
  pub formed : node.addresses.addresses ≡ formed (link_local_key start) start.at delay retrans None ∷ []
  pub routers : node.routers ≡ record { limit = start.limits.routers; entries = []; preferences = []; failed = [] }
  pub neighbours : node.neighbours ≡ record { limit = start.limits.neighbours; entries = []; waiting = start.limits.waiting; rings = 0 }
  pub solicitations : node.solicitations ≡ none_sent
  pub no_prefixes : node.prefixes ≡ record { limit = start.limits.prefixes; entries = [] }
  pub no_dns : node.dns ≡ record { server_limit = start.limits.servers; name_limit = start.limits.names; servers = []; names = [] }
  pub choice : node.choice ≡ record { redirects = record { limit = start.limits.redirects; destinations = start.limits.destinations; entries = [] }; memory = record { limit = start.limits.destinations; hops = []; until = None } }
  pub advertiser : node.router.advertiser ≡ record { assigned = None; last = None; advertising = None; limit = start.limits.offers; offers = [] }
  pub routes : node.router.routes ≡ record { limit = start.limits.routes; entries = []; redirected = None }

pub stands_beginning : {R A : Type 0} (stream : R → Stream) (start : Start) (node : Node R A) → Starts stream start node
    → parameters.Stands node.params (parameter_history (beginning start)) → routers.Stands node.routers [] → lists.Stands same_prefix node.prefixes.entries []
    → addresses.Stands node.addresses.addresses (address_history (beginning start)) → neighbours.Stands node.neighbours.entries [] → dns.Stands node.dns [] [] → choice.Stands node.choice []
    → stream node.generator ≡ stream_left start (beginning start) → Stands stream start node (beginning start)
stands_beginning stream start node v params routers' prefixes addresses' neighbours' dns' redirects generator = record {
  role = v.role;
  mac = v.mac;
  chosen = v.chosen;
  policies = v.policies;
  address_mac = v.address_mac;
  address_transmits = v.address_transmits;
  limits = record {
    neighbours = ap (λ (t : neighbours.Table). t.limit) v.neighbours;
    routers = ap (λ (t : routers.Table). t.limit) v.routers;
    prefixes = ap (λ (t : Prefixes). t.limit) v.no_prefixes;
    addresses = v.address_limit;
    servers = ap (λ (t : dns.Table). t.server_limit) v.no_dns;
    names = ap (λ (t : dns.Table). t.name_limit) v.no_dns;
    redirects = ap (λ (t : choice.Table). t.redirects.limit) v.choice;
    destinations = ap (λ (t : choice.Table). t.redirects.destinations) v.choice;
    waiting = ap (λ (t : neighbours.Table). t.waiting) v.neighbours;
  };
  params = params;
  routers = routers';
  prefixes = prefixes;
  addresses = addresses';
  neighbours = neighbours';
  dns = dns';
  redirects = redirects;
  solicitations = record {
    assigned = ap (λ (s : Solicitations). s.assigned) v.solicitations;
    sent = ap (λ (s : Solicitations). s.sent) v.solicitations;
    heard = ap (λ (s : Solicitations). s.heard) v.solicitations;
  };
  router = record { advertiser = rw v.advertiser (record { assigned = refl; last = refl; advertising = refl; offers = refl }); routes = rw v.routes (record { entries_are = refl; redirected_is = refl }); offer_limit = rw v.advertiser refl; route_limit = rw v.routes refl; spaced = tt };
  generator = generator;
  last = v.last;
  prefixes_by_then = omega arith;
  servers_by_then = omega arith;
  names_by_then = omega arith;
  memo = rw (v.no_prefixes, v.choice) (remembers_nothing node.last _ node.addresses.addresses [] node.neighbours.entries node.routers refl (λ moment after asked. refl));
  in_time = all_later node start.at (rw v.routers tt) (rw v.formed (omega arith)) (rw v.neighbours tt) (rw v.solicitations (none_is_due node.role start.at)) (rw v.advertiser (none_advertised node.role start.at)) (omega (arith, v.drawn_at));
}

-- the same with policies: the beginning doesn't depend on them
pub begins_with : {R A : Type 0} (stream : R → Stream) (start : Start) (node : Node R A) (policies : Policies) → Stands stream start node (beginning start)
    → Stands stream (with_policies policies start) (record node { policies = policies }) (beginning (with_policies policies start))
begins_with stream start node policies s = record {
  role = s.role;
  mac = s.mac;
  chosen = s.chosen;
  policies = refl;
  address_mac = s.address_mac;
  address_transmits = s.address_transmits;
  limits = s.limits;
  params = s.params;
  routers = s.routers;
  prefixes = s.prefixes;
  addresses = s.addresses;
  neighbours = s.neighbours;
  dns = s.dns;
  redirects = s.redirects;
  solicitations = record { assigned = s.solicitations.assigned; sent = s.solicitations.sent; heard = s.solicitations.heard };
  router = record { advertiser = s.router.advertiser; routes = s.router.routes; offer_limit = s.router.offer_limit; route_limit = s.router.route_limit; spaced = s.router.spaced };
  generator = s.generator;
  last = s.last;
  prefixes_by_then = s.prefixes_by_then;
  servers_by_then = s.servers_by_then;
  names_by_then = s.names_by_then;
  memo = s.memo;
  in_time = s.in_time;
}
