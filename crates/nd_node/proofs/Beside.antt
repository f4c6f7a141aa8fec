-- Where neighbours and own addresses alone have more rows, the other tables stand for the same.
use Rattle.std.proofs.Common.{◌≡◌, ℕ, ◌≤◌, ◌∷◌, List, refl, sym, ◌∙◌, ap, subst, arith}
use Rattle.rand_core.specs.Stream.{Stream}
use Rattle.nd_neighbour.specs.History.{RowKind}
use Rattle.nd_neighbour.specs.TableKept as neighbours
use Rattle.nd_neighbour.specs.DueKept as neighbour_dates
use Rattle.nd_routers.specs.History.{RouterRow}
use Rattle.nd_nexthop.specs.History.{RedirectRow}
use Rattle.nd_slaac.specs.TableKept as addresses
use Rattle.nd_slaac.specs.Dates as address_dates
use Rattle.nd_chronicle.specs.Start.{Start, link_local_key}
use Rattle.nd_chronicle.specs.Happening.{Chronicle, Neighbour, Sent, last_moment}
use Rattle.nd_chronicle.specs.Histories.{parameter_history, neighbour_history, router_history, prefix_history, address_history, server_history, name_history, redirect_history, then_failed, then_target}
use Rattle.nd_chronicle.specs.Generator.{stream_left}
use Rattle.nd_chronicle.specs.Due.{solicited_routers, assigned_at}
use Rattle.nd_steps.specs.RouterTables.{router_side}
use Rattle.nd_steps.proofs.Quiet.{Quiet}
use Rattle.nd_steps.proofs.RouterSide.{side_stands}
use Rattle.nd_node.specs.declared.node.Node.{Node}
use Rattle.nd_node.specs.NodeKept.{Stands, next_of}
use Rattle.nd_nexthop.specs.Choice.{Table}
use Rattle.nd_nexthop.specs.Memo.{forgotten}
use Rattle.nd_steps.specs.DestinationCache.{MayRemember}
use Rattle.nd_node.proofs.Recalling.{Recalls, forgets_all, may_recall, redirects_stand}
use Rattle.nd_node.proofs.Turns.{all_later, routers_before, addresses_before, neighbours_before, solicitation_before, advertisement_before, redraw_before}

-- ---- the chronicle

-- what happened between the two concerns the neighbours and the own addresses alone, assigned none of these, and drew nothing
pub record Beside (c d : Chronicle) : Type 0 where
  pub parameters : parameter_history d ≡ parameter_history c
  pub routers : router_history d ≡ router_history c
  pub prefixes : prefix_history d ≡ prefix_history c
  pub servers : server_history d ≡ server_history c
  pub names : name_history d ≡ name_history c
  pub redirects : redirect_history d ≡ redirect_history c
  pub assigned : (key : ℕ) → assigned_at key (address_history d) ≡ assigned_at key (address_history c)
  pub solicited : solicited_routers d ≡ solicited_routers c
  pub router : (start : Start) → router_side start d ≡ router_side start c
  pub stream : (start : Start) → stream_left start d ≡ stream_left start c

pub beside_quiet : (c d : Chronicle) → Quiet c d → Beside c d
beside_quiet c d q = record {
  parameters = q.parameters;
  routers = q.routers;
  prefixes = q.prefixes;
  servers = q.servers;
  names = q.names;
  redirects = q.redirects;
  assigned = λ key. ap (assigned_at key) q.addresses;
  solicited = q.solicited;
  router = q.router;
  stream = q.stream;
}

pub beside_then : (c d e : Chronicle) → Beside c d → Beside d e → Beside c e
beside_then c d e b f = record {
  parameters = f.parameters ∙ b.parameters;
  routers = f.routers ∙ b.routers;
  prefixes = f.prefixes ∙ b.prefixes;
  servers = f.servers ∙ b.servers;
  names = f.names ∙ b.names;
  redirects = f.redirects ∙ b.redirects;
  assigned = λ key. f.assigned key ∙ b.assigned key;
  solicited = f.solicited ∙ b.solicited;
  router = λ start. f.router start ∙ b.router start;
  stream = λ start. f.stream start ∙ b.stream start;
}

-- a row of a neighbour that is no failure
pub beside_neighbour : (at key : ℕ) (kind : RowKind) (c : Chronicle)
    → ((history : List RouterRow) → then_failed at key kind history ≡ history)
    → ((history : List RedirectRow) → then_target at key kind history ≡ history)
    → Beside c ((at, Neighbour key kind) ∷ c)
beside_neighbour at key kind c routers' redirects' = record {
  parameters = refl;
  routers = routers' (router_history c);
  prefixes = refl;
  servers = refl;
  names = refl;
  redirects = redirects' (redirect_history c);
  assigned = λ k. refl;
  solicited = refl;
  router = λ start. refl;
  stream = λ start. refl;
}

pub beside_sent : (at : ℕ) (frame : List ℕ) (c : Chronicle) → Beside c ((at, Sent frame) ∷ c)
beside_sent at frame c = record {
  parameters = refl;
  routers = refl;
  prefixes = refl;
  servers = refl;
  names = refl;
  redirects = refl;
  assigned = λ k. refl;
  solicited = refl;
  router = λ start. refl;
  stream = λ start. refl;
}

-- ---- the node

-- a call changed nothing but neighbours, rings and own addresses
pub record Same {R A : Type 0} (old new : Node R A) : Type 0 where
  pub role : new.role ≡ old.role
  pub mac : new.mac ≡ old.mac
  pub chosen : new.limits ≡ old.limits
  pub policies : new.policies ≡ old.policies
  pub generator : new.generator ≡ old.generator
  pub last : new.last ≡ old.last
  pub params : new.params ≡ old.params
  pub routers : new.routers ≡ old.routers
  pub prefixes : new.prefixes ≡ old.prefixes
  pub dns : new.dns ≡ old.dns
  pub redirects : new.choice.redirects ≡ old.choice.redirects
  pub solicitations : new.solicitations ≡ old.solicitations
  pub router : new.router ≡ old.router
  pub address_mac : new.addresses.mac ≡ old.addresses.mac
  pub address_transmits : new.addresses.transmits ≡ old.addresses.transmits
  pub address_limit : new.addresses.limit ≡ old.addresses.limit
  pub neighbour_limit : new.neighbours.limit ≡ old.neighbours.limit
  pub waiting : new.neighbours.waiting ≡ old.neighbours.waiting

module _ {R A : Type 0} (stream : R → Stream) (start : Start) (old new : Node R A) (c d : Chronicle) (now : ℕ)
    (same : Same old new) (b : Beside c d) (s : Stands stream start old c) (at : last_moment start.at c ≡ now) (end : last_moment start.at d ≡ now) where
  not_past : now ≤ next_of old
  not_past = omega (arith, s.in_time, at)

  -- the neighbours and the own addresses stand for their rows, and none is due in the past
  pub stands_beside : addresses.Stands new.addresses.addresses (address_history d) → address_dates.NoneBefore new.addresses.addresses now
      → neighbours.Stands new.neighbours.entries (neighbour_history d) → neighbour_dates.NoneBefore new.neighbours.entries now
      → Recalls now new → Stands stream start new d
  stands_beside addresses' later_address neighbours' later_neighbour recalls = record {
    role = same.role ∙ s.role;
    mac = same.mac ∙ s.mac;
    chosen = same.chosen ∙ s.chosen;
    policies = same.policies ∙ s.policies;
    address_mac = same.address_mac ∙ s.address_mac;
    address_transmits = same.address_transmits ∙ s.address_transmits;
    limits = record {
      neighbours = same.neighbour_limit ∙ s.limits.neighbours;
      routers = rw same.routers s.limits.routers;
      prefixes = rw same.prefixes s.limits.prefixes;
      addresses = same.address_limit ∙ s.limits.addresses;
      servers = rw same.dns s.limits.servers;
      names = rw same.dns s.limits.names;
      redirects = rw same.redirects s.limits.redirects;
      destinations = rw same.redirects s.limits.destinations;
      waiting = same.waiting ∙ s.limits.waiting;
    };
    params = rw (same.params, b.parameters) s.params;
    routers = rw (same.routers, b.routers) s.routers;
    prefixes = rw (same.prefixes, b.prefixes) s.prefixes;
    addresses = addresses';
    neighbours = neighbours';
    dns = rw (same.dns, b.servers, b.names) s.dns;
    redirects = redirects_stand old.choice new.choice (redirect_history d) same.redirects (rw b.redirects s.redirects);
    solicitations = rw same.solicitations (record {
      assigned = s.solicitations.assigned ∙ sym (b.assigned (link_local_key start));
      sent = s.solicitations.sent ∙ sym b.solicited;
      heard = rw b.parameters s.solicitations.heard;
    });
    router = rw same.router (side_stands start old.router c d (b.router start) s.router);
    generator = ap stream same.generator ∙ (s.generator ∙ sym (b.stream start));
    last = same.last ∙ (s.last ∙ (at ∙ sym end));
    prefixes_by_then = rw (b.prefixes, end) (omega (arith, s.prefixes_by_then, at));
    servers_by_then = rw (b.servers, end) (omega (arith, s.servers_by_then, at));
    names_by_then = rw (b.names, end) (omega (arith, s.names_by_then, at));
    memo = subst (λ (t : ℕ). Recalls t new) (sym (same.last ∙ (s.last ∙ at))) recalls;
    in_time = rw end (all_later new now (rw same.routers (routers_before old now not_past)) later_address later_neighbour
        (rw (same.role, same.solicitations) (solicitation_before old now not_past)) (rw (same.role, same.router) (advertisement_before old now not_past)) (rw same.params (redraw_before old now not_past)));
  }

  -- rows of neighbours alone
  pub stands_neighbours : new.addresses ≡ old.addresses → address_history d ≡ address_history c
      → neighbours.Stands new.neighbours.entries (neighbour_history d) → neighbour_dates.NoneBefore new.neighbours.entries now → MayRemember old.choice new.choice old.neighbours.entries new.neighbours.entries → Stands stream start new d
  stands_neighbours is own neighbours' later may =
      stands_beside (rw (is, own) s.addresses) (rw is (addresses_before old now not_past)) neighbours' later
      (may_recall old new old.last now (omega (arith, s.last, at)) s.memo same.prefixes may same.routers (rw is (λ key. refl)) (neighbour_history c) s.neighbours)

  -- rows of own addresses alone
  pub stands_addresses : new.neighbours ≡ old.neighbours → neighbour_history d ≡ neighbour_history c
      → addresses.Stands new.addresses.addresses (address_history d) → address_dates.NoneBefore new.addresses.addresses now → new.choice ≡ record old.choice { memory = forgotten old.choice.memory } → Stands stream start new d
  stands_addresses is others addresses' later forgot =
      stands_beside addresses' later (rw (is, others) s.neighbours) (rw is (neighbours_before old now not_past))
      (forgets_all old new old.last now (omega (arith, s.last, at)) s.memo same.prefixes (ap (λ (t : Table). t.memory) forgot))
