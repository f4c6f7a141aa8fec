-- A node stands for a chronicle with more rows of a moment, where these concern neither the parameters nor the prefixes nor the servers and
-- names.
use Rattle.std.proofs.Common.{◌≡◌, ℕ, ◌≤◌, Option, Some, None, sym, ◌∙◌, ap, arith}
use Rattle.std.specs.Prelude.{IsTrue}
use Rattle.rand_core.specs.Stream.{Stream}
use Rattle.nd_table.specs.DueKept.{NotBefore}
use Rattle.nd_table.specs.Ends.{is_before}
use Rattle.nd_neighbour.specs.TableKept as neighbours
use Rattle.nd_neighbour.specs.DueKept as neighbour_dates
use Rattle.nd_routers.specs.RoutersKept as routers
use Rattle.nd_nexthop.specs.Choice as choice
use Rattle.nd_steps.specs.DestinationCache.{KeepsRoom}
use Rattle.nd_slaac.specs.TableKept as addresses
use Rattle.nd_slaac.specs.Dates as address_dates
use Rattle.nd_chronicle.specs.Start.{Start, link_local_key}
use Rattle.nd_chronicle.specs.Happening.{Chronicle, last_moment}
use Rattle.nd_chronicle.specs.Histories.{parameter_history, neighbour_history, router_history, prefix_history, address_history, server_history, name_history, redirect_history}
use Rattle.nd_chronicle.specs.Generator.{stream_left}
use Rattle.nd_chronicle.specs.Due.{solicited_routers, assigned_at}
use Rattle.nd_steps.specs.RouterTables.{router_side}
use Rattle.nd_steps.proofs.Quiet.{Quiet}
use Rattle.nd_steps.proofs.RouterSide.{side_stands}
use Rattle.nd_node.specs.declared.node.Node.{Node}
use Rattle.nd_node.specs.NodeKept.{Stands, next_of}
use Rattle.nd_node.proofs.Recalling.{Recalls}
use Rattle.nd_node.proofs.Turns.{all_later, solicitation_before, advertisement_before, redraw_before}

-- what happened between the two concerns none of these, assigned no address, and drew nothing
pub record Apart (c d : Chronicle) : Type 0 where
  pub parameters : parameter_history d ≡ parameter_history c
  pub prefixes : prefix_history d ≡ prefix_history c
  pub servers : server_history d ≡ server_history c
  pub names : name_history d ≡ name_history c
  pub assigned : (key : ℕ) → assigned_at key (address_history d) ≡ assigned_at key (address_history c)
  pub solicited : solicited_routers d ≡ solicited_routers c
  pub router : (start : Start) → router_side start d ≡ router_side start c
  pub stream : (start : Start) → stream_left start d ≡ stream_left start c

pub apart_quiet : (c d : Chronicle) → Quiet c d → Apart c d
apart_quiet c d q = record {
  parameters = q.parameters;
  prefixes = q.prefixes;
  servers = q.servers;
  names = q.names;
  assigned = λ key. ap (assigned_at key) q.addresses;
  solicited = q.solicited;
  router = q.router;
  stream = q.stream;
}

pub apart_then : (c d e : Chronicle) → Apart c d → Apart d e → Apart c e
apart_then c d e b f = record {
  parameters = f.parameters ∙ b.parameters;
  prefixes = f.prefixes ∙ b.prefixes;
  servers = f.servers ∙ b.servers;
  names = f.names ∙ b.names;
  assigned = λ key. f.assigned key ∙ b.assigned key;
  solicited = f.solicited ∙ b.solicited;
  router = λ start. f.router start ∙ b.router start;
  stream = λ start. f.stream start ∙ b.stream start;
}

-- a call changed nothing but neighbours, own addresses, routers and redirects, and time has passed
pub record Still {R A : Type 0} (old new : Node R A) (now : ℕ) : Type 0 where
  pub role : new.role ≡ old.role
  pub mac : new.mac ≡ old.mac
  pub chosen : new.limits ≡ old.limits
  pub policies : new.policies ≡ old.policies
  pub generator : new.generator ≡ old.generator
  pub params : new.params ≡ old.params
  pub prefixes : new.prefixes ≡ old.prefixes
  pub dns : new.dns ≡ old.dns
  pub solicitations : new.solicitations ≡ old.solicitations
  pub router : new.router ≡ old.router
  pub address_mac : new.addresses.mac ≡ old.addresses.mac
  pub address_transmits : new.addresses.transmits ≡ old.addresses.transmits
  pub address_limit : new.addresses.limit ≡ old.addresses.limit
  pub neighbour_limit : new.neighbours.limit ≡ old.neighbours.limit
  pub waiting : new.neighbours.waiting ≡ old.neighbours.waiting
  pub router_limit : new.routers.limit ≡ old.routers.limit
  pub room : KeepsRoom old.choice new.choice
  pub last : new.last ≡ now

-- where no router's lifetime has ended, none is due in the past
pub settled_none : (now : ℕ) (end : Option ℕ) → IsTrue (is_before now end) → NotBefore now end
settled_none now None h = tt
settled_none now (Some end) h = grind (arith, h)

module _ {R A : Type 0} (stream : R → Stream) (start : Start) (old new : Node R A) (c d : Chronicle) (now : ℕ)
    (same : Still old new now) (b : Apart c d) (s : Stands stream start old c) (came : last_moment start.at c ≤ now) (not_past : now ≤ next_of old) (end : last_moment start.at d ≡ now) where
  pub stands_at : routers.Stands new.routers (router_history d) → routers.NoneBefore new.routers.entries now
      → addresses.Stands new.addresses.addresses (address_history d) → address_dates.NoneBefore new.addresses.addresses now
      → neighbours.Stands new.neighbours.entries (neighbour_history d) → neighbour_dates.NoneBefore new.neighbours.entries now
      → choice.Stands new.choice (redirect_history d) → Recalls now new → Stands stream start new d
  stands_at routers' later_router addresses' later_address neighbours' later_neighbour redirects' recalls = record {
    role = same.role ∙ s.role;
    mac = same.mac ∙ s.mac;
    chosen = same.chosen ∙ s.chosen;
    policies = same.policies ∙ s.policies;
    address_mac = same.address_mac ∙ s.address_mac;
    address_transmits = same.address_transmits ∙ s.address_transmits;
    limits = record {
      neighbours = same.neighbour_limit ∙ s.limits.neighbours;
      routers = same.router_limit ∙ s.limits.routers;
      prefixes = rw same.prefixes s.limits.prefixes;
      addresses = same.address_limit ∙ s.limits.addresses;
      servers = rw same.dns s.limits.servers;
      names = rw same.dns s.limits.names;
      redirects = same.room.redirects ∙ s.limits.redirects;
      destinations = same.room.destinations ∙ s.limits.destinations;
      waiting = same.waiting ∙ s.limits.waiting;
    };
    params = rw (same.params, b.parameters) s.params;
    routers = routers';
    prefixes = rw (same.prefixes, b.prefixes) s.prefixes;
    addresses = addresses';
    neighbours = neighbours';
    dns = rw (same.dns, b.servers, b.names) s.dns;
    redirects = redirects';
    solicitations = rw same.solicitations (record {
      assigned = s.solicitations.assigned ∙ sym (b.assigned (link_local_key start));
      sent = s.solicitations.sent ∙ sym b.solicited;
      heard = rw b.parameters s.solicitations.heard;
    });
    router = rw same.router (side_stands start old.router c d (b.router start) s.router);
    generator = ap stream same.generator ∙ (s.generator ∙ sym (b.stream start));
    last = same.last ∙ sym end;
    prefixes_by_then = rw (b.prefixes, end) (omega (arith, s.prefixes_by_then, came));
    servers_by_then = rw (b.servers, end) (omega (arith, s.servers_by_then, came));
    names_by_then = rw (b.names, end) (omega (arith, s.names_by_then, came));
    memo = rw same.last recalls;
    in_time = rw end (all_later new now later_router later_address later_neighbour
        (rw (same.role, same.solicitations) (solicitation_before old now not_past)) (rw (same.role, same.router) (advertisement_before old now not_past)) (rw same.params (redraw_before old now not_past)));
  }
