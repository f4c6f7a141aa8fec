-- A node stands for a chronicle with more that concerns no table.
use Rattle.std.proofs.Common.{◌≡◌, ℕ, ◌∷◌, refl, sym, ◌∙◌}
use Rattle.rand_core.specs.Stream.{Stream}
use Rattle.nd_chronicle.specs.Start.{Start}
use Rattle.nd_chronicle.specs.Happening.{Chronicle, Refusal, Refused, last_moment}
use Rattle.nd_steps.proofs.Quiet.{Quiet}
use Rattle.nd_steps.proofs.RouterSide.{side_stands}
use Rattle.nd_node.specs.declared.node.Node.{Node}
use Rattle.nd_node.specs.NodeKept.{Stands}

-- a node stands for the one where it stands for the other
pub stands_quiet : {R A : Type 0} (stream : R → Stream) (start : Start) (node : Node R A) (c d : Chronicle) → Quiet c d → Stands stream start node c → Stands stream start node d
stands_quiet stream start node c d q s = record {
  role = s.role;
  mac = s.mac;
  chosen = s.chosen;
  policies = s.policies;
  address_mac = s.address_mac;
  address_transmits = s.address_transmits;
  limits = s.limits;
  params = rw q.parameters s.params;
  routers = rw q.routers s.routers;
  prefixes = rw q.prefixes s.prefixes;
  addresses = rw q.addresses s.addresses;
  neighbours = rw q.neighbours s.neighbours;
  dns = rw (q.servers, q.names) s.dns;
  redirects = rw q.redirects s.redirects;
  solicitations = record {
    assigned = rw q.addresses s.solicitations.assigned;
    sent = rw q.solicited s.solicitations.sent;
    heard = rw q.parameters s.solicitations.heard;
  };
  router = side_stands start node.router c d (q.router start) s.router;
  generator = s.generator ∙ sym (q.stream start);
  last = s.last ∙ sym (q.last start.at);
  prefixes_by_then = rw (q.prefixes, q.last start.at) s.prefixes_by_then;
  servers_by_then = rw (q.servers, q.last start.at) s.servers_by_then;
  names_by_then = rw (q.names, q.last start.at) s.names_by_then;
  memo = s.memo;
  in_time = rw (q.last start.at) s.in_time;
}

-- a refusal concerns none
pub refused_is_quiet : (at : ℕ) (refusal : Refusal) (c : Chronicle) → ((start : ℕ) → last_moment start c ≡ at) → Quiet c ((at, Refused refusal) ∷ c)
refused_is_quiet at refusal c now = record {
  parameters = refl;
  neighbours = refl;
  routers = refl;
  prefixes = refl;
  addresses = refl;
  servers = refl;
  names = refl;
  redirects = refl;
  solicited = refl;
  router = λ start. refl;
  stream = λ start. refl;
  last = λ start. sym (now start);
}
