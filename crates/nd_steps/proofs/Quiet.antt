-- What concerns no table: frames that are sent, packets that are lost, an address that is reported.
use Rattle.std.proofs.Common.{◌≡◌, ℕ, List, [], ◌∷◌, refl, sym, ◌∙◌}
use Rattle.nd_chronicle.specs.Start.{Start}
use Rattle.nd_chronicle.specs.Happening.{Chronicle, Lost, Loss, Resolved, Sent, last_moment}
use Rattle.nd_chronicle.specs.Histories.{parameter_history, neighbour_history, router_history, prefix_history, address_history, server_history, name_history, redirect_history}
use Rattle.nd_chronicle.specs.Generator.{stream_left}
use Rattle.nd_chronicle.specs.Due.{solicited_routers}
use Rattle.nd_chronicle.specs.Packet.{losing}
use Rattle.nd_steps.specs.RouterTables.{router_side}

-- what happened between the two concerns no table, draws nothing, and no time passed
pub record Quiet (c d : Chronicle) : Type 0 where
  pub parameters : parameter_history d ≡ parameter_history c
  pub neighbours : neighbour_history d ≡ neighbour_history c
  pub routers : router_history d ≡ router_history c
  pub prefixes : prefix_history d ≡ prefix_history c
  pub addresses : address_history d ≡ address_history c
  pub servers : server_history d ≡ server_history c
  pub names : name_history d ≡ name_history c
  pub redirects : redirect_history d ≡ redirect_history c
  pub solicited : solicited_routers d ≡ solicited_routers c
  pub router : (start : Start) → router_side start d ≡ router_side start c
  pub stream : (start : Start) → stream_left start d ≡ stream_left start c
  pub last : (at : ℕ) → last_moment at d ≡ last_moment at c

pub quiet_same : (c : Chronicle) → Quiet c c
quiet_same c = record {
  parameters = refl;
  neighbours = refl;
  routers = refl;
  prefixes = refl;
  addresses = refl;
  servers = refl;
  names = refl;
  redirects = refl;
  solicited = refl;
  router = λ start. refl;
  stream = λ start. refl;
  last = λ at. refl;
}

pub sent_is_quiet : (at : ℕ) (frame : List ℕ) (c : Chronicle) → ((start : ℕ) → last_moment start c ≡ at) → Quiet c ((at, Sent frame) ∷ c)
sent_is_quiet at frame c now = record {
  parameters = refl;
  neighbours = refl;
  routers = refl;
  prefixes = refl;
  addresses = refl;
  servers = refl;
  names = refl;
  redirects = refl;
  solicited = refl;
  router = λ start. refl;
  stream = λ start. refl;
  last = λ start. sym (now start);
}

pub resolved_is_quiet : (at key mac : ℕ) (c : Chronicle) → ((start : ℕ) → last_moment start c ≡ at) → Quiet c ((at, Resolved key mac) ∷ c)
resolved_is_quiet at key mac c now = record {
  parameters = refl;
  neighbours = refl;
  routers = refl;
  prefixes = refl;
  addresses = refl;
  servers = refl;
  names = refl;
  redirects = refl;
  solicited = refl;
  router = λ start. refl;
  stream = λ start. refl;
  last = λ start. sym (now start);
}

-- one after the other
pub quiet_then : (c d e : Chronicle) → Quiet c d → Quiet d e → Quiet c e
quiet_then c d e q r = record {
  parameters = r.parameters ∙ q.parameters;
  neighbours = r.neighbours ∙ q.neighbours;
  routers = r.routers ∙ q.routers;
  prefixes = r.prefixes ∙ q.prefixes;
  addresses = r.addresses ∙ q.addresses;
  servers = r.servers ∙ q.servers;
  names = r.names ∙ q.names;
  redirects = r.redirects ∙ q.redirects;
  solicited = r.solicited ∙ q.solicited;
  router = λ start. r.router start ∙ q.router start;
  stream = λ start. r.stream start ∙ q.stream start;
  last = λ at. r.last at ∙ q.last at;
}

pub losing_is_quiet : (at : ℕ) (why : Loss) (packets : List (List ℕ)) (c : Chronicle) → ((start : ℕ) → last_moment start c ≡ at) → Quiet c (losing at why packets c)
losing_is_quiet at why [] c now = quiet_same c
losing_is_quiet at why (packet ∷ packets) c now =
    let q = losing_is_quiet at why packets ((at, Lost why packet) ∷ c) (λ start. refl) in
    record {
      parameters = q.parameters;
      neighbours = q.neighbours;
      routers = q.routers;
      prefixes = q.prefixes;
      addresses = q.addresses;
      servers = q.servers;
      names = q.names;
      redirects = q.redirects;
      solicited = q.solicited;
      router = q.router;
      stream = q.stream;
      last = λ start. q.last start ∙ sym (now start);
    }
