-- What the failure of a neighbour that gave way adds to a chronicle.
use Rattle.std.proofs.Common.{◌≡◌, ℕ, List, ◌∷◌, ◌++◌, Option, Some, None, append-nil, append_assoc, refl, sym, ◌∙◌}
use Rattle.std.specs.List.{flat_map}
use Rattle.nd_neighbour.specs.History.{Row, story, Forgot, Failed}
use Rattle.nd_neighbour.specs.Story.{waits_of}
use Rattle.nd_chronicle.specs.Start.{Start}
use Rattle.nd_chronicle.specs.Happening.{Chronicle, Neighbour, Unreachable, last_moment}
use Rattle.nd_chronicle.specs.Histories.{parameter_history, neighbour_history, router_history, prefix_history, address_history, server_history, name_history, redirect_history}
use Rattle.nd_chronicle.specs.Generator.{stream_left}
use Rattle.nd_chronicle.specs.Due.{solicited_routers}
use Rattle.nd_chronicle.specs.Message.{failing_for}
use Rattle.nd_chronicle.specs.Told.{items_at, items}
use Rattle.nd_steps.specs.GivingWay.{told_of_way, with_router_gone, with_target_gone}
use Rattle.nd_steps.specs.Outputs.{at_moment}
use Rattle.nd_steps.specs.RouterTables.{router_side}
use Rattle.nd_steps.proofs.Quiet.{losing_is_quiet}
use Rattle.nd_steps.proofs.Telling.{lost_at, lost_items}

-- the neighbours with its end
abbrev pub with_failed : ℕ → Option ℕ → List Row → List Row
with_failed at None history = history
with_failed at (Some gone) history = (at, gone, Forgot Failed) ∷ history

-- it ends a neighbour, and what depends on it as a router and as a target, and is reported; it concerns nothing else
pub record Fails (at : ℕ) (gone : Option ℕ) (history : List Row) (c d : Chronicle) : Type 0 where
  pub parameters : parameter_history d ≡ parameter_history c
  pub neighbours : neighbour_history d ≡ with_failed at gone (neighbour_history c)
  pub routers : router_history d ≡ with_router_gone at gone (router_history c)
  pub prefixes : prefix_history d ≡ prefix_history c
  pub addresses : address_history d ≡ address_history c
  pub servers : server_history d ≡ server_history c
  pub names : name_history d ≡ name_history c
  pub redirects : redirect_history d ≡ with_target_gone at gone (redirect_history c)
  pub solicited : solicited_routers d ≡ solicited_routers c
  pub router : (start : Start) → router_side start d ≡ router_side start c
  pub stream : (start : Start) → stream_left start d ≡ stream_left start c
  pub last : (start : ℕ) → last_moment start d ≡ at
  pub told : items d ≡ items c ++ flat_map items_at (at_moment at (told_of_way gone history))

pub fails : (at : ℕ) (gone : Option ℕ) (history : List Row) (c : Chronicle) → ((start : ℕ) → last_moment start c ≡ at) → Fails at gone history c (failing_for at gone history c)
fails at None history c now = record {
  parameters = refl;
  neighbours = refl;
  routers = refl;
  prefixes = refl;
  addresses = refl;
  servers = refl;
  names = refl;
  redirects = refl;
  solicited = refl;
  router = λ start. refl;
  stream = λ start. refl;
  last = now;
  told = sym (append-nil (items c));
}
fails at (Some gone) history c now =
    let row : Chronicle = (at, Neighbour gone (Forgot Failed)) ∷ c in
    let packets : List (List ℕ) = waits_of (story gone history) in
    let q = losing_is_quiet at Unreachable packets row (λ start. refl) in
    record {
      parameters = q.parameters;
      neighbours = q.neighbours;
      routers = q.routers;
      prefixes = q.prefixes;
      addresses = q.addresses;
      servers = q.servers;
      names = q.names;
      redirects = q.redirects;
      solicited = q.solicited;
      router = q.router;
      stream = q.stream;
      last = λ start. q.last start;
      told = lost_items at Unreachable packets row ∙ append_assoc (items c) (items_at (at, Neighbour gone (Forgot Failed))) (flat_map items_at (lost_at at Unreachable packets));
    }
