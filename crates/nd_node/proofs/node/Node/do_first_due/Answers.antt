use Rattle.std.proofs.Common.{ℕ, ◌∷◌, Option, Some, None, ap, refl, ◌∙◌, subst}
use Rattle.std.specs.Prelude.{◌≢◌}
use Rattle.rand_core.specs.Stream.{Stream, next_u32}
use Rattle.nd_addr.specs.Number.{number_of}
use Rattle.nd_neighbour.specs.View as neighbours
use Rattle.nd_slaac.specs.View as addresses
use Rattle.nd_slaac.specs.Due.{FirstDue}
use Rattle.nd_slaac.specs.PrefixOption.{link_local_of}
use Rattle.nd_params.specs.History.{Drew}
use Rattle.nd_params.specs.ParamsKept as parameters
use Rattle.nd_chronicle.specs.Generator.{reachable_drawn}
use Rattle.nd_chronicle.specs.Histories.{router_history, address_history, neighbour_history}
use Rattle.nd_steps.specs.RouterTables.{NotesAddress}
use Rattle.nd_steps.specs.SolicitRouters.{after_address}
use Rattle.nd_steps.proofs.RouterSide.{advertisement_date}
use Rattle.nd_node.proofs.Leaving.{neighbours_leave}
use Rattle.nd_node.proofs.Recalling.{forgot_redirects, room_kept}
use Rattle.nd_node.proofs.Turns.{address_fell, neighbour_fell, redraw_is_due, redrawn, router_advertised, router_ended, routers_solicited, solicitation_date}
use Rattle.nd_node.proofs.node.Node.do_first_due.Goals as goal

pub returns-in-Some-clause-stands : goal.returns-in-Some-clause-stands
returns-in-Some-clause-stands g c = λ start c' s.
    router_ended g.R.Rng.stream start c.args.self.now _ c' c.args.now s c.requires.due
    (record { role = refl; mac = refl; chosen = refl; policies = refl; prefixes = refl; dns = refl; address_mac = refl; address_transmits = refl; address_limit = refl; neighbour_limit = refl; waiting = refl; router_limit = c.in-Some.ensures.limit; room = record { redirects = c.target_gone.ensures.limit; destinations = c.target_gone.ensures.destinations }; last = refl })
    (number_of c.in-Some.addr.0) c.in-Some.ensures.gains c.in-Some.ensures.later (c.target_gone.ensures.stands c.args.now) c.target_gone.ensures.memory refl refl refl refl refl refl

pub returns-in-Some-turn-clause-due : goal.returns-in-Some-turn-clause-due
returns-in-Some-turn-clause-due g c = λ start c' s. (
  c.in_default.ensures.due (router_history c') s.routers,
  subst (λ (n : ℕ). FirstDue n (address_history c') c.args.now (Some (addresses.falls_of c.in-Some-turn.due))) s.address_transmits (c.in-Some-turn.ensures.due (address_history c') s.addresses),
)

pub returns-in-Some-turn-clause-stands : goal.returns-in-Some-turn-clause-stands
returns-in-Some-turn-clause-stands g c = λ start c' s.
    address_fell g.R.Rng.stream start c.args.self.now _ c' c.args.now s c.requires.due
    (record { role = refl; mac = refl; chosen = refl; policies = refl; prefixes = refl; dns = refl; address_mac = c.in-Some-turn.ensures.mac; address_transmits = c.in-Some-turn.ensures.transmits; address_limit = c.in-Some-turn.ensures.limit; neighbour_limit = refl; waiting = refl; router_limit = c.in_default.ensures.limit; room = room_kept _ _ (forgot_redirects _ _ _ c.forget_if_ended.ensures); last = refl })
    (addresses.falls_of c.in-Some-turn.due) c.in_default.ensures.same c.forget_if_ended.ensures c.in-Some-turn.ensures.gains c.in-Some-turn.ensures.later refl refl
    (c.note_address.ensures ∙ ap (λ (k : ℕ). after_address k c.args.now (addresses.falls_of c.in-Some-turn.due) c.args.self.now.solicitations)
    (c.link_local-own.ensures ∙ ap link_local_of (c.in-Some-turn.ensures.mac ∙ s.address_mac)))
    (subst (λ (k : ℕ). NotesAddress k c.args.now (addresses.falls_of c.in-Some-turn.due) c.args.self.now.router c.note_address-in-Some-turn.new.self)
    (c.link_local-own.ensures ∙ ap link_local_of (c.in-Some-turn.ensures.mac ∙ s.address_mac)) c.note_address-in-Some-turn.ensures)
    refl

pub returns-in-Some-turn-2-clause-stands : goal.returns-in-Some-turn-2-clause-stands
returns-in-Some-turn-2-clause-stands g c = λ start c' s.
    neighbour_fell g.R.Rng.stream start c.args.self.now _ c' c.args.now s c.requires.due
    (record { role = refl; mac = refl; chosen = refl; policies = refl; prefixes = refl; dns = refl; address_mac = c.in_default-turn.ensures.mac; address_transmits = c.in_default-turn.ensures.transmits; address_limit = c.in_default-turn.ensures.limit; neighbour_limit = c.in-Some-turn-2.ensures.limit; waiting = c.in-Some-turn-2.ensures.waiting; router_limit = c.note_failure.ensures.limit ∙ c.in_default.ensures.limit; room = c.note_failure.ensures.limits; last = refl })
    (neighbours.falls_of c.in-Some-turn-2.due) _ _ c.in_default.ensures.same refl (c.note_failure.ensures.notes c.args.now) c.note_failure.ensures.entries c.note_failure.ensures.remembers c.in_default-turn.ensures.same c.in-Some-turn-2.ensures.gains c.in-Some-turn-2.ensures.later refl refl refl refl

pub returns-then-turn-clause-stands : goal.returns-then-turn-clause-stands
returns-then-turn-clause-stands g c = λ start c' s.
    routers_solicited g.R.Rng.stream start c.args.self.now _ c' c.args.now s c.requires.due
    (record { role = refl; mac = refl; chosen = refl; policies = refl; prefixes = refl; dns = refl; address_mac = c.in_default-turn.ensures.mac; address_transmits = c.in_default-turn.ensures.transmits; address_limit = c.in_default-turn.ensures.limit; neighbour_limit = c.in_default-turn-2.ensures.limit; waiting = c.in_default-turn-2.ensures.waiting; router_limit = c.in_default.ensures.limit; room = record { redirects = refl; destinations = refl }; last = refl })
    (c.if-turn.ensures.due refl) (c.if-turn.ensures.sent refl) c.in_default.ensures.same refl c.in_default-turn.ensures.same c.in_default-turn-2.ensures.same refl refl refl

pub returns-then-turn-2-clause-stands : goal.returns-then-turn-2-clause-stands
returns-then-turn-2-clause-stands g c = λ start c' s.
    router_advertised g.R.Rng.stream start c.args.self.now _ c' c.args.now s c.requires.due
    (record { role = refl; mac = refl; chosen = refl; policies = refl; prefixes = refl; dns = refl; address_mac = c.in_default-turn.ensures.mac; address_transmits = c.in_default-turn.ensures.transmits; address_limit = c.in_default-turn.ensures.limit; neighbour_limit = c.in_default-turn-2.ensures.limit; waiting = c.in_default-turn-2.ensures.waiting; router_limit = c.in_default.ensures.limit; room = record { redirects = refl; destinations = refl }; last = refl })
    (c.if-turn-2.ensures.due refl) c.in_default.ensures.same refl c.in_default-turn.ensures.same c.in_default-turn-2.ensures.same refl (c.if-turn.ensures.same refl) (c.if-turn-2.ensures.sent refl)

pub returns-clause-due : goal.returns-clause-due
returns-clause-due g c = λ start c' s. (
  c.in_default.ensures.due (router_history c') s.routers,
  subst (λ (n : ℕ). FirstDue n (address_history c') c.args.now None) s.address_transmits (c.in_default-turn.ensures.due (address_history c') s.addresses),
  c.in_default-turn-2.ensures.due (neighbour_history c') s.neighbours,
  subst (λ (o : Option ℕ). o ≢ Some c.args.now) (solicitation_date g.R.Rng.stream start c.args.self.now c' s) (c.if-turn.ensures.none refl),
  subst (λ (o : Option ℕ). o ≢ Some c.args.now) (advertisement_date start c.args.self.now.role c.args.self.now.router c' s.role s.router) (c.if-turn-2.ensures.none refl),
  redraw_is_due g.R.Rng.stream start c.args.self.now c' c.args.now s c.requires.due c.in_default.ensures.none c.in_default-turn.ensures.none c.in_default-turn-2.ensures.none (c.if-turn.ensures.none refl)
      (c.if-turn-2.ensures.none refl),
)

pub returns-clause-stands : goal.returns-clause-stands
returns-clause-stands g c = λ start c' s.
    let stream = g.R.Rng.stream in
    let left = c.if-turn-2.ensures.left refl in
    redrawn stream start c.args.self.now _ c' c.args.now s c.requires.due
    (record { role = refl; mac = refl; chosen = refl; policies = refl; prefixes = refl; dns = refl; address_mac = c.in_default-turn.ensures.mac; address_transmits = c.in_default-turn.ensures.transmits; address_limit = c.in_default-turn.ensures.limit; neighbour_limit = c.in_default-turn-2.ensures.limit; waiting = c.in_default-turn-2.ensures.waiting; router_limit = c.in_default.ensures.limit; room = record { redirects = refl; destinations = refl }; last = refl })
    c.in_default.ensures.same refl c.in_default-turn.ensures.same c.in_default-turn-2.ensures.same (c.if-turn.ensures.same refl) (c.if-turn-2.ensures.same refl)
    (subst (λ (words : Stream). parameters.GainsRows c.args.self.now.params c.redraw_reachable_time.new.params (λ history. Drew c.args.now (reachable_drawn c.args.self.now.params.base_reachable_time words) ∷ history)) left c.redraw_reachable_time.ensures.stands)
    c.redraw_reachable_time.ensures.drawn_at (c.redraw_reachable_time.ensures.left ∙ ap (λ (words : Stream). (next_u32 words).1) left)

pub returns-in-Some-turn-2-clause-leaves : goal.returns-in-Some-turn-2-clause-leaves
returns-in-Some-turn-2-clause-leaves g c = λ stays.
    let same = c.note_failure.ensures.same stays in
    rw (same.0, same.1, c.in_default.ensures.same, c.in_default-turn.ensures.same) (neighbours_leave c.args.self.now _ c.args.self.now.last (c.in-Some-turn-2.ensures.leaves stays))
