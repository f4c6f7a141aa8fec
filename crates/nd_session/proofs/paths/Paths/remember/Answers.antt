use Rattle.std.proofs.Common.{◌<◌, ◌≤◌, ◌∙◌, Contains, ⊎_elim, ap, arith, inl, inr, subst, sym}
use Rattle.nd_session.specs.Slots.{Slots}
use Rattle.nd_session.proofs.Slots.{there_or_written}
use Rattle.nd_session.proofs.paths.Paths.remember.Goals as goal

pub invariant_of-self : goal.invariant_of-self
invariant_of-self c = λ path there.
    ⊎_elim (λ was. c.self.invariant path was) (λ is. subst (λ p. (p.version ≤ c.self.inside.version) × (p.version < 18446744073709551615)) (sym is) (omega arith, omega (arith, c.if-self-lt-LAST_VERSION.true)))
    (there_or_written c.self.inside.slots.items c.free_slot-slot.result _ path (omega (arith, c.if-slot-len.true, c.len.ensures)) there)

pub returns-then-self-lt-LAST_VERSION-clause-paths : goal.returns-then-self-lt-LAST_VERSION-clause-paths
returns-then-self-lt-LAST_VERSION-clause-paths c = λ path there.
    ⊎_elim (λ was. inl (subst (λ (s : Slots). Contains s.paths path) c.self.view_is was)) (λ is. inr (is ∙ ap (λ (s : Slots). record c.args.path { version = s.version }) c.self.view_is))
    (there_or_written c.self.inside.slots.items c.free_slot-slot.result _ path (omega (arith, c.if-slot-len.true, c.len.ensures)) there)
