use Rattle.std.proofs.Common.{◌≡◌, Contains, ap, arith, subst, sym}
use Rattle.nd_session.specs.Slots.{Slots}
use Rattle.nd_session.proofs.paths.Paths.forget_slots.Goals as goal

pub returns-else-self-lt-LAST_VERSION-clause-forgotten : goal.returns-else-self-lt-LAST_VERSION-clause-forgotten
returns-else-self-lt-LAST_VERSION-clause-forgotten c = λ path there is.
    let older = c.self.invariant path (subst (λ (s : Slots). Contains s.paths path) (sym c.self.view_is) there) in
    let same : c.args.self.now.version ≡ c.self.inside.version = ap (λ (s : Slots). s.version) (sym c.self.view_is) in
    omega (arith, older.1, is, same, c.if-self-lt-LAST_VERSION.false)
