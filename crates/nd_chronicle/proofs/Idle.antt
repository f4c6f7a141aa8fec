-- Time in which nothing is due.
use Rattle.std.proofs.Common.{◌≡◌, ℕ, zero, suc, ◌+◌, ◌-◌, ◌<◌, ◌≤◌, None, subst, arith}
use Rattle.nd_chronicle.specs.Start.{Start}
use Rattle.nd_chronicle.specs.Happening.{Chronicle}
use Rattle.nd_chronicle.specs.Due.{Due}
use Rattle.nd_chronicle.specs.History.{Walk, passes}

module _ (start : Start) (c d : Chronicle) (next end : ℕ) (idle : (moment : ℕ) → moment < next → Due start c moment None) where
  passed : next ≤ end + 1 → Walk start c next end d → (left moment : ℕ) → moment + left ≡ next → Walk start c moment end d
  passed le w zero moment e = subst (λ (m : ℕ). Walk start c m end d) (omega arith) w
  passed le w (suc left) moment e = passes (omega arith) (idle moment (omega arith)) (passed le w left (suc moment) (omega arith))

  pub idle_passes : (moment : ℕ) → moment ≤ next → next ≤ end + 1 → Walk start c next end d → Walk start c moment end d
  idle_passes moment le le' w = passed le' w (next - moment) moment (omega (arith, le))
