use Rattle.std.proofs.Common.{◌≡◌, length}
use Rattle.nd_table.specs.Left.{standing_left}
use Rattle.nd_table.proofs.standing.StandingIterator.next.Given as goal

-- what is left is the same at each step
abbrev pub invariant-loop-self : goal.invariant-loop-self
invariant-loop-self g l = (standing_left l.self ≡ standing_left l.initial.self) × (l.self.moment ≡ l.initial.self.moment)

abbrev pub decreases-loop-self : goal.decreases-loop-self
decreases-loop-self g l = length l.self.rest.now
