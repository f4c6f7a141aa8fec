use Rattle.std.proofs.Common.{◌≡◌, length}
use Rattle.nd_routers.specs.Left.{routers_left}
use Rattle.nd_routers.proofs.shown.DefaultRoutersIterator.next.Given as goal

-- what is left is the same at each step
abbrev pub invariant-loop-self : goal.invariant-loop-self
invariant-loop-self l = (routers_left l.self ≡ routers_left l.initial.self) × (l.self.moment ≡ l.initial.self.moment)

abbrev pub decreases-loop-self : goal.decreases-loop-self
decreases-loop-self l = length l.self.entries.now
