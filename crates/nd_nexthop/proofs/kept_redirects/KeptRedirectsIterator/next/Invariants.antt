use Rattle.std.proofs.Common.{◌≡◌, length}
use Rattle.nd_nexthop.specs.Left.{redirects_left}
use Rattle.nd_nexthop.proofs.kept_redirects.KeptRedirectsIterator.next.Given as goal

-- what is left is the same at each step
abbrev pub invariant-loop-destination : goal.invariant-loop-destination
invariant-loop-destination l = redirects_left l.self ≡ redirects_left l.initial.self

abbrev pub decreases-loop-destination : goal.decreases-loop-destination
decreases-loop-destination l = length l.self.rest
