use Rattle.std.proofs.Common.{◌≡◌}
use Rattle.nd_forwarding.specs.Routes.{route_to}
use Rattle.nd_forwarding.proofs.Longest.{found_with}
use Rattle.nd_forwarding.proofs.routes.Routes.look.Given as goal

-- what is found in the end, of what was found so far and the rest, is the route
abbrev pub invariant-loop-prefix : goal.invariant-loop-prefix
invariant-loop-prefix g l = found_with l.destination.0 l.longest l.prefix-iterator ≡ route_to l.fn.destination.0 l.fn.self.entries
