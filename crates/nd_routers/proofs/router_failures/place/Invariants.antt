use Rattle.std.proofs.Common.{◌≡◌, ◌+◌, drop}
use Rattle.std.specs.Option.{option_map}
use Rattle.nd_addr.specs.Number.{number_of}
use Rattle.nd_routers.specs.RouterFailures.{place_among}
use Rattle.nd_routers.proofs.router_failures.place.Given as goal

-- the place among the rest, behind those so far, is the place among all
abbrev pub invariant-loop-router : goal.invariant-loop-router
invariant-loop-router l =
    (option_map (λ i. i + l.place) (place_among (number_of l.addr.0) (drop l.router-index l.failed)) ≡ place_among (number_of l.addr.0) l.failed) × (l.place ≡ l.router-index)
