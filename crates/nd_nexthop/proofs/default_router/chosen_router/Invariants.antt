use Rattle.std.proofs.Common.{◌≡◌, drop}
use Rattle.std.specs.Prelude.{option_map}
use Rattle.nd_nexthop.specs.DefaultRouter.{chosen_router}
use Rattle.nd_nexthop.specs.DefaultRouterKept.{router_of}
use Rattle.nd_nexthop.proofs.Routers.{chosen_with}
use Rattle.nd_nexthop.proofs.default_router.chosen_router.Given as goal

-- the one of the rest, with the one that was found so far, is the one of all
abbrev pub invariant-loop-i : goal.invariant-loop-i
invariant-loop-i g l = chosen_with (option_map router_of l.chosen) (drop l.i (g.V.View.candidates l.view)) ≡ chosen_router (g.V.View.candidates l.view)
