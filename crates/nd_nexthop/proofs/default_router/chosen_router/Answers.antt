use Rattle.std.proofs.Common.{◌∙◌, ap, Some}
use Rattle.std.specs.Prelude.{option_map}
use Rattle.nd_nexthop.specs.DefaultRouterKept.{router_of}
use Rattle.nd_nexthop.proofs.Routers.{next_at}
use Rattle.nd_nexthop.proofs.default_router.chosen_router.Goals as goal

pub loop-i-preserved : goal.loop-i-preserved
loop-i-preserved g c =
    next_at (option_map router_of c.loop-i.chosen) _ (router_of c.router_at.result) (g.V.View.candidates c.args.view.now) c.loop-i.i c.router_at.ensures (ap Some c.better.ensures) ∙ c.loop-i.invariant
