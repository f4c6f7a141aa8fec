use Rattle.std.proofs.Common.{[], ◌∷◌}
use Rattle.ndpctl_run.proofs.RouteWords.{one_spelled, route_spelled, spelled_at}
use Rattle.ndpctl_run.proofs.route.read_route.Goals as goal

pub returns-in_err-prefix-2-clause-only : goal.returns-in_err-prefix-2-clause-only
returns-in_err-prefix-2-clause-only c = λ prefix route is.
    let spelled = spelled_at c.args.text.now _ prefix route c.in_ok-prefix.ensures.found is in
    let none = c.in_err-prefix-2.ensures.only prefix spelled.0 in
    cc

pub returns-clause-only : goal.returns-clause-only
returns-clause-only c = λ prefix route is.
    let spelled = spelled_at c.args.text.now _ prefix route c.in_ok-prefix.ensures.found is in
    one_spelled (c.in_ok-prefix.prefix.now ∷ c.in_ok-prefix.way.now ∷ []) c.in_ok-prefix-2.prefix prefix c.in_ok-route.route route (c.in_ok-prefix-2.ensures.found, c.in_ok-route.ensures.found) spelled

pub returns-clause-found : goal.returns-clause-found
returns-clause-found c =
    route_spelled c.args.text.now (c.in_ok-prefix.prefix.now ∷ c.in_ok-prefix.way.now ∷ []) c.in_ok-prefix-2.prefix c.in_ok-route.route c.in_ok-prefix.ensures.found (c.in_ok-prefix-2.ensures.found, c.in_ok-route.ensures.found)
