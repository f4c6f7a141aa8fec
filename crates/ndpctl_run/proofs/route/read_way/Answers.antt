use Rattle.std.proofs.Common.{rules, ◌≡◌, Some, ap}
use Rattle.std.specs.Prelude.{codes}
use Rattle.nd_forwarding.specs.declared.route.Route.{Route}
use Rattle.nd_forwarding.specs.declared.route.Route.TheVariants.{Direct}
use Rattle.ndpctl_run.proofs.RouteWords.{one_way}
use Rattle.ndpctl_run.proofs.route.read_way.Goals as goal

pub returns-then-eq-clause-only : goal.returns-then-eq-clause-only
returns-then-eq-clause-only c = λ route way.
    let direct : c.args.word.now ≡ codes "direct" = search rules in
    ap (λ (r : Route). Some r) (one_way c.args.word.now Direct route direct way)
