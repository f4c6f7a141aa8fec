use Rattle.std.proofs.Common.{◌∙◌, ap}
use Rattle.nd_nexthop.specs.NextHop.{hop}
use Rattle.nd_nexthop.specs.NextHopKept.{hop_of}
use Rattle.nd_nexthop.proofs.Recalled.{by_history_of}
use Rattle.nd_nexthop.proofs.choice.Choice.determine.Goals as goal

pub returns-clause-by_history : goal.returns-clause-by_history
returns-clause-by_history g c =
    by_history_of (g.V.View.own c.args.view.now) (g.V.View.linked c.args.view.now) (g.V.View.candidates c.args.view.now) c.args.self.now c.args.destination (hop_of c.determine.result)
    (c.determine.ensures ∙ ap (λ k. hop (g.V.View.own c.args.view.now) (g.V.View.linked c.args.view.now) (g.V.View.candidates c.args.view.now) k c.args.destination.0) c.target.ensures)
