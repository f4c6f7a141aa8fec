use Rattle.nd_random.specs.Source.{stream_of_source}
use Rattle.nd_node.proofs.Walks.{settle_end, still}
use Rattle.nd_session.proofs.session.Session.settle.Goals as goal

pub returns-then-next-now-clause-passes : goal.returns-then-next-now-clause-passes
returns-then-next-now-clause-passes c =
    settle_end stream_of_source c.idle_time_passes.ensures _ _ _ _ c.args.now _ (still stream_of_source c.args.self.now.node c.args.self.now.reports.items c.args.now) c.next_due-next.ensures.due c.if-next-now.true
