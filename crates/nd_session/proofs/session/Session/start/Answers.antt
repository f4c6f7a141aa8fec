use Rattle.nd_node.specs.Node.{starting}
use Rattle.nd_random.specs.Source.{stream_of_source}
use Rattle.nd_session.proofs.Remembered.{remembers_nothing}
use Rattle.nd_session.proofs.session.Session.start.Goals as goal

pub invariant_of-result : goal.invariant_of-result
invariant_of-result c = record { remembered = remembers_nothing c.in_ok-paths.paths c.with_policies-node.result c.in_ok-paths.ensures }

pub returns-in_ok-room-in-Ok-clause-stands : goal.returns-in_ok-room-in-Ok-clause-stands
returns-in_ok-room-in-Ok-clause-stands c =
    c.with_policies-node.ensures.stands (starting c.args.start c.args.role c.args.mac c.args.transmits c.args.limits (stream_of_source c.args.source)) c.in-Ok.ensures.stands
