use Rattle.nd_node.proofs.Beginning.{begins_with}
use Rattle.nd_node.proofs.node.Node.with_policies.Goals as goal

pub returns-clause-stands : goal.returns-clause-stands
returns-clause-stands g c = λ start s. begins_with g.R.Rng.stream start c.args.self c.args.policies s
