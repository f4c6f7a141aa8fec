use Rattle.nd_nexthop.specs.NextHopKept.{hop_of}
use Rattle.nd_chronicle.specs.Histories.{redirect_history}
use Rattle.nd_node.proofs.NextHops.{next_hop_is}
use Rattle.nd_node.proofs.node.Node.determined_hop.Goals as goal

pub returns-clause-next : goal.returns-clause-next
returns-clause-next g c = λ start c' s le.
    next_hop_is g.R.Rng.stream start c.args.self.now c' c.args.now s le c.requires.settled c.args.destination (hop_of c.determine.result) (c.determine.ensures.by_history (redirect_history c') s.redirects)

pub returns-clause-value : goal.returns-clause-value
returns-clause-value g c = c.determine.ensures.value
