use Rattle.std.proofs.Common.{sym}
use Rattle.nd_nexthop.specs.NextHopKept.{hop_of}
use Rattle.nd_steps.specs.DestinationCache.{own_in}
use Rattle.nd_node.proofs.NextHops.{hop_of_host, hop_of_router}
use Rattle.nd_node.proofs.node.Node.next_hop_to.Goals as goal

pub returns-in-Host-clause-next : goal.returns-in-Host-clause-next
returns-in-Host-clause-next g c = λ start c' s le.
    hop_of_host start c.args.self.now.role s.role c.in-Host.is c' c.args.now c.args.destination (hop_of c.determined_hop.result) (c.determined_hop.ensures.next start c' s le)

pub returns-in-Router-clause-next : goal.returns-in-Router-clause-next
returns-in-Router-clause-next g c = λ start c' s le.
    hop_of_router g.R.Rng.stream start c.args.self.now c' c.args.now s c.in-Router.is c.args.destination c.counts-is_own.result (hop_of c.next_hop.result) c.counts-is_own.ensures.value c.next_hop.ensures.by_history

pub returns-in-Host-clause-value : goal.returns-in-Host-clause-value
returns-in-Host-clause-value g c = rw c.in-Host.is c.determined_hop.ensures.value

pub returns-in-Router-clause-value : goal.returns-in-Router-clause-value
returns-in-Router-clause-value g c = rw c.in-Router.is (c.next_hop.ensures.value (own_in c.args.self.now.addresses.addresses) (sym c.counts-is_own.ensures.value))
