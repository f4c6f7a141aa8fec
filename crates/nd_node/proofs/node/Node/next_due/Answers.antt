use Rattle.nd_chronicle.specs.Histories.{router_history, address_history, neighbour_history}
use Rattle.nd_node.proofs.Turns.{next_due_at}
use Rattle.nd_node.proofs.node.Node.next_due.Goals as goal

pub returns-clause-due : goal.returns-clause-due
returns-clause-due g c = λ start c' s.
    next_due_at g.R.Rng.stream start c.args.self.now c' s _ _ _ c.next_due-5.ensures.value c.next_due-4.ensures.value c.next_due-3.ensures.value (c.next_due-5.ensures.due (router_history c') s.routers) (c.next_due-4.ensures.due (address_history c') s.addresses) (c.next_due-3.ensures.due (neighbour_history c') s.neighbours) _ (cc)
