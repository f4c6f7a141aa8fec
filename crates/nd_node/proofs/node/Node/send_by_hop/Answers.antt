use Rattle.nd_node.proofs.node.Node.send_by_hop.Goals as goal

pub returns-in-Via-clause-refused : goal.returns-in-Via-clause-refused
returns-in-Via-clause-refused g c = rw c.in-Via.is (λ start c' s adds place. c.send_to_neighbour.ensures.refused _ start c' s adds place)
