use Rattle.nd_chronicle.specs.Histories.{neighbour_history}
use Rattle.nd_node.proofs.node.Node.neighbours.Goals as goal

pub returns : goal.returns
returns g c = λ start c' s. c.rows.ensures.lists (neighbour_history c') s.neighbours
