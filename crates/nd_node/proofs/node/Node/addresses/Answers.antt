use Rattle.nd_chronicle.specs.Histories.{address_history}
use Rattle.nd_node.proofs.node.Node.addresses.Goals as goal

pub returns : goal.returns
returns g c = λ start c' s. c.rows.ensures.lists (address_history c') s.addresses
