use Rattle.nd_link_log.proofs.Reports.{items_of_node}
use Rattle.nd_link_log.proofs.laws.reports_are_the_nodes.Goals as goal

pub returns : goal.returns
returns c = λ log node. items_of_node node log
