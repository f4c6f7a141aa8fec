use Rattle.nd_link_log.proofs.NodeHistories.{lived_by}
use Rattle.nd_link_log.proofs.laws.nodes_live_the_links_events.Goals as goal

pub returns : goal.returns
returns c = λ limits events log node start h there. lived_by limits node events log start h there
