use Rattle.nd_neighbour.proofs.Unique.{full_by_history}
use Rattle.nd_neighbour.proofs.laws.full_by_history.Goals as goal

pub returns : goal.returns
returns c = full_by_history
