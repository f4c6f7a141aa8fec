use Rattle.nd_neighbour.proofs.Leases.{use_changes_nothing}
use Rattle.nd_neighbour.proofs.laws.leased_use_changes_nothing.Goals as goal

pub returns : goal.returns
returns c = use_changes_nothing
