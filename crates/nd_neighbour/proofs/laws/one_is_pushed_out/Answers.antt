use Rattle.nd_neighbour.proofs.Pushing.{pushed_out}
use Rattle.nd_neighbour.proofs.laws.one_is_pushed_out.Goals as goal

pub returns : goal.returns
returns c = pushed_out
