use Rattle.nd_existence.proofs.Endless.{no_end}
use Rattle.nd_existence.proofs.node.no_end_without_an_interval.Goals as goal

pub returns : goal.returns
returns c = λ start x d m end s least greatest by date le w. no_end start x d m end s least greatest by date le w
