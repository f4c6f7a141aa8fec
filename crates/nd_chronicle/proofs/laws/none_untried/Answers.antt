use Rattle.nd_chronicle.proofs.Tried.{untried_none}
use Rattle.nd_chronicle.proofs.laws.none_untried.Goals as goal

pub returns : goal.returns
returns c = λ start events c' key h assigned. untried_none start events c' key h assigned
