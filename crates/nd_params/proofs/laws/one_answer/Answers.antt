use Rattle.nd_params.proofs.Unique.{one_values}
use Rattle.nd_params.proofs.laws.one_answer.Goals as goal

pub returns : goal.returns
returns c = one_values
