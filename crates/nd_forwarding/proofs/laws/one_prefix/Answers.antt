use Rattle.nd_forwarding.proofs.Looks.{one_of_length}
use Rattle.nd_forwarding.proofs.laws.one_prefix.Goals as goal

pub returns : goal.returns
returns c = one_of_length
