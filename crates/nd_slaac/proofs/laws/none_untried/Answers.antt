use Rattle.nd_slaac.proofs.Histories.{held, valid_by}
use Rattle.nd_slaac.proofs.laws.none_untried.Goals as goal

pub returns-clause-held : goal.returns-clause-held
returns-clause-held c = held

pub returns-clause-valid : goal.returns-clause-valid
returns-clause-valid c = valid_by
