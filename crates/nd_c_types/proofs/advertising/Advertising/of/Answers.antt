use Rattle.std.proofs.Common.{arith}
use Rattle.std.proofs.lemmas.Grind.{common_steps}
use Rattle.nd_c_types.proofs.Back.{config_back_at}
use Rattle.nd_c_types.proofs.advertising.Advertising.of.Goals as goal

pub returns-clause-value : goal.returns-clause-value
returns-clause-value c = grind (arith, common_steps)

pub returns-clause-back : goal.returns-clause-back
returns-clause-back c = config_back_at _ _ (returns-clause-value c) c.fields-fields.ensures.right
