use Rattle.std.proofs.Common.{[]}
use Rattle.nd_link_log.proofs.Unique.{one_run}
use Rattle.nd_link_log.proofs.laws.one_log.Goals as goal

pub returns : goal.returns
returns c = λ limits events c' d h k. one_run limits events [] c' d h k
