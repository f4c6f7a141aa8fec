use Rattle.nd_link_log.proofs.Growth.{newer_of, runs_past}
use Rattle.nd_link_log.proofs.laws.log_only_grows.Goals as goal

pub returns : goal.returns
returns c = λ limits events log d h. newer_of log d (runs_past limits events log d h)
