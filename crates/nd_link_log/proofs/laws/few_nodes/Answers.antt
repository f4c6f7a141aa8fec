use Rattle.std.proofs.Common.{[], arith}
use Rattle.nd_link_log.proofs.FewNodes.{few_runs}
use Rattle.nd_link_log.proofs.laws.few_nodes.Goals as goal

pub returns : goal.returns
returns c = λ limits events log h. few_runs limits events [] log (omega arith) h
