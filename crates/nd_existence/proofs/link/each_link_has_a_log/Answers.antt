use Rattle.std.proofs.Common.{[]}
use Rattle.std.proofs.lemmas.List.Elements.{recursion_from_All}
use Rattle.nd_existence.proofs.LinkRunning.{run}
use Rattle.nd_existence.proofs.LinkWalking.{fine_nothing}
use Rattle.nd_existence.proofs.link.each_link_has_a_log.Goals as goal

pub returns : goal.returns
returns c = λ limits events fits. run limits events [] (recursion_from_All _ events fits) fine_nothing
