use Rattle.nd_link_log.proofs.Texts.{grows}
use Rattle.nd_link_log.proofs.laws.text_only_grows.Goals as goal

pub returns : goal.returns
returns c = λ newer log. grows newer log
