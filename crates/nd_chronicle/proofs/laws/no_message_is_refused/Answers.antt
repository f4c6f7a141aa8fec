use Rattle.nd_chronicle.proofs.Refusals.{heard_unrefused}
use Rattle.nd_chronicle.proofs.laws.no_message_is_refused.Goals as goal

pub returns : goal.returns
returns c = λ start now frame source destination message c' d parts h. heard_unrefused start now source destination message c' d h.0 parts h.2
