use Rattle.nd_chronicle.proofs.Carrying.{same_adds}
use Rattle.nd_chronicle.proofs.laws.a_send_is_a_carry.Goals as goal

pub returns : goal.returns
returns c = λ start events c' d e now source destination next_header payload bytes runs past none. same_adds start events c' d bytes runs past now source destination next_header payload none e
