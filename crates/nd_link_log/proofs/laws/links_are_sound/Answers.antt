use Rattle.nd_link_log.proofs.Sound.{sound}
use Rattle.nd_link_log.proofs.laws.links_are_sound.Goals as goal

pub returns : goal.returns
returns c = λ limits events log bytes sends runs. sound limits events log runs (bytes, sends)
