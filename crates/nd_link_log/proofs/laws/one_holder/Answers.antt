use Rattle.nd_link_log.proofs.Timely.{one_holder}
use Rattle.nd_link_log.proofs.Sound.{sound}
use Rattle.nd_link_log.proofs.laws.one_holder.Goals as goal

pub returns-clause-where_sound : goal.returns-clause-where_sound
returns-clause-where_sound c = λ log within sound timely. one_holder log sound within timely

pub returns-clause-on_links : goal.returns-clause-on_links
returns-clause-on_links c = λ limits events log within bytes sends runs timely. one_holder log (sound limits events log runs (bytes, sends)) within timely
