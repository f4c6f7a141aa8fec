use Rattle.nd_link_log.proofs.Holding.{one_holder}
use Rattle.nd_link_log.proofs.Sound.{sound}
use Rattle.nd_link_log.proofs.Timely.{loses_little}
use Rattle.nd_link_log.proofs.laws.one_holder_where_frames_are_lost.Goals as goal

pub returns-clause-where_sound : goal.returns-clause-where_sound
returns-clause-where_sound c = λ log within sound little. one_holder log sound within little

pub returns-clause-on_links : goal.returns-clause-on_links
returns-clause-on_links c = λ limits events log within bytes sends runs little. one_holder log (sound limits events log runs (bytes, sends)) within little

pub returns-clause-timely : goal.returns-clause-timely
returns-clause-timely c = λ log within sound timely. loses_little log sound within timely
