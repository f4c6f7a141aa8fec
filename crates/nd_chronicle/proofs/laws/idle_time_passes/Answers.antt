use Rattle.nd_chronicle.proofs.Idle.{idle_passes}
use Rattle.nd_chronicle.proofs.laws.idle_time_passes.Goals as goal

pub returns : goal.returns
returns c = λ start c' d next end idle moment le le' w. idle_passes start c' d next end idle moment le le' w
