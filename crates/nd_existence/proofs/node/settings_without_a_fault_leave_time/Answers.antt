use Rattle.nd_existence.proofs.Timed.{faultless}
use Rattle.nd_existence.proofs.node.settings_without_a_fault_leave_time.Goals as goal

pub returns : goal.returns
returns c = λ s none. faultless s none
