use Rattle.ndpctl_run.proofs.Lines.{one_line}
use Rattle.ndpctl_run.proofs.laws.one_reading.Goals as goal

pub returns : goal.returns
returns c = one_line
