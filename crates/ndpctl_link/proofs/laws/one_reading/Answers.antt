use Rattle.ndpctl_link.proofs.LinkLines.{one_link_line}
use Rattle.ndpctl_link.proofs.laws.one_reading.Goals as goal

pub returns : goal.returns
returns c = one_link_line
