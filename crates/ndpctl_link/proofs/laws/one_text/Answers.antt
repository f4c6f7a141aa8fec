use Rattle.ndpctl_link.proofs.LinkRuns.{text_one}
use Rattle.ndpctl_link.proofs.laws.one_text.Goals as goal

pub returns : goal.returns
returns c = text_one
