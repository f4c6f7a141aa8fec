use Rattle.ndpctl_run.proofs.OneText.{text_one}
use Rattle.ndpctl_run.proofs.laws.one_text.Goals as goal

pub returns : goal.returns
returns c = text_one c.one_reading.ensures c.one_chronicle.ensures
