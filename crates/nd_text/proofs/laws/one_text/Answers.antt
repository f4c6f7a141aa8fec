use Rattle.nd_text.proofs.LongestRun.{text_is_one}
use Rattle.nd_text.proofs.laws.one_text.Goals as goal

pub returns : goal.returns
returns c = text_is_one
