use Rattle.nd_link_log.proofs.Frames.{one_frame}
use Rattle.nd_link_log.proofs.laws.one_frame.Goals as goal

pub returns : goal.returns
returns c = λ log a b i j at when frame other p q same. one_frame i j at when frame other a b log p q same
