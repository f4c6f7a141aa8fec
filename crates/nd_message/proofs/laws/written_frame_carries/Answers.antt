use Rattle.nd_message.proofs.Framing.{frame_carries}
use Rattle.nd_message.proofs.laws.written_frame_carries.Goals as goal

pub returns : goal.returns
returns c = frame_carries
