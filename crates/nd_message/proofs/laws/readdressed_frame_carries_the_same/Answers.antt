use Rattle.nd_message.proofs.Framing.{readdressed, readdressed_carries}
use Rattle.nd_message.proofs.laws.readdressed_frame_carries_the_same.Goals as goal

pub returns-clause-frame : goal.returns-clause-frame
returns-clause-frame c = readdressed

pub returns-clause-carried : goal.returns-clause-carried
returns-clause-carried c = readdressed_carries
