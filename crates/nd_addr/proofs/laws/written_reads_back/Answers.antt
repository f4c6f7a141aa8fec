use Rattle.nd_addr.proofs.Written.{frame_back, packet_back}
use Rattle.nd_addr.proofs.laws.written_reads_back.Goals as goal

pub returns-clause-frame : goal.returns-clause-frame
returns-clause-frame c = frame_back

pub returns-clause-packet : goal.returns-clause-packet
returns-clause-packet c = packet_back
