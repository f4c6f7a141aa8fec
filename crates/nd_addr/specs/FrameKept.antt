-- Only what is kept, in the code's terms: the fields of a frame that is borrowed.
use Rattle.nd_addr.specs.declared.frame.FrameRef.{FrameRef}
use Rattle.nd_addr.specs.Frame.{FrameParts}

abbrev pub frame_parts : FrameRef → FrameParts
frame_parts f = record { destination = f.destination; source = f.source; rest = f.rest.now }
