use Rattle.nd_addr.proofs.MacTexts.{IsMacSoFar}
use Rattle.nd_addr.proofs.mac.Mac.parse.Given as goal

abbrev pub invariant-loop-i : goal.invariant-loop-i
invariant-loop-i l = IsMacSoFar l.text l.bytes l.i
