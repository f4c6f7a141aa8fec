use Rattle.nd_text.proofs.Gaps.{HasNoGapBelow}
use Rattle.nd_text.proofs.parse.find_gap.Given as goal

abbrev pub invariant-loop-i : goal.invariant-loop-i
invariant-loop-i l = HasNoGapBelow l.text l.i
