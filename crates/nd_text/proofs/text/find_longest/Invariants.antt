use Rattle.nd_text.proofs.LongestRun.{IsBestFrom}
use Rattle.nd_text.proofs.text.find_longest.Given as goal

abbrev pub invariant-loop-i : goal.invariant-loop-i
invariant-loop-i l = IsBestFrom l.groups l.i l.front l.best.start l.best.len
