use Rattle.std.proofs.Common.{length}
use Rattle.nd_text.proofs.Words.{IsRead}
use Rattle.nd_text.proofs.parse.read_group.Given as goal

abbrev pub invariant-loop-rest : goal.invariant-loop-rest
invariant-loop-rest l = IsRead l.word l.value l.rest

abbrev pub decreases-loop-rest : goal.decreases-loop-rest
decreases-loop-rest l = length l.rest
