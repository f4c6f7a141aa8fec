use Rattle.nd_link.proofs.Passage.{PassedUpTo}
use Rattle.nd_link.proofs.passing.pass_others.Given as goal

-- time has passed at those before this place
abbrev pub invariant-loop-i : goal.invariant-loop-i
invariant-loop-i g l = PassedUpTo g.R.Rng.stream l.now l.but l.i l.fn.nodes l.nodes
