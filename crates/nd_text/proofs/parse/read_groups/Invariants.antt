use Rattle.nd_text.proofs.GroupLists.{IsSoFar}
use Rattle.nd_text.proofs.parse.read_groups.Given as goal

-- the groups so far, and those that are left
abbrev pub invariant-loop-count : goal.invariant-loop-count
invariant-loop-count l = IsSoFar l.text l.groups l.count l.rest
