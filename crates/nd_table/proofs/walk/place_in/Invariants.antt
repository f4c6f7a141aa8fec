use Rattle.std.proofs.Common.{◌≡◌, take}
use Rattle.nd_table.specs.WalkKept.{times}
use Rattle.nd_table.proofs.walk.place_in.Given as goal

-- none of the names so far is the key's
abbrev pub invariant-loop-i : goal.invariant-loop-i
invariant-loop-i g l = times g.Q.NamesKey.same g.Q.NamesKey.named (g.Q.NamesKey.named l.name) (take l.i l.names) ≡ 0
