use Rattle.std.proofs.Common.{◌≡◌, length}
use Rattle.nd_table.specs.Refreshing.{only_refreshes}
use Rattle.nd_table.proofs.announcements.only_refreshes.Given as goal

-- what is left decides
abbrev pub invariant-loop-name : goal.invariant-loop-name
invariant-loop-name g l = only_refreshes g.Q.NamesKey.same l.now (g.I.Announces.told l.rest) l.entries ≡ only_refreshes g.Q.NamesKey.same l.fn.now (g.I.Announces.told l.fn.announced) l.fn.entries

abbrev pub decreases-loop-name : goal.decreases-loop-name
decreases-loop-name g l = length (g.I.Announces.told l.rest)
