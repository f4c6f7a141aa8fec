use Rattle.std.proofs.Common.{◌≡◌, List, length}
use Rattle.nd_table.specs.declared.lasting.Lasting.{Lasting}
use Rattle.nd_table.specs.Listing.{fits}
use Rattle.nd_table.specs.WalkKept.{LeadsTo}
use Rattle.nd_table.proofs.announcements.comes_to_the_end.Given as goal

-- from where it began the announcements so far lead to entries at which what is left decides
abbrev pub invariant-loop-name : goal.invariant-loop-name
invariant-loop-name g l =
    (first : List (Lasting g.row.K.Denot)) → LeadsTo g.Q.NamesKey.same g.Q.NamesKey.named l.initial.walk l.initial.kept first
    → (entries : List (Lasting g.row.K.Denot)) × LeadsTo g.Q.NamesKey.same g.Q.NamesKey.named l.walk l.kept entries
    × (fits g.Q.NamesKey.same l.walk.limit l.walk.now (g.I.Announces.told l.rest) entries ≡ fits g.Q.NamesKey.same l.initial.walk.limit l.initial.walk.now (g.I.Announces.told l.initial.rest) first)

abbrev pub decreases-loop-name : goal.decreases-loop-name
decreases-loop-name g l = length (g.I.Announces.told l.rest)
