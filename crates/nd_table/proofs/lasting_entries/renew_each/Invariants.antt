use Rattle.std.proofs.Common.{◌≡◌, ◌++◌, take, drop}
use Rattle.std.specs.Prelude.{◌||◌, is_some, map}
use Rattle.nd_table.specs.Listing.{end_in, renewed}
use Rattle.nd_table.proofs.lasting_entries.renew_each.Given as goal

-- those so far are renewed, and the key is among them or among the rest where it is among all
abbrev pub invariant-loop-entry : goal.invariant-loop-entry
invariant-loop-entry g l =
    (l.entries ≡ map (renewed g.Q.NamesKey.same (g.Q.NamesKey.named l.name) l.end) (take l.entry-index l.initial.entries) ++ drop l.entry-index l.initial.entries)
    × ((l.there || is_some (end_in g.Q.NamesKey.same (g.Q.NamesKey.named l.name) (drop l.entry-index l.entries))) ≡ is_some (end_in g.Q.NamesKey.same (g.Q.NamesKey.named l.name) l.initial.entries))
