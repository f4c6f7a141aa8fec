use Rattle.std.proofs.Common.{◌≡◌, drop}
use Rattle.std.specs.Prelude.{is_some}
use Rattle.nd_table.specs.Listing.{end_in}
use Rattle.nd_table.proofs.lasting_entries.has.Given as goal

-- the rest has the key where all have it
abbrev pub invariant-loop-entry : goal.invariant-loop-entry
invariant-loop-entry g l =
    is_some (end_in g.Q.NamesKey.same (g.Q.NamesKey.named l.name) (drop l.entry-index l.entries)) ≡ is_some (end_in g.Q.NamesKey.same (g.Q.NamesKey.named l.name) l.entries)
