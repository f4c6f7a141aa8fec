use Rattle.std.proofs.Common.{◌≡◌, drop}
use Rattle.std.specs.Prelude.{is_some}
use Rattle.nd_table.specs.Listing.{end_in, open_at}
use Rattle.nd_table.proofs.lasting_entries.stands.Given as goal

-- the key stands among the rest where it stands among all
abbrev pub invariant-loop-entry : goal.invariant-loop-entry
invariant-loop-entry g l =
    is_some (end_in g.Q.NamesKey.same (g.Q.NamesKey.named l.name) (open_at l.now (drop l.entry-index l.entries))) ≡ is_some (end_in g.Q.NamesKey.same (g.Q.NamesKey.named l.name) (open_at l.now l.entries))
