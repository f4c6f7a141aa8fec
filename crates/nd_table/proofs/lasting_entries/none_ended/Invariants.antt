use Rattle.std.proofs.Common.{◌≡◌, drop}
use Rattle.std.specs.List.{list_all}
use Rattle.nd_table.specs.Ends.{is_before}
use Rattle.nd_table.proofs.lasting_entries.none_ended.Given as goal

-- none of the rest has ended where none of all has
abbrev pub invariant-loop-entry : goal.invariant-loop-entry
invariant-loop-entry g l = list_all (λ e. is_before l.now e.end) (drop l.entry-index l.entries) ≡ list_all (λ e. is_before l.now e.end) l.entries
