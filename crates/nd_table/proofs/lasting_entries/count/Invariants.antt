use Rattle.std.proofs.Common.{◌≡◌, ◌+◌, ◌≤◌, length, drop}
use Rattle.nd_table.specs.Listing.{open_at}
use Rattle.nd_table.proofs.lasting_entries.count.Given as goal

-- those so far and those of the rest are all
abbrev pub invariant-loop-entry : goal.invariant-loop-entry
invariant-loop-entry g l = (l.count + length (open_at l.now (drop l.entry-index l.entries)) ≡ length (open_at l.now l.entries)) × (l.count ≤ l.entry-index)
