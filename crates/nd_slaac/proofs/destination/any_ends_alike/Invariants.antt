use Rattle.std.proofs.Common.{◌≡◌, drop}
use Rattle.std.specs.List.{list_any}
use Rattle.nd_slaac.specs.Destination.{is_asked}
use Rattle.nd_slaac.proofs.destination.any_ends_alike.Given as goal

-- the rest has one where there is one
abbrev pub invariant-loop-entry : goal.invariant-loop-entry
invariant-loop-entry l = list_any (is_asked l.counted l.destination) (drop l.entry-index l.entries) ≡ list_any (is_asked l.counted l.destination) l.entries
