use Rattle.std.proofs.Common.{◌≡◌, drop}
use Rattle.nd_addr.specs.Number.{number_of}
use Rattle.nd_table.specs.Dates.{date_at}
use Rattle.nd_routers.specs.Planned.{key_of, date_of}
use Rattle.nd_routers.proofs.due.end_of.Given as goal

-- the router is among the rest where it is anywhere
abbrev pub invariant-loop-entry : goal.invariant-loop-entry
invariant-loop-entry l = date_at key_of date_of (number_of l.source.0) (drop l.entry-index l.entries) ≡ date_at key_of date_of (number_of l.source.0) l.entries
