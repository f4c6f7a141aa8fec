use Rattle.std.proofs.Common.{◌≡◌, ℕ, ◌<◌, Some}
use Rattle.std.specs.Prelude.{slice_get}
use Rattle.nd_node.specs.declared.shown.Table.{Table}
use Rattle.nd_node.specs.Event.{table_of}
use Rattle.ndpctl_run.specs.Table.{table_word}
use Rattle.ndpctl_run.proofs.table.read_table.Given as goal

-- the tables so far have other words
abbrev pub invariant-loop-table : goal.invariant-loop-table
invariant-loop-table l = (k : ℕ) (table : Table) → k < l.table-index → slice_get l.table-items k ≡ Some table → l.word ≡ table_word (table_of table) → ⊥
