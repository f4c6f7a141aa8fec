use Rattle.std.proofs.Common.{◌≡◌, ℕ, ◌<◌, Some}
use Rattle.std.specs.Prelude.{slice_get}
use Rattle.nd_node.specs.declared.clearing.Clearable.{Clearable}
use Rattle.nd_node.specs.Event.{clearable_of}
use Rattle.ndpctl_run.specs.Table.{clearable_word}
use Rattle.ndpctl_run.proofs.table.read_clearable.Given as goal

-- the tables so far have other words
abbrev pub invariant-loop-table : goal.invariant-loop-table
invariant-loop-table l = (k : ℕ) (table : Clearable) → k < l.table-index → slice_get l.table-items k ≡ Some table → l.word ≡ clearable_word (clearable_of table) → ⊥
