use Rattle.std.proofs.Common.{◌≡◌, ◌++◌, List, drop, length, map}
use Rattle.std.specs.Iterator.{Yields}
use Rattle.nd_c.proofs.all_rows.fill.Given as goal

abbrev pub invariant-loop-row : goal.invariant-loop-row
invariant-loop-row g l = (xs : List g.row.T.Denot) × (length xs ≡ l.row-index) × Yields g.I.Iterator.next_gives l.fn.items xs l.items × g.I.Iterator.can_next l.items × (l.rows ≡ map g.R.RowOf.row_of xs ++ drop (length xs) l.fn.rows) × (l.written ≡ l.row-index)
