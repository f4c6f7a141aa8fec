use Rattle.std.proofs.Common.{◌≡◌, ◌++◌}
use Rattle.std.specs.Prelude.{map, string_bytes}
use Rattle.nd_table.specs.Left.{lifetimes_left}
use Rattle.nd_out.specs.Row.{lasting_text}
use Rattle.nd_out.proofs.row.add_with_lifetimes.Given as goal

-- those so far, and those that are left
abbrev pub invariant-loop-key : goal.invariant-loop-key
invariant-loop-key g l =
    map string_bytes l.rows.items ++ map (lasting_text g.K.Row.shown) (lifetimes_left l.key-iterator) ≡ map string_bytes l.fn.rows.items ++ map (lasting_text g.K.Row.shown) (lifetimes_left l.initial.key-iterator)
