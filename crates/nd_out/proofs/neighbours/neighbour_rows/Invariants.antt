use Rattle.std.proofs.Common.{◌≡◌, ◌++◌}
use Rattle.std.specs.Prelude.{map, string_bytes}
use Rattle.nd_neighbour.specs.Left.{neighbours_left}
use Rattle.nd_chronicle.specs.Shown.{neighbour_row}
use Rattle.nd_out.proofs.neighbours.neighbour_rows.Given as goal

-- those so far, and those that are left
abbrev pub invariant-loop-neighbour : goal.invariant-loop-neighbour
invariant-loop-neighbour g l =
    map string_bytes l.rows.items ++ map neighbour_row (neighbours_left l.neighbour-iterator) ≡ map neighbour_row (neighbours_left l.initial.neighbour-iterator)
