use Rattle.std.proofs.Common.{◌≡◌, ◌++◌, drop}
use Rattle.std.specs.Prelude.{map, string_bytes}
use Rattle.std.specs.List.{flat_map}
use Rattle.nd_out.specs.NodeLine.{line_from}
use Rattle.nd_out.proofs.lines.write_each_row.Given as goal

-- what is written, and the lines of the rows that are left
abbrev pub invariant-loop-row : goal.invariant-loop-row
invariant-loop-row g l =
    string_bytes l.text ++ flat_map (line_from l.node l.at) (map string_bytes (drop l.row-index l.rows)) ≡ string_bytes l.fn.text ++ flat_map (line_from l.node l.at) (map string_bytes l.rows)
