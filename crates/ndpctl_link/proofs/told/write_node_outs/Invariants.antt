use Rattle.std.proofs.Common.{◌≡◌, ◌++◌, drop}
use Rattle.std.specs.Prelude.{string_bytes}
use Rattle.std.specs.List.{flat_map}
use Rattle.nd_chronicle.specs.Told.{node_lines}
use Rattle.nd_steps.specs.Outputs.{happenings}
use Rattle.ndpctl_link.proofs.told.write_node_outs.Given as goal

-- what is written, and the lines of what is left
abbrev pub invariant-loop-at : goal.invariant-loop-at
invariant-loop-at g l =
    string_bytes l.text ++ flat_map (node_lines l.node) (happenings (drop l.at-index l.outs)) ≡ string_bytes l.fn.text ++ flat_map (node_lines l.node) (happenings l.outs)
