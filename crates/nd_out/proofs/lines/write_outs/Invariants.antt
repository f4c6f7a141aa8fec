use Rattle.std.proofs.Common.{◌≡◌, ◌++◌, length}
use Rattle.std.specs.Prelude.{string_bytes}
use Rattle.nd_out.specs.Out.{told}
use Rattle.nd_out.proofs.lines.write_outs.Given as goal

-- what is written, and the text of what is left
abbrev pub invariant-loop-at : goal.invariant-loop-at
invariant-loop-at g l = string_bytes l.text ++ told l.outs.items ≡ string_bytes l.fn.text ++ told l.fn.outs.items

abbrev pub decreases-loop-at : goal.decreases-loop-at
decreases-loop-at g l = length l.outs.items
