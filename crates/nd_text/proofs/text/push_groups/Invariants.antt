use Rattle.std.proofs.Common.{◌≡◌, ◌++◌, length}
use Rattle.std.specs.Prelude.{string_bytes}
use Rattle.nd_text.specs.Text.{joined}
use Rattle.nd_text.proofs.text.push_groups.Given as goal

abbrev pub invariant-loop-rest : goal.invariant-loop-rest
invariant-loop-rest g l = string_bytes l.text ++ joined l.rest ≡ string_bytes l.fn.text ++ joined l.groups

abbrev pub decreases-loop-rest : goal.decreases-loop-rest
decreases-loop-rest g l = length l.rest
