use Rattle.std.proofs.Common.{◌≡◌, ◌++◌, drop}
use Rattle.std.specs.Prelude.{string_bytes}
use Rattle.nd_link.specs.Told.{told_text}
use Rattle.ndpctl_link.proofs.told.write_told.Given as goal

-- what is written, and the text of what is left
abbrev pub invariant-loop-one : goal.invariant-loop-one
invariant-loop-one g l = string_bytes l.text ++ told_text (drop l.one-index l.told) ≡ string_bytes l.fn.text ++ told_text l.told
