-- What holds of lines that lead a node nowhere, for the laws of what answers lines.
use Rattle.std.specs.Prelude.{◌<◌, ℕ, List, [], length, refl}
use Rattle.std.proofs.Common.{sym, append-nil, arith}
use Rattle.rand_core.specs.Stream.{Stream}
use Rattle.nd_lines.specs.Answers.{EndsWell, IsMalformed}
use Rattle.nd_lines.specs.Lines.{longest_line}
use Rattle.nd_chronicle.specs.Told.{text}
use Rattle.nd_node.specs.declared.node.Node.{Node}
use Rattle.ndpctl_run.specs.ScriptKept.{Leads}
use Rattle.ndpctl_run.specs.Line.{IsLine}
use Rattle.ndpctl_run.specs.Said.{SaysNothing, stops}

module _ {R A : Type 0} (stream : R → Stream) (node : Node R A) where
  -- no line leads nowhere
  pub no_line : EndsWell (Leads stream node node)
  no_line n = record { each = λ start c s. (record { said = []; say = (refl, refl); end = c; runs = refl; text_is = sym (append-nil (text c)) }, s) }

  -- a malformed line leads nowhere
  pub malformed_line : (line : List ℕ) → SaysNothing IsLine line → IsMalformed (Leads stream node node) line
  malformed_line line nothing n lines = record { each = λ start c s. (record { said = []; say = stops nothing; end = c; runs = refl; text_is = sym (append-nil (text c)) }, s) }

  -- a line that is too long is malformed
  pub long_line : (line : List ℕ) → longest_line < length line → IsMalformed (Leads stream node node) line
  long_line line long = malformed_line line (λ at event says. absurd (omega (arith, long, says.short)))
