-- What holds of lines that are answered each by itself, for the laws of what answers them.
use Rattle.nd_lines.specs.Lines.{longest_line}
use Rattle.std.specs.Prelude.{◌≡◌, ◌<◌, ◌+◌, ℕ, List, Option, None, Bool, length, if◌then◌else◌}
use Rattle.std.proofs.Common.{ap, sym}
use Rattle.std.proofs.lemmas.Bool.{lt-leb}
use Rattle.nd_lines.specs.Answers.{Only, IsMalformed}
use Rattle.nd_lines.specs.Each.{answer_within, told_before, malformed_or, text_of_each, malformed_of_each}

-- a line with no answer is malformed
pub each_unanswered : (answer_to : List ℕ → Option (List ℕ)) (line : List ℕ) → answer_within answer_to line ≡ None → IsMalformed (Only (text_of_each answer_to) (malformed_of_each answer_to)) line
each_unanswered answer_to line none = λ n lines. (
  ap (λ (answer : Option (List ℕ)). told_before answer (text_of_each answer_to lines)) (sym none),
  ap (λ (answer : Option (List ℕ)). malformed_or answer n (malformed_of_each answer_to (n + 1) lines)) none,
)

-- a line that is too long is malformed
pub each_too_long : (answer_to : List ℕ → Option (List ℕ)) (line : List ℕ) → longest_line < length line → IsMalformed (Only (text_of_each answer_to) (malformed_of_each answer_to)) line
each_too_long answer_to line long = each_unanswered answer_to line (ap (λ (b : Bool). if b then answer_to line else None) (lt-leb (length line) longest_line long))
