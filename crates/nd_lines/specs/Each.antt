-- The text for lines that are answered each by itself.
use Rattle.nd_lines.specs.Lines.{longest_line}
use Rattle.std.specs.Prelude.{ℕ, ◌+◌, List, [], ◌∷◌, ◌++◌, Option, Some, None, length, nat_le, if◌then◌else◌}

-- the answer to a line that may be too long
abbrev pub answer_within : (List ℕ → Option (List ℕ)) → List ℕ → Option (List ℕ)
answer_within answer_to line = if nat_le (length line) longest_line then answer_to line else None

-- an answer, and then the answers to the later lines: nothing from a malformed line on
abbrev pub told_before : Option (List ℕ) → List ℕ → List ℕ
told_before None later = []
told_before (Some told) later = told ++ later

-- the answers to some lines up to the first malformed one
abbrev pub text_of_each : (List ℕ → Option (List ℕ)) → List (List ℕ) → List ℕ
text_of_each answer_to [] = []
text_of_each answer_to (line ∷ lines) = told_before (answer_within answer_to line) (text_of_each answer_to lines)

-- n, where there is no answer to the line of this number
abbrev pub malformed_or : Option (List ℕ) → ℕ → Option ℕ → Option ℕ
malformed_or None n later = Some n
malformed_or (Some told) n later = later

-- the number of the first malformed one of some lines, where the first has the number n
abbrev pub malformed_of_each : (List ℕ → Option (List ℕ)) → ℕ → List (List ℕ) → Option ℕ
malformed_of_each answer_to n [] = None
malformed_of_each answer_to n (line ∷ lines) = malformed_or (answer_within answer_to line) n (malformed_of_each answer_to (n + 1) lines)
