-- What `check` answers to a line.
use Rattle.std.specs.Prelude.{ℕ, List, [], ◌∷◌, ◌++◌, Option, Some, None, Result, Ok, Err}
use Rattle.hex.specs.Hex.{decode_of}
use Rattle.hex.specs.declared.error.FromHexError.{FromHexError}
use Rattle.nd_validity.specs.Hearing.{hearing_in_some_role}
use Rattle.ndpctl_check.specs.Telling.{told}

-- what the frame is to the role that takes it, and a line feed
abbrev pub answer_about : Result (List ℕ) FromHexError → Option (List ℕ)
answer_about (Ok frame) = Some (told (hearing_in_some_role frame) ++ 10 ∷ [])
answer_about (Err e) = None

-- the answer to a line: none where it is no even number of hexadecimal digits
unfoldable pub answer_to : List ℕ → Option (List ℕ)
answer_to line = answer_about (decode_of line)
