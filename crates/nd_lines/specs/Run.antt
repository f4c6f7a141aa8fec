-- What a run has written, where the text is a function of the lines.
use Rattle.std.specs.Prelude.{ℕ, List, Option, Some, None, ⊤}
use Rattle.nd_lines.specs.Answers.{TextFor, MalformedFrom, Only}
use Rattle.nd_lines.specs.Lines.{lines_of}
use Rattle.nd_lines.specs.Told.{TellsAll, TellsAsRead}
use Rattle.nd_lines.specs.Written.{AppendsFront}

-- where the input is known, the text of its lines was written, and `found` is the first malformed one of them, counted from 1
abbrev pub Wrote : TextFor → MalformedFrom → Option (List ℕ) → Option (List ℕ) → Option (List ℕ) → Option ℕ → Type 0
Wrote text malformed = TellsAll (Only text malformed)

-- where the input is known, a beginning of the text of its lines was written
abbrev pub WroteFront : TextFor → Option (List ℕ) → Option (List ℕ) → Option (List ℕ) → Type 0
WroteFront text None old new = ⊤
WroteFront text (Some input) old new = AppendsFront old new (text (lines_of input))

-- where the input is known, what was read of it is some lines with their line feeds and the beginning of one more; the answers to all these lines were
-- written, and none of them is malformed
abbrev pub Answered : TextFor → MalformedFrom → Option (List ℕ) → Option (List ℕ) → Option (List ℕ) → Option (List ℕ) → Type 0
Answered text malformed = TellsAsRead (Only text malformed)
