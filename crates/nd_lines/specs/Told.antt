-- What a run has written.
use Rattle.std.specs.Prelude.{◌≡◌, ◌<◌, ◌⊎◌, ℕ, List, [], ◌∷◌, ◌++◌, length, Option, Some, None, ⊤}
use Rattle.std.specs.Io.KnownBytes.{Appends}
use Rattle.nd_lines.specs.Answers.{Texts, TextsTo, Begins, IsPart, Fronts, Wholly}
use Rattle.nd_lines.specs.Lines.{lines_of, ended}
use Rattle.nd_lines.specs.Written.{AppendsFront}

-- a text of the lines was written, the first of which has the number n, and `found` is the first malformed one of them
pub record TellsLines (texts : Texts) (n : ℕ) (lines : List (List ℕ)) (old new : Option (List ℕ)) (found : Option ℕ) : Type 0 where
  pub text : List ℕ
  pub is_theirs : texts n lines text found
  pub written : Appends old new text

-- A beginning was written of what waits and then of such a text of the first few of the lines.
pub record TellsFirst (fronts : Fronts) (n : ℕ) (lines : List (List ℕ)) (waiting : List ℕ) (old new : Option (List ℕ)) : Type 0 where
  pub first : List (List ℕ)
  pub later : List (List ℕ)
  pub lines_are : lines ≡ first ++ later
  pub text : List ℕ
  pub is_theirs : fronts n first later text
  pub written : AppendsFront old new (waiting ++ text)

-- where the input is known, a text of its lines was written, and `found` is the first malformed one of them, counted from 1
abbrev pub TellsAll : Texts → Option (List ℕ) → Option (List ℕ) → Option (List ℕ) → Option ℕ → Type 0
TellsAll texts None old new found = ⊤
TellsAll texts (Some input) old new found = TellsLines texts 1 (lines_of input) old new found

-- where the input is known, a beginning of such a text of its first few lines was written
abbrev pub TellsFrontOf : Fronts → Option (List ℕ) → Option (List ℕ) → Option (List ℕ) → Type 0
TellsFrontOf fronts None old new = ⊤
TellsFrontOf fronts (Some input) old new = TellsFirst fronts 1 (lines_of input) [] old new

-- the same of whole lines alone
abbrev pub TellsFront : Texts → Option (List ℕ) → Option (List ℕ) → Option (List ℕ) → Type 0
TellsFront texts = TellsFrontOf (Wholly texts)

-- where the input is known, what was written is a beginning of each text of its lines
abbrev pub TellsBeginning : Texts → Option (List ℕ) → Option (List ℕ) → Option (List ℕ) → Type 0
TellsBeginning texts None old new = ⊤
TellsBeginning texts (Some input) old new = (text : List ℕ) (found : Option ℕ) → texts 1 (lines_of input) text found → AppendsFront old new text

-- what was read of the input is some lines with their line feeds and the beginning of one more; the answers to all these lines were written,
-- and none of them is malformed
pub record TellsRead (texts : Texts) (input rest : List ℕ) (old new : Option (List ℕ)) : Type 0 where
  pub lines : List (List ℕ)
  pub beginning : List ℕ
  pub input_is : input ≡ ended lines ++ (beginning ++ rest)
  pub lines_are : lines_of (ended lines) ≡ lines
  pub beginning_is : 0 < length beginning → lines_of beginning ≡ beginning ∷ []
  pub told : TellsLines texts 1 lines old new None

-- the same where the input is known, and what was not read of it
abbrev pub TellsAsRead : Texts → Option (List ℕ) → Option (List ℕ) → Option (List ℕ) → Option (List ℕ) → Type 0
TellsAsRead texts None rest old new = ⊤
TellsAsRead texts (Some input) None old new = ⊥
TellsAsRead texts (Some input) (Some rest) old new = TellsRead texts input rest old new

-- The answers to all lines before one were written, whole, and nothing or a beginning of the answer to that line: what they led to stopped at it.
-- The first line has the number n.
pub record TellsBefore {T : Type 0} (texts : TextsTo T) (begins : Begins T) (Stops : T → List ℕ → Type 0) (n : ℕ) (lines : List (List ℕ)) (old new : Option (List ℕ)) : Type 0 where
  pub first : List (List ℕ)
  pub line : List ℕ
  pub later : List (List ℕ)
  pub lines_are : lines ≡ first ++ (line ∷ later)
  pub end : T
  pub text : List ℕ
  pub is_theirs : texts end n first text None
  pub part : List ℕ
  pub begun : IsPart begins end line part
  pub written : Appends old new (text ++ part)
  pub stops : Stops end line

-- the same where the input is known, its lines counted from 1
abbrev pub TellsUntilIn : {T : Type 0} → TextsTo T → Begins T → (T → List ℕ → Type 0) → Option (List ℕ) → Option (List ℕ) → Option (List ℕ) → Type 0
TellsUntilIn texts begins Stops None old new = ⊤
TellsUntilIn texts begins Stops (Some input) old new = TellsBefore texts begins Stops 1 (lines_of input) old new

-- the same where no line is answered in part: the answers to all lines before that one were written, and nothing else
abbrev pub TellsUntil : {T : Type 0} → TextsTo T → (T → List ℕ → Type 0) → Option (List ℕ) → Option (List ℕ) → Option (List ℕ) → Type 0
TellsUntil texts Stops = TellsUntilIn texts (λ _ _ _. ⊥) Stops

-- nothing was read or written
abbrev pub IsUntouched : Option (List ℕ) → Option (List ℕ) → Option (List ℕ) → Option (List ℕ) → Type 0
IsUntouched input rest old new = (rest ≡ input) × (new ≡ old)

-- The whole of such a text of all lines before one was written, and nothing else. That line is not malformed.
pub record BreaksOff (fronts : Fronts) (IsMalformedLine : List ℕ → Type 0) (lines : List (List ℕ)) (old new : Option (List ℕ)) : Type 0 where
  pub first : List (List ℕ)
  pub line : List ℕ
  pub later : List (List ℕ)
  pub lines_are : lines ≡ first ++ (line ∷ later)
  pub text : List ℕ
  pub is_theirs : fronts 1 first (line ∷ later) text
  pub written : Appends old new text
  pub well_formed : IsMalformedLine line → ⊥

-- the same where the input is known
abbrev pub BreaksOffIn : Fronts → (List ℕ → Type 0) → Option (List ℕ) → Option (List ℕ) → Option (List ℕ) → Type 0
BreaksOffIn fronts IsMalformedLine None old new = ⊤
BreaksOffIn fronts IsMalformedLine (Some input) old new = BreaksOff fronts IsMalformedLine (lines_of input) old new

-- Memory was refused before the first read, or at a line that is not malformed: such a text of all lines before that one was written, and nothing
-- else.
abbrev pub TellsToMemoryOf : Fronts → (List ℕ → Type 0) → Option (List ℕ) → Option (List ℕ) → Option (List ℕ) → Option (List ℕ) → Type 0
TellsToMemoryOf fronts IsMalformedLine input rest old new = IsUntouched input rest old new ⊎ BreaksOffIn fronts IsMalformedLine input old new

-- the same of whole lines alone
abbrev pub TellsToMemory : Texts → (List ℕ → Type 0) → Option (List ℕ) → Option (List ℕ) → Option (List ℕ) → Option (List ℕ) → Type 0
TellsToMemory texts = TellsToMemoryOf (Wholly texts)
