-- What the answer to one line means for the text of all lines.
use Rattle.std.specs.Prelude.{◌≡◌, ◌⊎◌, ℕ, ◌+◌, List, [], ◌∷◌, ◌++◌, Option, Some, None}
use Rattle.nd_lines.specs.Written.{AppendsUpTo}
use Rattle.nd_lines.specs.declared.answering.Unanswered.{Unanswered}

-- Which text some lines may have: the first of them has the number, nothing is answered from the first malformed one on, and that one's number
-- comes last.
abbrev pub Texts : Type 1
Texts = ℕ → List (List ℕ) → List ℕ → Option ℕ → Type 0

-- the same by the answerer that is there behind the lines
abbrev pub TextsTo : Type 0 → Type 1
TextsTo T = T → Texts

-- the same to whatever answerer
abbrev pub ToAny : {T : Type 0} → TextsTo T → Texts
ToAny {T} texts n lines told found = (end : T) × texts end n lines told found

-- the text for some lines
abbrev pub TextFor : Type 0
TextFor = List (List ℕ) → List ℕ

-- the number of the first malformed one of some lines, where the first has the given number
abbrev pub MalformedFrom : Type 0
MalformedFrom = ℕ → List (List ℕ) → Option ℕ

-- lines have one text alone, and one malformed line or none
abbrev pub Only : TextFor → MalformedFrom → Texts
Only text malformed n lines told found = (told ≡ text lines) × (malformed n lines ≡ found)

module _ {T : Type 0} (before after : TextsTo T) where
  -- the line is not malformed: the answer to it, and then a text of later lines, is a text of them all
  abbrev pub ComesFirst : List ℕ → List ℕ → Type 0
  ComesFirst line told =
      (end : T) (n : ℕ) (lines : List (List ℕ)) (text : List ℕ) (found : Option ℕ) → after end (n + 1) lines text found → before end n (line ∷ lines) (told ++ text) found

  -- the answer to the line was appended
  abbrev pub Tells : List ℕ → List ℕ → List ℕ → Type 0
  Tells line old new = (told : List ℕ) × (new ≡ old ++ told) × ComesFirst line told

  -- the answer to the line was appended to a text, a front of which then went from it into known bytes
  abbrev pub TellsUpTo : List ℕ → Option (List ℕ) → Option (List ℕ) → List ℕ → List ℕ → Type 0
  TellsUpTo line old new text rest = (told : List ℕ) × AppendsUpTo old new (text ++ told) rest × ComesFirst line told

-- Which beginnings the answer to a line may have that is appended in parts, by the answerer before the line.
abbrev pub Begins : Type 0 → Type 1
Begins T = T → List ℕ → List ℕ → Type 0

-- The meaning of a fault at a line: the answerer before the line, the line, the answerer after it, and the fault.
abbrev pub Fails : Type 0 → Type 1
Fails T = T → List ℕ → T → Unanswered → Type 0

-- A part of the answer to a line was appended: what the later answerer appends to the same line goes on from it.
pub record TellsPart {T : Type 0} (texts : T → TextsTo T) (begins : Begins T) (fails : Fails T) (before after : T) (line old new : List ℕ) : Type 0 where
  pub told : List ℕ
  pub written : new ≡ old ++ told
  pub on : (end : T) (n : ℕ) (lines : List (List ℕ)) (text : List ℕ) (found : Option ℕ) → texts after end n (line ∷ lines) text found → texts before end n (line ∷ lines) (told ++ text) found
  pub begun : begins before line told
  pub further : (more : List ℕ) → begins after line more → begins before line (told ++ more)
  pub stops : (later : T) (why : Unanswered) → fails after line later why → fails before line later why

-- nothing, or a beginning of the answer to the line
abbrev pub IsPart : {T : Type 0} → Begins T → T → List ℕ → List ℕ → Type 0
IsPart begins before line part = (part ≡ []) ⊎ begins before line part

-- Which text the first few of some lines may have, none of which is malformed, with a beginning of the answer to the next line behind it: the number
-- of the first line, the first few, the later ones, and the text.
abbrev pub Fronts : Type 1
Fronts = ℕ → List (List ℕ) → List (List ℕ) → List ℕ → Type 0

-- the text of whole lines alone
abbrev pub Wholly : Texts → Fronts
Wholly texts n first later told = texts n first told None

-- a text of the first few lines, to whatever answerer, and nothing or a beginning of its answer to the next line
pub record UpInto {T : Type 0} (texts : TextsTo T) (begins : Begins T) (n : ℕ) (first later : List (List ℕ)) (told : List ℕ) : Type 0 where
  pub end : T
  pub text : List ℕ
  pub part : List ℕ
  pub told_is : told ≡ text ++ part
  pub is_theirs : texts end n first text None
  pub begun : (part ≡ []) ⊎ ((line : List ℕ) × (rest : List (List ℕ)) × (later ≡ line ∷ rest) × begins end line part)

-- no lines have the empty text, and none of them is malformed
abbrev pub EndsWell : Texts → Type 0
EndsWell texts = (n : ℕ) → texts n [] [] None

-- the line is malformed, and nothing is answered from it on
abbrev pub IsMalformed : Texts → List ℕ → Type 0
IsMalformed texts line = (n : ℕ) (lines : List (List ℕ)) → texts n (line ∷ lines) [] (Some n)
