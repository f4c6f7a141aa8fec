-- What the lines of a script lead a node to.
use Rattle.std.specs.Prelude.{◌≡◌, ◌≤◌, ℕ, List, ◌++◌, Option}
use Rattle.nd_lines.specs.Answers.{Fronts, UpInto}
use Rattle.nd_chronicle.specs.Start.{Start}
use Rattle.nd_chronicle.specs.Happening.{Chronicle}
use Rattle.nd_chronicle.specs.Event.{Event}
use Rattle.nd_chronicle.specs.History.{Runs, IsChronicle}
use Rattle.nd_chronicle.specs.Told.{text}
use Rattle.nd_node.specs.Node.{NextDue}
use Rattle.nd_node.specs.Time.{Comes}
use Rattle.ndpctl_run.specs.Line.{IsLine}
use Rattle.ndpctl_run.specs.Said.{Say, Says}

-- from a chronicle on, what the lines say leads to one that adds these reports
pub record RunsOn (start : Start) (c : Chronicle) (n : ℕ) (lines : List (List ℕ)) (told : List ℕ) (found : Option ℕ) : Type 0 where
  pub said : List (ℕ × Event)
  pub say : Say IsLine n lines said found
  pub end : Chronicle
  pub runs : Runs start c said end
  pub text_is : text end ≡ text c ++ told

-- THE HEADLINE. The text is that of the chronicle of what the lines say.
pub record IsText (start : Start) (n : ℕ) (lines : List (List ℕ)) (told : List ℕ) (found : Option ℕ) : Type 0 where
  pub said : List (ℕ × Event)
  pub say : Say IsLine n lines said found
  pub chronicle : Chronicle
  pub is_theirs : IsChronicle start said chronicle
  pub text_is : told ≡ text chronicle

-- ---- a line that is answered in part

-- Some of what is due up to the moment comes, one thing after the other, each when it is due first.
pub data Does (start : Start) (end : ℕ) : Chronicle → Chronicle → Type 0 where
  none_came : {c : Chronicle} → Does start end c c
  came : {c d e : Chronicle} (at : ℕ) → Does start end c d → NextDue start d at → at ≤ end → Comes at start d e → Does start end c e

-- From a chronicle on, the text of some of what is due up to the event of a line is a beginning of the answer to the line.
pub record BeginsAnswer (start : Start) (c : Chronicle) (line told : List ℕ) : Type 0 where
  pub at : ℕ
  pub event : Event
  pub says : Says IsLine line at event
  pub reached : Chronicle
  pub does : Does start at c reached
  pub text_is : text reached ≡ text c ++ told

-- the text of lines, by the chronicle that they lead to
abbrev pub IsTextTo : Start → Chronicle → ℕ → List (List ℕ) → List ℕ → Option ℕ → Type 0
IsTextTo start chronicle n lines told found = (theirs : IsText start n lines told found) × (theirs.chronicle ≡ chronicle)

-- The text of the first few lines, with nothing or a beginning of the answer to the next line behind it.
abbrev pub IsFront : Start → Fronts
IsFront start = UpInto (IsTextTo start) (BeginsAnswer start)
