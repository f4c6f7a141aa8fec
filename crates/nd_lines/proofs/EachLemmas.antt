-- The text of lines that are answered each by itself, and that of the first few of them.
use Rattle.std.proofs.Common.{◌≡◌, ◌+◌, ℕ, List, [], ◌∷◌, ◌++◌, Option, Some, None, refl, sym, ap, ◌∙◌, append_assoc}
use Rattle.nd_lines.specs.Each.{answer_within, told_before, malformed_or, text_of_each, malformed_of_each}
use Rattle.nd_lines.specs.Answers.{Only, Wholly}
use Rattle.nd_lines.specs.Lines.{lines_of}
use Rattle.nd_lines.specs.Run.{WroteFront}
use Rattle.nd_lines.specs.Told.{TellsFront}
use Rattle.nd_lines.specs.ToldLaws.{GoesOn, tells_beginning, begins_the_text}

-- an answer, and none of the later lines malformed
told_first : (answer : Option (List ℕ)) (n : ℕ) (found : Option ℕ) (first later all : List ℕ) → malformed_or answer n found ≡ None → (found ≡ None → all ≡ first ++ later) → told_before answer all ≡ told_before answer first ++ later
told_first None n found first later all none step = absurd (cc)
told_first (Some told) n found first later all none step = ap (λ (l : List ℕ). told ++ l) (step none) ∙ sym (append_assoc told first later)

-- where none of the first few is malformed, their text comes first
text_goes_on : (answer_to : List ℕ → Option (List ℕ)) (n : ℕ) (first later : List (List ℕ)) → malformed_of_each answer_to n first ≡ None → text_of_each answer_to (first ++ later) ≡ text_of_each answer_to first ++ text_of_each answer_to later
text_goes_on answer_to n [] later none = refl
text_goes_on answer_to n (line ∷ first) later none =
    told_first (answer_within answer_to line) n (malformed_of_each answer_to (n + 1) first) (text_of_each answer_to first) (text_of_each answer_to later) (text_of_each answer_to (first ++ later)) none (text_goes_on answer_to (n + 1) first later)

each_goes_on : (answer_to : List ℕ → Option (List ℕ)) → GoesOn (Only (text_of_each answer_to) (malformed_of_each answer_to))
each_goes_on answer_to n first later text told found all few =
    (text_of_each answer_to later, all.0 ∙ (text_goes_on answer_to n first later few.1 ∙ ap (λ (l : List ℕ). l ++ text_of_each answer_to later) (sym few.0)))

-- a beginning of the text of the first few lines is one of the text of all
pub WroteFront-each : (answer_to : List ℕ → Option (List ℕ)) (input old new : Option (List ℕ)) → TellsFront (Only (text_of_each answer_to) (malformed_of_each answer_to)) input old new → WroteFront (text_of_each answer_to) input old new
WroteFront-each answer_to input old new front =
    let texts = Only (text_of_each answer_to) (malformed_of_each answer_to) in
    begins_the_text (text_of_each answer_to) (malformed_of_each answer_to) input old new (tells_beginning texts (Wholly texts) (each_goes_on answer_to) input old new front)

-- the lines before the first malformed one, which have the whole text
record Answered (answer_to : List ℕ → Option (List ℕ)) (n : ℕ) (lines : List (List ℕ)) : Type 0 where
  first : List (List ℕ)
  later : List (List ℕ)
  lines_are : lines ≡ first ++ later
  text_is : text_of_each answer_to lines ≡ text_of_each answer_to first
  none : malformed_of_each answer_to n first ≡ None

answered_before : (answer_to : List ℕ → Option (List ℕ)) (n : ℕ) (line : List ℕ) (lines : List (List ℕ)) (answer : Option (List ℕ)) → answer_within answer_to line ≡ answer → Answered answer_to (n + 1) lines → Answered answer_to n (line ∷ lines)
answered_before answer_to n line lines None is rest =
    record { first = []; later = line ∷ lines; lines_are = refl; text_is = ap (λ (a : Option (List ℕ)). told_before a (text_of_each answer_to lines)) is; none = refl }
answered_before answer_to n line lines (Some told) is rest = record {
  first = line ∷ rest.first;
  later = rest.later;
  lines_are = ap (λ (l : List (List ℕ)). line ∷ l) rest.lines_are;
  text_is = ap (told_before (answer_within answer_to line)) rest.text_is;
  none = ap (λ (a : Option (List ℕ)). malformed_or a n (malformed_of_each answer_to (n + 1) rest.first)) is ∙ rest.none;
}

answered : (answer_to : List ℕ → Option (List ℕ)) (n : ℕ) (lines : List (List ℕ)) → Answered answer_to n lines
answered answer_to n [] = record { first = []; later = []; lines_are = refl; text_is = refl; none = refl }
answered answer_to n (line ∷ lines) = answered_before answer_to n line lines (answer_within answer_to line) refl (answered answer_to (n + 1) lines)

-- and a beginning of the text of all lines is one of theirs
pub TellsFront-each : (answer_to : List ℕ → Option (List ℕ)) (input old new : Option (List ℕ)) → WroteFront (text_of_each answer_to) input old new → TellsFront (Only (text_of_each answer_to) (malformed_of_each answer_to)) input old new
TellsFront-each answer_to None old new front = tt
TellsFront-each answer_to (Some input) old new front =
    let those = answered answer_to 1 (lines_of input) in
    record { first = those.first; later = those.later; lines_are = those.lines_are; text = text_of_each answer_to (lines_of input); is_theirs = (those.text_is, those.none); written = front }
