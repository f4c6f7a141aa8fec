-- Laws of what a run has written, for a caller above: by one relation between lines and texts and by another, and where the beginning of a text is
-- one of each.
use Rattle.std.specs.Prelude.{◌≡◌, ◌⊎◌, ℕ, List, [], ◌∷◌, ◌++◌, Option, Some, None, refl}
use Rattle.std.proofs.Common.{ap, sym, subst, ◌∙◌, append_assoc, append-nil, inl, inr}
use Rattle.nd_lines.specs.Answers.{Texts, TextsTo, TextFor, MalformedFrom, Only, Begins, Fails, Fronts, UpInto, IsPart, Wholly}
use Rattle.nd_lines.specs.Lines.{lines_of}
use Rattle.nd_lines.specs.Run.{WroteFront}
use Rattle.nd_lines.specs.Told.{TellsLines, TellsAll, TellsFrontOf, TellsBeginning, TellsAsRead, TellsUntilIn, TellsToMemoryOf, BreaksOffIn, IsUntouched}
use Rattle.nd_lines.specs.Stop.{StopsAt}
use Rattle.nd_lines.specs.declared.answering.Unanswered.{Unanswered}
use Rattle.nd_lines.specs.Written.{AppendsFront}

-- what the one allows, the other does
abbrev pub Allows : Texts → Texts → Type 0
Allows one other = (n : ℕ) (lines : List (List ℕ)) (text : List ℕ) (found : Option ℕ) → one n lines text found → other n lines text found

tells_lines_by : (one other : Texts) → Allows one other → (n : ℕ) (lines : List (List ℕ)) (old new : Option (List ℕ)) (found : Option ℕ) → TellsLines one n lines old new found → TellsLines other n lines old new found
tells_lines_by one other allows n lines old new found told =
    record { text = told.text; is_theirs = allows n lines told.text found told.is_theirs; written = told.written }

-- what was written is a text of all lines by the other relation too
pub tells_all_by : (one other : Texts) → Allows one other → (input old new : Option (List ℕ)) (found : Option ℕ) → TellsAll one input old new found → TellsAll other input old new found
tells_all_by one other allows None old new found told = tt
tells_all_by one other allows (Some input) old new found told = tells_lines_by one other allows 1 (lines_of input) old new found told

-- the same of texts of the first few lines
abbrev pub AllowsFront : Fronts → Fronts → Type 0
AllowsFront one other = (n : ℕ) (first later : List (List ℕ)) (text : List ℕ) → one n first later text → other n first later text

-- where a beginning of the answer to a line is none, lines are answered whole
pub in_part_wholly : {T : Type 0} (one : TextsTo T) (other : Texts) → ((end : T) → Allows (one end) other) → AllowsFront (UpInto one (λ _ _ _. ⊥)) (Wholly other)
in_part_wholly {T} one other allows n first later told given = by given.begun
  where
    by : (given.part ≡ []) ⊎ ((line : List ℕ) × (rest : List (List ℕ)) × (later ≡ line ∷ rest) × ⊥) → other n first told None
    by (inl none) = subst (λ (t : List ℕ). other n first t None) (sym (given.told_is ∙ (ap (λ (l : List ℕ). given.text ++ l) none ∙ append-nil given.text))) (allows given.end n first given.text None given.is_theirs)
    by (inr begun) = absurd begun.3

-- the same of a beginning of a text of the first few
pub tells_front_by : (one other : Fronts) → AllowsFront one other → (input old new : Option (List ℕ)) → TellsFrontOf one input old new → TellsFrontOf other input old new
tells_front_by one other allows None old new front = tt
tells_front_by one other allows (Some input) old new front =
    record { first = front.first; later = front.later; lines_are = front.lines_are; text = front.text; is_theirs = allows 1 front.first front.later front.text front.is_theirs; written = front.written }

-- the same of what was read
pub tells_as_read_by : (one other : Texts) → Allows one other → (input rest old new : Option (List ℕ)) → TellsAsRead one input rest old new → TellsAsRead other input rest old new
tells_as_read_by one other allows None rest old new read = tt
tells_as_read_by one other allows (Some input) None old new read = absurd read
tells_as_read_by one other allows (Some input) (Some rest) old new read =
    record { lines = read.lines; beginning = read.beginning; input_is = read.input_is; lines_are = read.lines_are; beginning_is = read.beginning_is; told = tells_lines_by one other allows 1 read.lines old new None read.told }

-- the same of what was written where memory was refused, at whatever state of what answers lines
broken_off : {T : Type 0} (one : TextsTo T) (begins : Begins T) (other : Fronts) (fails : Fails T) (IsMalformedLine : List ℕ → Type 0) (after : T) (why : Unanswered) → AllowsFront (UpInto one begins) other → (input old new : Option (List ℕ))
    → TellsUntilIn one begins (StopsAt fails IsMalformedLine after why) input old new → BreaksOffIn other IsMalformedLine input old new
broken_off one begins other fails IsMalformedLine after why allows None old new until = tt
broken_off {T} one begins other fails IsMalformedLine after why allows (Some input) old new until = record {
  first = until.first;
  line = until.line;
  later = until.later;
  lines_are = until.lines_are;
  text = until.text ++ until.part;
  is_theirs = allows 1 until.first (until.line ∷ until.later) (until.text ++ until.part)
      (record { end = until.end; text = until.text; part = until.part; told_is = refl; is_theirs = until.is_theirs; begun = next until.begun });
  written = until.written;
  well_formed = until.stops.well_formed;
}
  where
    next : IsPart begins until.end until.line until.part → (until.part ≡ []) ⊎ ((line : List ℕ) × (rest : List (List ℕ)) × (until.line ∷ until.later ≡ line ∷ rest) × begins until.end line until.part)
    next (inl none) = inl none
    next (inr begun) = inr (until.line, until.later, refl, begun)

pub tells_to_memory : {T : Type 0} (one : TextsTo T) (begins : Begins T) (other : Fronts) (fails : Fails T) (IsMalformedLine : List ℕ → Type 0) (after : T) (why : Unanswered) → AllowsFront (UpInto one begins) other → (input rest old new : Option (List ℕ))
    → IsUntouched input rest old new ⊎ TellsUntilIn one begins (StopsAt fails IsMalformedLine after why) input old new → TellsToMemoryOf other IsMalformedLine input rest old new
tells_to_memory one begins other fails IsMalformedLine after why allows input rest old new (inl untouched) = inl untouched
tells_to_memory one begins other fails IsMalformedLine after why allows input rest old new (inr until) =
    inr (broken_off one begins other fails IsMalformedLine after why allows input old new until)

-- such a text of the first few lines begins each text of them all
abbrev pub LeadsOn : Texts → Fronts → Type 0
LeadsOn texts fronts =
    (n : ℕ) (first later : List (List ℕ)) (text told : List ℕ) (found : Option ℕ) → texts n (first ++ later) text found → fronts n first later told → (more : List ℕ) × (text ≡ told ++ more)

-- the same of whole lines
abbrev pub GoesOn : Texts → Type 0
GoesOn texts = LeadsOn texts (Wholly texts)

-- so a beginning of such a text of the first few is one of each text of them all
pub tells_beginning : (texts : Texts) (fronts : Fronts) → LeadsOn texts fronts → (input old new : Option (List ℕ)) → TellsFrontOf fronts input old new → TellsBeginning texts input old new
tells_beginning texts fronts goes_on None old new front = tt
tells_beginning texts fronts goes_on (Some input) old new front = λ text found given.
    let later = goes_on 1 front.first front.later text front.text found (subst (λ (lines : List (List ℕ)). texts 1 lines text found) front.lines_are given) front.is_theirs in
    let left = front.written in
    (left.0 ++ later.0, (left.1.0, later.1 ∙ (ap (λ (l : List ℕ). l ++ later.0) left.1.1 ∙ append_assoc left.1.0 left.0 later.0), left.1.2))

-- where the text is a function of the lines, a beginning of it is one of each
pub wrote_beginning : (text : TextFor) (malformed : MalformedFrom) (input old new : Option (List ℕ)) → WroteFront text input old new → TellsBeginning (Only text malformed) input old new
wrote_beginning text malformed None old new front = tt
wrote_beginning text malformed (Some input) old new front = λ told found given. subst (λ (t : List ℕ). AppendsFront old new t) (sym given.0) front

-- and what is a beginning of each is one of it
pub begins_the_text : (text : TextFor) (malformed : MalformedFrom) (input old new : Option (List ℕ)) → TellsBeginning (Only text malformed) input old new → WroteFront text input old new
begins_the_text text malformed None old new begins = tt
begins_the_text text malformed (Some input) old new begins = begins (text (lines_of input)) (malformed 1 (lines_of input)) (refl, refl)
