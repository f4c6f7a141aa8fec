-- What was written so far, what waits in the text, and what is unread, are the whole.
use Rattle.std.proofs.Common.{◌≡◌, ◌<◌, ◌+◌, ℕ, List, [], ◌∷◌, ◌++◌, length, take, drop, Option, Some, None, refl, sym, ap, subst, ◌∙◌, append_assoc, append-nil, inl, inr}
use Rattle.std.proofs.Math.Path.{subst₂}
use Rattle.std.specs.Prelude.{⊤, ◌⊎◌}
use Rattle.std.specs.Io.KnownBytes.{Appends, Keeps, IsAtEnd, prepend_known}
use Rattle.nd_lines.specs.Ahead.{IsWholeLine}
use Rattle.nd_lines.specs.Answers.{Texts, TextsTo, Begins, Fails, UpInto, IsPart, ComesFirst, Tells, TellsPart, TellsUpTo, EndsWell, IsMalformed}
use Rattle.nd_lines.specs.Lines.{lines_of, ended, HasLongLine, longest_line}
use Rattle.nd_lines.specs.Told.{TellsLines, TellsFirst, TellsAll, TellsFrontOf, TellsAsRead, TellsBefore, TellsUntilIn}
use Rattle.nd_lines.specs.Written.{AppendsFront, AppendsUpTo}
use Rattle.nd_lines.specs.declared.answering.Unanswered.{Unanswered}
use Rattle.nd_lines.proofs.LinesLemmas.{line_first, cut_on}
use Rattle.nd_lines.proofs.WrittenLemmas.{Appends-both, Appends-nothing, AppendsFront-more, AppendsFront-after, AppendsFront-nothing, AppendsUpTo-more}

-- some lines were taken, and what was written and what waits are their text; the next line has the number n
pub record IsAlong {T : Type 0} (texts texts' : TextsTo T) (all hand rest : List ℕ) (old new : Option (List ℕ)) (waiting : List ℕ) (n : ℕ) : Type 0 where
  pub lines : List (List ℕ)
  pub done : List ℕ
  pub written : Appends old new done
  pub read : all ≡ ended lines ++ (hand ++ rest)
  pub each : (more : List ℕ) → lines_of (ended lines ++ more) ≡ lines ++ lines_of more
  pub told : (end : T) (more : List (List ℕ)) (text : List ℕ) (found : Option ℕ) → texts' end n more text found → texts end 1 (lines ++ more) (done ++ (waiting ++ text)) found

-- the same where the bytes are known
abbrev pub IsAlongIn : {T : Type 0} → TextsTo T → TextsTo T → Option (List ℕ) → List ℕ → Option (List ℕ) → Option (List ℕ) → Option (List ℕ) → List ℕ → ℕ → Type 0
IsAlongIn texts texts' None hand rest old new waiting n = ⊤
IsAlongIn texts texts' (Some all) hand None old new waiting n = ⊥
IsAlongIn texts texts' (Some all) hand (Some rest) old new waiting n = IsAlong texts texts' all hand rest old new waiting n

-- the same as a record, so that its terms are found from it
pub record Along {T : Type 0} (texts texts' : TextsTo T) (all : Option (List ℕ)) (hand : List ℕ) (rest old new : Option (List ℕ)) (waiting : List ℕ) (n : ℕ) : Type 0 where
  pub state : IsAlongIn texts texts' all hand rest old new waiting n

pub Along-start : {T : Type 0} (texts : TextsTo T) (all old : Option (List ℕ)) (hand waiting : List ℕ) → hand ≡ [] → waiting ≡ [] → Along texts texts all hand all old old waiting 1
Along-start texts None old hand waiting none empty = record { state = tt }
Along-start texts (Some xs) old hand waiting none empty = rw (none, empty) (record {
  state = record { lines = []; done = []; written = Appends-nothing old; read = refl; each = λ more. refl; told = λ end more text found given. given };
})

-- one more line, and what comes behind it
ended_then : (lines : List (List ℕ)) (line rest : List ℕ) → ended (lines ++ line ∷ []) ++ rest ≡ ended lines ++ (line ++ (10 ∷ rest))
ended_then [] line rest = append_assoc line (10 ∷ []) rest
ended_then (first ∷ lines) line rest =
    append_assoc first (10 ∷ ended (lines ++ line ∷ [])) rest ∙ (ap (λ (l : List ℕ). first ++ (10 ∷ l)) (ended_then lines line rest) ∙ sym (append_assoc first (10 ∷ ended lines) (line ++ (10 ∷ rest))))

-- a line was answered and taken
pub Along-answered : {T : Type 0} (texts texts' texts'' : TextsTo T) (all : Option (List ℕ)) (hand hand' : List ℕ) (rest old mid new : Option (List ℕ)) (waiting waiting' : List ℕ) (n count : ℕ) → Along texts texts' all hand rest old mid waiting n → IsWholeLine hand count → TellsUpTo texts' texts'' (take count hand) mid new waiting waiting' → hand' ≡ drop (count + 1) hand → Along texts texts'' all hand' rest old new waiting' (n + 1)
Along-answered texts texts' texts'' None hand hand' rest old mid new waiting waiting' n count along whole told taken = record { state = tt }
Along-answered texts texts' texts'' (Some xs) hand hand' None old mid new waiting waiting' n count along whole told taken = absurd along.state
Along-answered texts texts' texts'' (Some xs) hand hand' (Some ys) old mid new waiting waiting' n count along whole told taken =
    let a = along.state in
    let line : List ℕ = take count hand in
    let answer = told.0 in
    let out = told.1.0 in
    let cut : hand ++ ys ≡ line ++ (10 ∷ (hand' ++ ys)) = cut_on hand ys count whole ∙ ap (λ (l : List ℕ). line ++ (10 ∷ (l ++ ys))) (sym taken) in
    record {
      state = record {
        lines = a.lines ++ line ∷ [];
        done = a.done ++ out;
        written = Appends-both old mid new a.done out (a.done ++ out) a.written told.1.2 refl;
        read = a.read ∙ (ap (λ (l : List ℕ). ended a.lines ++ l) cut ∙ sym (ended_then a.lines line (hand' ++ ys)));
        each = λ more. ap lines_of (ended_then a.lines line more) ∙ (a.each (line ++ (10 ∷ more)) ∙ (ap (λ (l : List (List ℕ)). a.lines ++ l) (whole.one more) ∙ sym (append_assoc a.lines (line ∷ []) (lines_of more))));
        told = λ end more text found given. subst₂ (λ (ls : List (List ℕ)) (t : List ℕ). texts end 1 ls t found)
            (sym (append_assoc a.lines (line ∷ []) more)) (moved a.done out answer text told.1.1)
            (a.told end (line ∷ more) (answer ++ text) found (told.2 end n more text found given));
      };
    }
  where
    moved : (done out answer later : List ℕ) → waiting ++ answer ≡ out ++ waiting' → done ++ (waiting ++ (answer ++ later)) ≡ (done ++ out) ++ (waiting' ++ later)
    moved done out answer later is =
        ap (λ (l : List ℕ). done ++ l) (sym (append_assoc waiting answer later) ∙ (ap (λ (l : List ℕ). l ++ later) is ∙ append_assoc out waiting' later)) ∙ sym (append_assoc done out (waiting' ++ later))

after_waiting : (done waiting waiting' text : List ℕ) → waiting' ≡ [] → done ++ (waiting ++ text) ≡ (done ++ waiting) ++ (waiting' ++ text)
after_waiting done waiting waiting' text empty = rw empty (sym (append_assoc done waiting text))

-- a beginning of what waits is one with the text of no line
pub TellsFirst-waiting : {T : Type 0} (texts : TextsTo T) (begins : Begins T) (end : T) (n : ℕ) (lines : List (List ℕ)) (waiting : List ℕ) (old new : Option (List ℕ)) → EndsWell (texts end) → AppendsFront old new waiting → TellsFirst (UpInto texts begins) n lines waiting old new
TellsFirst-waiting texts begins end n lines waiting old new ends front = record {
  first = [];
  later = lines;
  lines_are = refl;
  text = [];
  is_theirs = record { end = end; text = []; part = []; told_is = refl; is_theirs = ends n; begun = inl refl };
  written = AppendsFront-more old new waiting [] front;
}

-- the first few of some lines are the first few of more
TellsFirst-more : {T : Type 0} (texts : TextsTo T) (begins : Begins T) (n : ℕ) (lines more all : List (List ℕ)) (waiting : List ℕ) (old new : Option (List ℕ)) → all ≡ lines ++ more → TellsFirst (UpInto texts begins) n lines waiting old new → TellsFirst (UpInto texts begins) n all waiting old new
TellsFirst-more {T} texts begins n lines more all waiting old new is front =
    let f = front.is_theirs in
    record {
      first = front.first;
      later = front.later ++ more;
      lines_are = is ∙ (ap (λ (l : List (List ℕ)). l ++ more) front.lines_are ∙ append_assoc front.first front.later more);
      text = front.text;
      is_theirs = record { end = f.end; text = f.text; part = f.part; told_is = f.told_is; is_theirs = f.is_theirs; begun = on f.end f.part f.begun };
      written = front.written;
    }
  where
    on : (end : T) (part : List ℕ) → (part ≡ []) ⊎ ((line : List ℕ) × (rest : List (List ℕ)) × (front.later ≡ line ∷ rest) × begins end line part)
        → (part ≡ []) ⊎ ((line : List ℕ) × (rest : List (List ℕ)) × (front.later ++ more ≡ line ∷ rest) × begins end line part)
    on end part (inl none) = inl none
    on end part (inr begun) = inr (begun.0, begun.1 ++ more, ap (λ (l : List (List ℕ)). l ++ more) begun.2, begun.3)

-- the run stops at the first of some lines
pub TellsBefore-first : {T : Type 0} (texts : TextsTo T) (begins : Begins T) (Stops : T → List ℕ → Type 0) (end : T) (n : ℕ) (line : List ℕ) (later lines : List (List ℕ)) (old new : Option (List ℕ)) (part : List ℕ) → lines ≡ line ∷ later → EndsWell (texts end) → IsPart begins end line part → Appends old new part → Stops end line → TellsBefore texts begins Stops n lines old new
TellsBefore-first texts begins Stops end n line later lines old new part are ends begun written stopped = record {
  first = [];
  line = line;
  later = later;
  lines_are = are;
  end = end;
  text = [];
  is_theirs = ends n;
  part = part;
  begun = begun;
  written = written;
  stops = stopped;
}

-- a part behind what was written, what waits and a text
behind_both : (done waiting text part : List ℕ) → (done ++ (waiting ++ text)) ++ part ≡ done ++ (waiting ++ (text ++ part))
behind_both done waiting text part =
    append_assoc done (waiting ++ text) part ∙ ap (λ (l : List ℕ). done ++ l) (append_assoc waiting text part)

module _ {T : Type 0} (texts texts' : TextsTo T) where
  -- what waited was written
  pub Along-written : (all : Option (List ℕ)) (hand : List ℕ) (rest old mid new : Option (List ℕ)) (waiting waiting' : List ℕ) (n : ℕ) → Along texts texts' all hand rest old mid waiting n → Appends mid new waiting → waiting' ≡ [] → Along texts texts' all hand rest old new waiting' n
  Along-written None hand rest old mid new waiting waiting' n along written empty = record { state = tt }
  Along-written (Some xs) hand None old mid new waiting waiting' n along written empty = absurd along.state
  Along-written (Some xs) hand (Some ys) old mid new waiting waiting' n along written empty =
      let a = along.state in
      record {
        state = record {
          lines = a.lines;
          done = a.done ++ waiting;
          written = Appends-both old mid new a.done waiting (a.done ++ waiting) a.written written refl;
          read = a.read;
          each = a.each;
          told = λ end more text found given. subst (λ (t : List ℕ). texts end 1 (a.lines ++ more) t found) (after_waiting a.done waiting waiting' text empty) (a.told end more text found given);
        };
      }

  -- reading ahead changes nothing that is unread
  pub Along-kept : (all : Option (List ℕ)) (hand hand' : List ℕ) (rest rest' old new : Option (List ℕ)) (waiting : List ℕ) (n : ℕ) → Along texts texts' all hand rest old new waiting n → Keeps (prepend_known hand rest) (prepend_known hand' rest') → Along texts texts' all hand' rest' old new waiting n
  Along-kept None hand hand' rest rest' old new waiting n along kept = record { state = tt }
  Along-kept (Some xs) hand hand' None rest' old new waiting n along kept = absurd along.state
  Along-kept (Some xs) hand hand' (Some ys) None old new waiting n along kept = absurd kept
  Along-kept (Some xs) hand hand' (Some ys) (Some zs) old new waiting n along kept =
      let a = along.state in
      record {
        state = record { lines = a.lines; done = a.done; written = a.written; read = a.read ∙ ap (λ (l : List ℕ). ended a.lines ++ l) (sym kept); each = a.each; told = a.told };
      }

  -- where a read fails once what waited is written, all that was read is answered
  pub Along-answered_as_read : (all : Option (List ℕ)) (hand : List ℕ) (rest rest' old new : Option (List ℕ)) (waiting : List ℕ) (n : ℕ) → Along texts texts' all hand rest old new waiting n → waiting ≡ [] → (0 < length hand → lines_of hand ≡ hand ∷ []) → Keeps rest rest' → (end : T) → EndsWell (texts' end) → TellsAsRead (texts end) all rest' old new
  Along-answered_as_read None hand rest rest' old new waiting n along empty one kept end ends = tt
  Along-answered_as_read (Some xs) hand None rest' old new waiting n along empty one kept end ends = absurd along.state
  Along-answered_as_read (Some xs) hand (Some ys) None old new waiting n along empty one kept end ends = absurd kept
  Along-answered_as_read (Some xs) hand (Some ys) (Some zs) old new waiting n along empty one kept end ends =
      let a = along.state in
      record {
        lines = a.lines;
        beginning = hand;
        input_is = a.read ∙ ap (λ (l : List ℕ). ended a.lines ++ (hand ++ l)) (sym kept);
        lines_are = ap lines_of (sym (append-nil (ended a.lines))) ∙ (a.each [] ∙ append-nil a.lines);
        beginning_is = one;
        told = record {
          text = a.done;
          is_theirs = subst₂ (λ (ls : List (List ℕ)) (t : List ℕ). texts end 1 ls t None) (append-nil a.lines) (rw empty (append-nil a.done)) (a.told end [] [] None (ends n));
          written = a.written;
        };
      }

  -- a text of the lines that are left goes on with what was told
  told_all : (xs hand ys : List ℕ) (old new : Option (List ℕ)) (waiting : List ℕ) (n : ℕ) (a : IsAlong texts texts' xs hand ys old new waiting n) (end : T) (text : List ℕ) (found : Option ℕ) → texts' end n (lines_of (hand ++ ys)) text found → texts end 1 (lines_of xs) (a.done ++ (waiting ++ text)) found
  told_all xs hand ys old new waiting n a end text found given =
      subst (λ (ls : List (List ℕ)). texts end 1 ls (a.done ++ (waiting ++ text)) found) (sym (ap lines_of a.read ∙ a.each (hand ++ ys))) (a.told end (lines_of (hand ++ ys)) text found given)

  -- a malformed line that comes next ends the run once what waited is written
  stops : (xs hand ys : List ℕ) (old mid new : Option (List ℕ)) (waiting : List ℕ) (n : ℕ) (line : List ℕ) (lines : List (List ℕ)) → IsAlong texts texts' xs hand ys old mid waiting n → lines_of (hand ++ ys) ≡ line ∷ lines → (end : T) → IsMalformed (texts' end) line → Appends mid new waiting → TellsAll (texts end) (Some xs) old new (Some n)
  stops xs hand ys old mid new waiting n line lines a found end bad written = record {
    text = a.done ++ (waiting ++ []);
    is_theirs = told_all xs hand ys old mid waiting n a end [] (Some n) (subst (λ (ls : List (List ℕ)). texts' end n ls [] (Some n)) (sym found) (bad n lines));
    written = Appends-both old mid new a.done waiting (a.done ++ (waiting ++ [])) a.written written (ap (λ (l : List ℕ). a.done ++ l) (sym (append-nil waiting)));
  }

  pub Along-long : (all : Option (List ℕ)) (hand : List ℕ) (rest old mid new : Option (List ℕ)) (waiting : List ℕ) (n : ℕ) → Along texts texts' all hand rest old mid waiting n → ((more : List ℕ) → HasLongLine (hand ++ more)) → (end : T) → ((line : List ℕ) → longest_line < length line → IsMalformed (texts' end) line) → Appends mid new waiting → TellsAll (texts end) all old new (Some n)
  Along-long None hand rest old mid new waiting n along long end law written = tt
  Along-long (Some xs) hand None old mid new waiting n along long end law written = absurd along.state
  Along-long (Some xs) hand (Some ys) old mid new waiting n along long end law written =
      let found = long ys in
      stops xs hand ys old mid new waiting n found.0 found.1 along.state found.2 end (law found.0 found.3) written

  pub Along-malformed : (all : Option (List ℕ)) (hand : List ℕ) (rest old mid new : Option (List ℕ)) (waiting : List ℕ) (n count : ℕ) → Along texts texts' all hand rest old mid waiting n → IsWholeLine hand count → (end : T) → IsMalformed (texts' end) (take count hand) → Appends mid new waiting → TellsAll (texts end) all old new (Some n)
  Along-malformed None hand rest old mid new waiting n count along whole end bad written = tt
  Along-malformed (Some xs) hand None old mid new waiting n count along whole end bad written = absurd along.state
  Along-malformed (Some xs) hand (Some ys) old mid new waiting n count along whole end bad written =
      stops xs hand ys old mid new waiting n (take count hand) _ along.state (line_first hand ys count whole) end bad written

  -- a beginning of what is left is one of the whole
  Along-front : (begins : Begins T) (xs hand ys : List ℕ) (old mid new : Option (List ℕ)) (waiting : List ℕ) (n : ℕ) → IsAlong texts texts' xs hand ys old mid waiting n → TellsFirst (UpInto texts' begins) n (lines_of (hand ++ ys)) waiting mid new → TellsFrontOf (UpInto texts begins) (Some xs) old new
  Along-front begins xs hand ys old mid new waiting n a front =
      let f = front.is_theirs in
      record {
        first = a.lines ++ front.first;
        later = front.later;
        lines_are = ap lines_of a.read ∙ (a.each (hand ++ ys) ∙ (ap (λ (l : List (List ℕ)). a.lines ++ l) front.lines_are ∙ sym (append_assoc a.lines front.first front.later)));
        text = a.done ++ (waiting ++ front.text);
        is_theirs = record {
          end = f.end;
          text = a.done ++ (waiting ++ f.text);
          part = f.part;
          told_is = ap (λ (l : List ℕ). a.done ++ (waiting ++ l)) f.told_is ∙ sym (behind_both a.done waiting f.text f.part);
          is_theirs = a.told f.end front.first f.text None f.is_theirs;
          begun = f.begun;
        };
        written = AppendsFront-after old mid new (a.done ++ (waiting ++ front.text)) (waiting ++ front.text) (a.done, refl, a.written) front.written;
      }

  pub Along-waiting_front : (begins : Begins T) (all : Option (List ℕ)) (hand : List ℕ) (rest old mid new : Option (List ℕ)) (waiting : List ℕ) (n : ℕ) → Along texts texts' all hand rest old mid waiting n → (end : T) → EndsWell (texts' end) → AppendsFront mid new waiting → TellsFrontOf (UpInto texts begins) all old new
  Along-waiting_front begins None hand rest old mid new waiting n along end ends front = tt
  Along-waiting_front begins (Some xs) hand None old mid new waiting n along end ends front = absurd along.state
  Along-waiting_front begins (Some xs) hand (Some ys) old mid new waiting n along end ends front =
      Along-front begins xs hand ys old mid new waiting n along.state (TellsFirst-waiting texts' begins end n (lines_of (hand ++ ys)) waiting mid new ends front)

  pub Along-line_front : (begins : Begins T) (all : Option (List ℕ)) (hand : List ℕ) (rest old mid new : Option (List ℕ)) (waiting : List ℕ) (n count : ℕ) → Along texts texts' all hand rest old mid waiting n → IsWholeLine hand count → TellsFirst (UpInto texts' begins) n (take count hand ∷ []) waiting mid new → TellsFrontOf (UpInto texts begins) all old new
  Along-line_front begins None hand rest old mid new waiting n count along whole front = tt
  Along-line_front begins (Some xs) hand None old mid new waiting n count along whole front = absurd along.state
  Along-line_front begins (Some xs) hand (Some ys) old mid new waiting n count along whole front =
      Along-front begins xs hand ys old mid new waiting n along.state (TellsFirst-more texts' begins n (take count hand ∷ []) _ _ waiting mid new (line_first hand ys count whole) front)

  pub Along-end_front : (begins : Begins T) (all : Option (List ℕ)) (hand : List ℕ) (rest old mid new : Option (List ℕ)) (waiting : List ℕ) (n : ℕ) → Along texts texts' all hand rest old mid waiting n → waiting ≡ [] → IsAtEnd rest → TellsFirst (UpInto texts' begins) n (lines_of hand) [] mid new → TellsFrontOf (UpInto texts begins) all old new
  Along-end_front begins None hand rest old mid new waiting n along empty ended front = tt
  Along-end_front begins (Some xs) hand None old mid new waiting n along empty ended front = absurd along.state
  Along-end_front begins (Some xs) hand (Some ys) old mid new waiting n along empty ended front =
      let last : hand ++ ys ≡ hand = ap (λ (l : List ℕ). hand ++ l) ended ∙ append-nil hand in
      Along-front begins xs hand ys old mid new waiting n along.state (rw (empty, last) front)

  -- the text of the last line completes the whole
  pub Along-end : (all : Option (List ℕ)) (hand : List ℕ) (rest old mid new : Option (List ℕ)) (waiting : List ℕ) (n : ℕ) (found : Option ℕ) → Along texts texts' all hand rest old mid waiting n → waiting ≡ [] → IsAtEnd rest → (end : T) → TellsLines (texts' end) n (lines_of hand) mid new found → TellsAll (texts end) all old new found
  Along-end None hand rest old mid new waiting n found along empty ended end told = tt
  Along-end (Some xs) hand None old mid new waiting n found along empty ended end told = absurd along.state
  Along-end (Some xs) hand (Some ys) old mid new waiting n found along empty ended end told =
      let a = along.state in
      let last : hand ≡ hand ++ ys = sym (ap (λ (l : List ℕ). hand ++ l) ended ∙ append-nil hand) in
      record {
        text = a.done ++ (waiting ++ told.text);
        is_theirs = told_all xs hand ys old mid waiting n a end told.text found (subst (λ (l : List ℕ). texts' end n (lines_of l) told.text found) last told.is_theirs);
        written = Appends-both old mid new a.done told.text (a.done ++ (waiting ++ told.text)) a.written told.written (rw empty refl);
      }

  -- the run stops at a line that has no answer, once what waited is written
  stops_at : (begins : Begins T) (Stops : T → List ℕ → Type 0) (xs hand ys : List ℕ) (old mid new : Option (List ℕ)) (waiting : List ℕ) (n : ℕ) → IsAlong texts texts' xs hand ys old mid waiting n → TellsBefore texts' begins Stops n (lines_of (hand ++ ys)) mid new → waiting ≡ [] → TellsUntilIn texts begins Stops (Some xs) old new
  stops_at begins Stops xs hand ys old mid new waiting n a told empty = record {
    first = a.lines ++ told.first;
    line = told.line;
    later = told.later;
    lines_are = ap lines_of a.read ∙ (a.each (hand ++ ys) ∙ (ap (λ (l : List (List ℕ)). a.lines ++ l) told.lines_are ∙ sym (append_assoc a.lines told.first (told.line ∷ told.later))));
    end = told.end;
    text = a.done ++ (waiting ++ told.text);
    is_theirs = a.told told.end told.first told.text None told.is_theirs;
    part = told.part;
    begun = told.begun;
    written = Appends-both old mid new a.done (told.text ++ told.part) ((a.done ++ (waiting ++ told.text)) ++ told.part) a.written told.written (rw empty (sym (append_assoc a.done told.text told.part)));
    stops = told.stops;
  }

  pub Along-stopped : (begins : Begins T) (Stops : T → List ℕ → Type 0) (all : Option (List ℕ)) (hand : List ℕ) (rest old mid new : Option (List ℕ)) (waiting : List ℕ) (n count : ℕ) → Along texts texts' all hand rest old mid waiting n → IsWholeLine hand count → (end : T) → EndsWell (texts' end) → (part : List ℕ) → IsPart begins end (take count hand) part → Appends mid new (waiting ++ part) → Stops end (take count hand) → TellsUntilIn texts begins Stops all old new
  Along-stopped begins Stops None hand rest old mid new waiting n count along whole end ends part begun written stopped = tt
  Along-stopped begins Stops (Some xs) hand None old mid new waiting n count along whole end ends part begun written stopped = absurd along.state
  Along-stopped begins Stops (Some xs) hand (Some ys) old mid new waiting n count along whole end ends part begun written stopped =
      let a = along.state in
      record {
        first = a.lines;
        line = take count hand;
        later = lines_of (drop (count + 1) hand ++ ys);
        lines_are = ap lines_of a.read ∙ (a.each (hand ++ ys) ∙ ap (λ (l : List (List ℕ)). a.lines ++ l) (line_first hand ys count whole));
        end = end;
        text = a.done ++ waiting;
        is_theirs = subst₂ (λ (ls : List (List ℕ)) (t : List ℕ). texts end 1 ls t None) (append-nil a.lines) (ap (λ (l : List ℕ). a.done ++ l) (append-nil waiting)) (a.told end [] [] None (ends n));
        part = part;
        begun = begun;
        written = Appends-both old mid new a.done (waiting ++ part) ((a.done ++ waiting) ++ part) a.written written (sym (append_assoc a.done waiting part));
        stops = stopped;
      }

  pub Along-end_stopped : (begins : Begins T) (Stops : T → List ℕ → Type 0) (all : Option (List ℕ)) (hand : List ℕ) (rest old mid new : Option (List ℕ)) (waiting : List ℕ) (n : ℕ) → Along texts texts' all hand rest old mid waiting n → waiting ≡ [] → IsAtEnd rest → TellsBefore texts' begins Stops n (lines_of hand) mid new → TellsUntilIn texts begins Stops all old new
  Along-end_stopped begins Stops None hand rest old mid new waiting n along empty ended told = tt
  Along-end_stopped begins Stops (Some xs) hand None old mid new waiting n along empty ended told = absurd along.state
  Along-end_stopped begins Stops (Some xs) hand (Some ys) old mid new waiting n along empty ended told =
      let last : hand ++ ys ≡ hand = ap (λ (l : List ℕ). hand ++ l) ended ∙ append-nil hand in
      stops_at begins Stops xs hand ys old mid new waiting n along.state (rw last told) empty

pub TellsFront-nothing : {T : Type 0} (texts : TextsTo T) (begins : Begins T) (end : T) (all old : Option (List ℕ)) → EndsWell (texts end) → TellsFrontOf (UpInto texts begins) all old old
TellsFront-nothing texts begins end None old ends = tt
TellsFront-nothing texts begins end (Some xs) old ends = TellsFirst-waiting texts begins end 1 (lines_of xs) [] old old ends (AppendsFront-nothing old [])

-- a beginning of a text with the answer to a line
pub TellsFirst-told : {T : Type 0} (texts texts' : TextsTo T) (begins : Begins T) (end : T) (n : ℕ) (line old_text told : List ℕ) (old new : Option (List ℕ)) → EndsWell (texts' end) → ComesFirst texts texts' line told → AppendsFront old new (old_text ++ told) → TellsFirst (UpInto texts begins) n (line ∷ []) old_text old new
TellsFirst-told texts texts' begins end n line old_text told old new ends comes front = record {
  first = line ∷ [];
  later = [];
  lines_are = refl;
  text = told ++ [];
  is_theirs = record { end = end; text = told ++ []; part = []; told_is = sym (append-nil (told ++ [])); is_theirs = comes end n [] [] None (ends (n + 1)); begun = inl refl };
  written = subst (λ (t : List ℕ). AppendsFront old new (old_text ++ t)) (sym (append-nil told)) front;
}

-- the same for the answer to one last line
pub TellsFirst-last : {T : Type 0} (texts texts' : TextsTo T) (begins : Begins T) (end : T) (n : ℕ) (line : List ℕ) (old mid new : Option (List ℕ)) (before after : List ℕ) → EndsWell (texts' end) → before ≡ [] → TellsUpTo texts texts' line old mid before after → AppendsFront mid new after → TellsFirst (UpInto texts begins) n (line ∷ []) [] old new
TellsFirst-last texts texts' begins end n line old mid new before after ends empty told front =
    TellsFirst-told texts texts' begins end n line [] told.0 old new ends told.2 (AppendsFront-after old mid new told.0 after (rw empty at told.1) front)

-- the answer to one last line is its text
pub TellsLines-last : {T : Type 0} (texts texts' : TextsTo T) (end : T) (n : ℕ) (line : List ℕ) (old mid new : Option (List ℕ)) (before after : List ℕ) → EndsWell (texts' end) → before ≡ [] → TellsUpTo texts texts' line old mid before after → Appends mid new after → TellsLines (texts end) n (line ∷ []) old new None
TellsLines-last texts texts' end n line old mid new before after ends empty told written = record {
  text = told.0 ++ [];
  is_theirs = told.2 end n [] [] None (ends (n + 1));
  written =
      let front = rw empty at told.1 in
      Appends-both old mid new front.0 after (told.0 ++ []) front.2 written (sym front.1 ∙ sym (append-nil told.0));
}

-- one last line that is malformed has no text
pub TellsLines-malformed : (texts : Texts) (n : ℕ) (line : List ℕ) (old new : Option (List ℕ)) → IsMalformed texts line → Appends old new [] → TellsLines texts n (line ∷ []) old new (Some n)
TellsLines-malformed texts n line old new bad written = record { text = []; is_theirs = bad n []; written = written }

-- ---- a line that is answered in parts

module _ {T : Type 0} (texts : T → TextsTo T) (begins : Begins T) (fails : Fails T) where
  -- parts of the answer to a line came behind what waited, a front of which was written, and the rest of it waits
  pub record SoFar (first now : T) (line : List ℕ) (old new : Option (List ℕ)) (text waiting : List ℕ) : Type 0 where
    pub told : List ℕ
    pub written : AppendsUpTo old new (text ++ told) waiting
    pub on : (end : T) (n : ℕ) (lines : List (List ℕ)) (more : List ℕ) (found : Option ℕ) → texts now end n (line ∷ lines) more found → texts first end n (line ∷ lines) (told ++ more) found
    pub begun : IsPart begins first line told
    pub further : (more : List ℕ) → begins now line more → begins first line (told ++ more)
    pub stops : (later : T) (why : Unanswered) → fails now line later why → fails first line later why

  pub SoFar-start : (first : T) (line : List ℕ) (old : Option (List ℕ)) (text : List ℕ) → SoFar first first line old old text text
  SoFar-start first line old text = record {
    told = [];
    written = ([], append-nil text, Appends-nothing old);
    on = λ end n lines more found given. given;
    begun = inl refl;
    further = λ more given. given;
    stops = λ later why given. given;
  }

  module _ (first now : T) (line : List ℕ) (old mid new : Option (List ℕ)) (text waiting : List ℕ) (s : SoFar first now line old mid text waiting) where
    longer : (answer : List ℕ) → AppendsUpTo old mid (text ++ (s.told ++ answer)) (waiting ++ answer)
    longer answer = subst (λ (l : List ℕ). AppendsUpTo old mid l (waiting ++ answer)) (append_assoc text s.told answer) (AppendsUpTo-more old mid (text ++ s.told) waiting answer s.written)

    both : (answer waiting' : List ℕ) → AppendsUpTo mid new (waiting ++ answer) waiting' → AppendsUpTo old new (text ++ (s.told ++ answer)) waiting'
    both answer waiting' then =
        let before = longer answer in
        (before.0 ++ then.0, before.1 ∙ (ap (λ (l : List ℕ). before.0 ++ l) then.1 ∙ sym (append_assoc before.0 then.0 waiting')), Appends-both old mid new before.0 then.0 (before.0 ++ then.0) before.2 then.2 refl)

    -- one more part
    pub SoFar-part : (next : T) (answer waiting' : List ℕ) → TellsPart texts begins fails now next line [] answer → AppendsUpTo mid new (waiting ++ answer) waiting' → SoFar first next line old new text waiting'
    SoFar-part next answer waiting' part then = record {
      told = s.told ++ answer;
      written = both answer waiting' then;
      on = λ end n lines more found given. subst (λ (l : List ℕ). texts first end n (line ∷ lines) l found) (sym (append_assoc s.told answer more))
          (s.on end n lines (answer ++ more) found (subst (λ (l : List ℕ). texts now end n (line ∷ lines) (l ++ more) found) (sym part.written) (part.on end n lines more found given)));
      begun = inr (s.further answer (subst (λ (l : List ℕ). begins now line l) (sym part.written) part.begun));
      further = λ more given. subst (λ (l : List ℕ). begins first line l) (sym (append_assoc s.told answer more)) (s.further (answer ++ more) (subst (λ (l : List ℕ). begins now line (l ++ more)) (sym part.written) (part.further more given)));
      stops = λ later why given. s.stops later why (part.stops later why given);
    }

    -- the rest
    pub SoFar-comes : (next : T) (answer : List ℕ) → Tells (texts now) (texts next) line [] answer → ComesFirst (texts first) (texts next) line (s.told ++ answer)
    SoFar-comes next answer rest = λ end n lines more found given. subst (λ (l : List ℕ). texts first end n (line ∷ lines) l found) (sym (append_assoc s.told answer more))
        (s.on end n lines (answer ++ more) found (subst (λ (l : List ℕ). texts now end n (line ∷ lines) (l ++ more) found) (sym rest.1) (rest.2 end n lines more found given)))

    pub SoFar-whole : (next : T) (answer waiting' : List ℕ) → Tells (texts now) (texts next) line [] answer → AppendsUpTo mid new (waiting ++ answer) waiting' → TellsUpTo (texts first) (texts next) line old new text waiting'
    SoFar-whole next answer waiting' rest then = (s.told ++ answer, both answer waiting' then, SoFar-comes next answer rest)

    -- a write fails
    pub SoFar-front : (answer : List ℕ) → AppendsFront mid new (waiting ++ answer) → AppendsFront old new (text ++ (s.told ++ answer))
    SoFar-front answer front = AppendsFront-after old mid new (text ++ (s.told ++ answer)) (waiting ++ answer) (longer answer) front

    pub SoFar-waiting : AppendsFront mid new waiting → AppendsFront old new (text ++ s.told)
    SoFar-waiting front = AppendsFront-after old mid new (text ++ s.told) waiting s.written front

    -- what waits was written
    pub SoFar-out : Appends mid new waiting → Appends old new (text ++ s.told)
    SoFar-out then = Appends-both old mid new s.written.0 waiting (text ++ s.told) s.written.2 then (sym s.written.1)

-- a beginning of what waits and then of a part of the answer to a line
pub TellsFirst-part : {T : Type 0} (texts : TextsTo T) (begins : Begins T) (end : T) (n : ℕ) (line waiting part : List ℕ) (old new : Option (List ℕ)) → EndsWell (texts end) → IsPart begins end line part → AppendsFront old new (waiting ++ part) → TellsFirst (UpInto texts begins) n (line ∷ []) waiting old new
TellsFirst-part {T} texts begins end n line waiting part old new ends begun front = record {
  first = [];
  later = line ∷ [];
  lines_are = refl;
  text = part;
  is_theirs = record { end = end; text = []; part = part; told_is = refl; is_theirs = ends n; begun = next begun };
  written = front;
}
  where
    next : IsPart begins end line part → (part ≡ []) ⊎ ((l : List ℕ) × (rest : List (List ℕ)) × (line ∷ [] ≡ l ∷ rest) × begins end l part)
    next (inl none) = inl none
    next (inr is) = inr (line, [], refl, is)
