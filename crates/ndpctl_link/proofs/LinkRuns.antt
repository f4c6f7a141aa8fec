-- What lines lead a link to.
use Rattle.std.proofs.Common.{◌≡◌, ◌+◌, ℕ, List, [], ◌∷◌, ◌++◌, Option, Some, None, refl, sym, ap, subst, ◌∙◌, append_assoc}
use Rattle.std.proofs.lemmas.List.{append_cancel_left}
use Rattle.std.proofs.lemmas.List.Elements.{All-append, All-cons}
use Rattle.rand_core.specs.Stream.{Stream}
use Rattle.nd_lines.specs.Answers.{ComesFirst}
use Rattle.nd_lines.specs.Stop.{StopsAt}
use Rattle.nd_lines.specs.Told.{TellsUntil}
use Rattle.nd_lines.specs.ToldLaws.{Allows, GoesOn}
use Rattle.nd_lines.specs.declared.answering.Unanswered.TheVariants as unanswered
use Rattle.nd_node.specs.Limits.{usual_limits}
use Rattle.ndpctl_run.specs.Said.{Says, SaysNothing, says}
use Rattle.ndpctl_run.proofs.Said.{say_begins, say_one}
use Rattle.nd_wire.specs.Wire.{IsFaithful}
use Rattle.nd_link_log.specs.Log.{Log}
use Rattle.nd_link_log.specs.Bytes.{AreOfBytes, IsOfBytes}
use Rattle.nd_link_log.specs.Event.{Event}
use Rattle.nd_link_log.specs.History.{Runs}
use Rattle.nd_link_log.specs.Told.{text}
use Rattle.nd_link_log.proofs.Growth.{newer_of, runs_past}
use Rattle.nd_link_log.proofs.Holding.{one_holder}
use Rattle.nd_link_log.proofs.Sound.{sound}
use Rattle.nd_link_log.proofs.Texts.{grows}
use Rattle.nd_link_log.proofs.Timely.{one_holder as timely_holder}
use Rattle.nd_link_log.proofs.Unique.{one_run}
use Rattle.nd_link.specs.declared.link.Link.{Link}
use Rattle.nd_link.specs.declared.told.Told.{Told}
use Rattle.nd_link.specs.Holder.{StandsForEvents}
use Rattle.nd_link.specs.Link.{Stands}
use Rattle.nd_link.specs.Run.{FollowsBy}
use Rattle.nd_link.specs.Time as time
use Rattle.nd_link.specs.Told.{told_text}
use Rattle.nd_link.proofs.Coming.{runs_then}
use Rattle.nd_link.proofs.Holder.{stands_for_bytes}
use Rattle.nd_link.proofs.Telling.{tells_text}
use Rattle.ndpctl_link.specs.Answer.{AnswersEvent, Passes}
use Rattle.ndpctl_link.specs.Script.{KeepsOneHolder, RunsBetween, RunsOn}
use Rattle.ndpctl_link.specs.ScriptKept.{FailsAt, Leads, RunsTo, WireFailsAt}
use Rattle.ndpctl_link.specs.Line.{IsLinkLine}
use Rattle.ndpctl_link.proofs.LinkLines.{one_link_line}

-- ---- the answer to an event

module _ {W R A : Type 0} (arrives : ℕ → List ℕ → List ℕ → Type 0) (stream : R → Stream) (old new : Link W R A) (at : ℕ) (event : Event) where
  pub event_answered : (told : List (Told A)) (before after : List ℕ) → IsOfBytes event → (IsFaithful arrives → time.Leads stream old new [] told (FollowsBy at event)) → after ≡ before ++ told_text told
      → AnswersEvent arrives stream old new at event before after
  event_answered told before after bytes leads written = record {
    told = told_text told;
    written = written;
    bytes = bytes;
    each = λ faithful log s.
        let l = (leads faithful).each log s in
        (l.0, l.1, l.2, tells_text log l.0 [] told l.3 ∙ ap (λ t. text log ++ told_text t) (sym l.3.all));
  }

  -- what the link reported of the time that passed is not asked for
  pub passed : (x y : List (Told A)) → time.Leads stream old new x y (time.Passes at) → Passes stream old new at
  passed x y leads = record { each = λ log s. let l = leads.each log s in (l.0, l.1, l.2) }

  -- a line that says an event comes before what later lines say
  pub event_first : (line before after : List ℕ) → Says IsLinkLine line at event → (a : AnswersEvent arrives stream old new at event before after) → ComesFirst (Leads arrives stream old) (Leads arrives stream new) line a.told
  event_first line before after said a end n lines later found given = record {
    each = λ faithful log s.
        let next = a.each faithful log s in
        let theirs = given.each faithful next.0 next.2 in
        let on = theirs.on in
        record {
          on = record {
            said = (at, event) ∷ on.said;
            say = says at event said on.say;
            end = on.end;
            runs = (next.0, next.1, on.runs);
            text_is = on.text_is ∙ (ap (λ l. l ++ later) next.3 ∙ append_assoc (text log) a.told later);
          };
          bytes = All-cons (λ (v : ℕ × Event). IsOfBytes v.1) (at, event) on.said a.bytes theirs.bytes;
          stands = theirs.stands;
        };
  }

-- ---- from a log that the link stands for on

module _ {W R A : Type 0} (arrives : ℕ → List ℕ → List ℕ → Type 0) (stream : R → Stream) (link : Link W R A) (log : Log) (faithful : IsFaithful arrives) where
  -- what a link tells is the text from there on, and it stands for where that leads
  pub to_link : (later : Link W R A) → Stands stream link log → Allows (Leads arrives stream link later) (RunsTo stream log later)
  to_link later s n lines told found given = given.each faithful log s

  pub from_log : (later : Link W R A) → Stands stream link log → Allows (Leads arrives stream link later) (RunsOn log)
  from_log later s n lines told found given = (given.each faithful log s).on

  -- and no address is held twice on it
  pub keeps_one : (later : Link W R A) (before : List (ℕ × Event)) → StandsForEvents stream link before log → Allows (Leads arrives stream link later) (KeepsOneHolder stream before later)
  keeps_one later before s n lines told found given =
      let to = given.each faithful log s.stands in
      let whole = before ++ to.on.said in
      let runs = runs_then before to.on.said [] log to.on.end s.runs to.on.runs in
      let bytes : AreOfBytes whole = All-append (λ (v : ℕ × Event). IsOfBytes v.1) before to.on.said s.bytes to.bytes in
      let is_sound = sound usual_limits whole to.on.end runs (bytes, stands_for_bytes stream later to.on.end to.stands) in
      record {
        said = to.on.said;
        say = to.on.say;
        log = to.on.end;
        stands = record { bytes = bytes; runs = runs; stands = to.stands };
        one_holder = λ within timely. timely_holder to.on.end is_sound within timely;
        where_frames_are_lost = λ within little. one_holder to.on.end is_sound within little;
      }

  -- where the wire failed, the text before that line is from there on, and the link stands for what time led to
  pub until_wire : {T : Type 0} (link_of : T → Link W R A) (after : T) → Stands stream link log → (input old new : Option (List ℕ))
      → TellsUntil (λ end. Leads arrives stream link (link_of end)) (StopsAt (λ end line later why. FailsAt stream (link_of end) line (link_of later) why) (SaysNothing IsLinkLine) after unanswered.Wire) input old new
      → TellsUntil (RunsBetween log) (WireFailsAt stream (link_of after)) input old new
  until_wire link_of after s None old new until = tt
  until_wire link_of after s (Some input) old new until =
      let to = until.is_theirs.each faithful log s in
      let fails = until.stops.failed in
      let passed = fails.3.each to.on.end to.stands in
      record {
        first = until.first;
        line = until.line;
        later = until.later;
        lines_are = until.lines_are;
        end = to.on.end;
        text = until.text;
        is_theirs = (to.on, refl);
        part = until.part;
        begun = until.begun;
        written = until.written;
        stops = record { at = fails.0; event = fails.1; says = fails.2; end = passed.0; passes = passed.1; stands = passed.2 };
      }

-- ---- the first few lines

-- events lead to where the first of them led, and from there on
runs_split : (xs ys : List (ℕ × Event)) (log d : Log) → Runs usual_limits log (xs ++ ys) d → (m : Log) × Runs usual_limits log xs m × Runs usual_limits m ys d
runs_split [] ys log d r = (log, refl, r)
runs_split (x ∷ xs) ys log d r =
    let s = runs_split xs ys r.0 d r.2 in
    (s.0, (r.0, r.1, s.1), s.2)

-- a text of the first few lines begins each text of them all
pub log_goes_on : (log : Log) → GoesOn (RunsOn log)
log_goes_on log n first later all few found f g =
    let begins = say_begins IsLinkLine one_link_line first later n f.said g.said found f.say g.say in
    let split = runs_split g.said begins.0 log f.end (subst (λ (s : List (ℕ × Event)). Runs usual_limits log s f.end) begins.1 f.runs) in
    let same = one_run usual_limits g.said log split.0 g.end split.1 g.runs in
    let more = newer_of split.0 f.end (runs_past usual_limits begins.0 split.0 f.end split.2) in
    let whole : text log ++ all ≡ (text log ++ few) ++ text more.0 =
    sym f.text_is ∙ (ap text more.1 ∙ (grows more.0 split.0 ∙ (ap (λ (d : Log). text d ++ text more.0) same ∙ ap (λ t. t ++ text more.0) g.text_is))) in
    (text more.0, append_cancel_left (text log) all (few ++ text more.0) (whole ∙ append_assoc (text log) few (text more.0)))

-- ---- one text

-- lines have one text from a log on, and one malformed line at most
pub text_one : (log : Log) (n : ℕ) (lines : List (List ℕ)) (told other_told : List ℕ) (found other_found : Option ℕ)
    → RunsOn log n lines told found → RunsOn log n lines other_told other_found → (told ≡ other_told) × (found ≡ other_found)
text_one log n lines told other_told found other_found p q =
    let said = say_one IsLinkLine one_link_line lines n p.said q.said found other_found p.say q.say in
    let theirs = subst (λ (s : List (ℕ × Event)). Runs usual_limits log s p.end) said.0 p.runs in
    let same = one_run usual_limits q.said log p.end q.end theirs q.runs in
    (append_cancel_left (text log) told other_told (sym p.text_is ∙ (ap text same ∙ q.text_is)), said.1)
