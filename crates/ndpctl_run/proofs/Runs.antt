-- What lines lead a node to.
use Rattle.std.proofs.Common.{◌≡◌, ◌≤◌, ℕ, ◌+◌, List, [], ◌∷◌, ◌++◌, refl, sym, ap, subst, ◌∙◌, append_assoc, append-nil, inl, inr}
use Rattle.std.specs.Prelude.{◌⊎◌, Option}
use Rattle.std.specs.List.{flat_map}
use Rattle.rand_core.specs.Stream.{Stream}
use Rattle.nd_lines.specs.Answers.{ComesFirst, EndsWell}
use Rattle.nd_lines.specs.Told.{TellsFrontOf}
use Rattle.nd_lines.specs.ToldLaws.{Allows, LeadsOn}
use Rattle.nd_lines.proofs.RunLemmas.{TellsFront-nothing}
use Rattle.nd_chronicle.specs.Start.{Start}
use Rattle.nd_chronicle.specs.Happening.{Chronicle}
use Rattle.nd_chronicle.specs.Event as events
use Rattle.nd_chronicle.specs.Growth.{Grows}
use Rattle.nd_chronicle.specs.History.{Runs, IsChronicle, beginning}
use Rattle.nd_chronicle.specs.Told as chronicle
use Rattle.nd_chronicle.specs.Told.{text}
use Rattle.nd_out.specs.declared.out.Out.{Out}
use Rattle.nd_out.specs.Out.{told, happening}
use Rattle.nd_steps.specs.Outputs.{happenings}
use Rattle.nd_steps.proofs.Reading.{Tells-text}
use Rattle.nd_node.specs.declared.node.Node.{Node}
use Rattle.nd_chronicle.specs.Answer.{Answer}
use Rattle.nd_node.specs.Event.{FollowsBy}
use Rattle.nd_node.specs.Node.{NextDue}
use Rattle.nd_node.specs.NodeKept.{Stands}
use Rattle.nd_node.specs.Time as time
use Rattle.ndpctl_run.specs.Line.{IsLine}
use Rattle.ndpctl_run.specs.Script.{BeginsAnswer, IsFront, IsText, IsTextTo, came, none_came}
use Rattle.ndpctl_run.specs.ScriptKept.{Leads}
use Rattle.ndpctl_run.specs.Answer.{AnswersEvent, AnswersInPart}
use Rattle.ndpctl_run.specs.Said.{Say, SayFrom, Says, says}
use Rattle.ndpctl_run.proofs.InPart.{line_through}
use Rattle.ndpctl_run.proofs.Said.{OneReading, say_begins}

-- ---- the answer to an event

-- the text of what is reported is that of what happened
told_is : {A : Type 0} (outs : List (ℕ × Out A)) → told outs ≡ flat_map chronicle.lines_of (happenings outs)
told_is [] = refl
told_is (o ∷ outs) = ap (λ l. chronicle.lines_of (o.0, happening o.1) ++ l) (told_is outs)

pub event_answered : {R A : Type 0} (stream : R → Stream) (old new : Node R A) (at : ℕ) (event : events.Event) (outs : List (ℕ × Out A)) (before after : List ℕ) {answer : Answer}
    → time.Leads stream old new [] outs (FollowsBy at event answer) → after ≡ before ++ told outs → AnswersEvent stream old new at event before after
event_answered stream old new at event outs before after {answer} leads written = record {
  told = told outs;
  written = written;
  each = λ start c s.
      let l = leads.each start c s in
      (l.0, l.1.0, l.2, Tells-text c l.0 [] outs l.3 ∙ ap (λ t. text c ++ t) (ap (flat_map chronicle.lines_of) (sym l.3.outs) ∙ sym (told_is outs)));
}

-- the answer to what is due first
pub turn_answered : {R A : Type 0} (stream : R → Stream) (old new : Node R A) (first end : ℕ) (outs : List (ℕ × Out A)) (before after : List ℕ) → first ≤ end
    → ((start : Start) (c : Chronicle) → Stands stream start old c → NextDue start c first) → time.Leads stream old new [] outs (time.Comes first) → after ≡ before ++ told outs
    → AnswersInPart stream old new end before after
turn_answered stream old new first end outs before after le due leads written = record {
  told = told outs;
  written = written;
  each = λ start c s.
      let l = leads.each start c s in
      (l.0, came first none_came (due start c s) le l.1, l.2, Tells-text c l.0 [] outs l.3 ∙ ap (λ t. text c ++ t) (ap (flat_map chronicle.lines_of) (sym l.3.outs) ∙ sym (told_is outs)));
}

-- a line that says an event comes before what later lines say
pub event_first : {R A : Type 0} (stream : R → Stream) (old new : Node R A) (line : List ℕ) (at : ℕ) (event : events.Event) (before after : List ℕ) → Says IsLine line at event
    → (a : AnswersEvent stream old new at event before after) → ComesFirst (Leads stream old) (Leads stream new) line a.told
event_first stream old new line at event before after said a end n lines later found given = record {
  each = λ start c s.
      let next = a.each start c s in
      let theirs = given.each start next.0 next.2 in
      let on = theirs.0 in (
        record {
          said = (at, event) ∷ on.said;
          say = says at event said on.say;
          end = on.end;
          runs = (next.0, next.1, on.runs);
          text_is = on.text_is ∙ (ap (λ l. l ++ later) next.3 ∙ append_assoc (text c) a.told later);
        },
        theirs.1,
      );
}

-- ---- from the start on

-- what a node that starts tells is the text of a chronicle
pub from_start : {R A : Type 0} (stream : R → Stream) (start : Start) (node later : Node R A) → Stands stream start node (beginning start) → Allows (Leads stream node later) (IsText start)
from_start stream start node later s n lines told found given =
    let on = (given.each start (beginning start) s).0 in
    record { said = on.said; say = on.say; chronicle = on.end; is_theirs = on.runs; text_is = sym on.text_is }

no_text : (start : Start) → EndsWell (IsTextTo start (beginning start))
no_text start n = (record { said = []; say = (refl, refl); chronicle = beginning start; is_theirs = refl; text_is = refl }, refl)

pub nothing_told : (start : Start) (input old : Option (List ℕ)) → TellsFrontOf (IsFront start) input old old
nothing_told start input old = TellsFront-nothing (IsTextTo start) (BeginsAnswer start) (beginning start) input old (no_text start)

-- ---- the first few lines

-- the laws that are asked for
pub record Laws : Type 0 where
  pub one_reading : OneReading IsLine
  pub one_chronicle : (start : Start) (said : List (ℕ × events.Event)) (c d : Chronicle) → IsChronicle start said c → IsChronicle start said d → c ≡ d
  pub rows : (start : Start) (said : List (ℕ × events.Event)) (c d : Chronicle) → Runs start c said d → Grows c d
  pub told : (newer c : Chronicle) → text (newer ++ c) ≡ text c ++ text newer

-- a history leads to where its beginning led, and from there on
runs_split : (start : Start) (xs ys : List (ℕ × events.Event)) (c d : Chronicle) → Runs start c (xs ++ ys) d → (m : Chronicle) × Runs start c xs m × Runs start m ys d
runs_split start [] ys c d r = (c, refl, r)
runs_split start (x ∷ xs) ys c d r =
    let s = runs_split start xs ys r.0 d r.2 in
    (s.0, (r.0, r.1, s.1), s.2)

-- where the first few lines led to, and what is due before the event of the next one led on, all lines lead through it
reached : Laws → (start : Start) (c d : Chronicle) (said : List (ℕ × events.Event)) (n : ℕ) (later : List (List ℕ)) (found : Option ℕ) (part : List ℕ) → Say IsLine n later said found → Runs start c said d
    → (part ≡ []) ⊎ ((line : List ℕ) × (rest : List (List ℕ)) × (later ≡ line ∷ rest) × BeginsAnswer start c line part) → (r : Chronicle) × Runs start r said d × (text r ≡ text c ++ part)
reached laws start c d said n later found part say runs (inl none) = (c, runs, sym (append-nil (text c)) ∙ ap (λ t. text c ++ t) (sym none))
reached laws start c d said n later found part say runs (inr begun) =
    let b = begun.3 in
    let from : SayFrom IsLine n begun.0 (Say IsLine (n + 1) begun.1) said found = subst (λ (l : List (List ℕ)). Say IsLine n l said found) begun.2 say in
    (b.reached, line_through start laws.one_reading begun.0 b.at b.event b.says c b.reached b.does n (Say IsLine (n + 1) begun.1) said found d from runs, b.text_is)

-- a text of the first few lines begins each text of them all, also with a beginning of the answer to the next line
pub start_goes_on : Laws → (start : Start) → LeadsOn (IsText start) (IsFront start)
start_goes_on laws start n first later all few found f g =
    let theirs = g.is_theirs.0 in
    let begins = say_begins IsLine laws.one_reading first later n f.said theirs.said found f.say theirs.say in
    let split = runs_split start theirs.said begins.0 (beginning start) f.chronicle (subst (λ (s : List (ℕ × events.Event)). Runs start (beginning start) s f.chronicle) begins.1 f.is_theirs) in
    let same : split.0 ≡ g.end = laws.one_chronicle start theirs.said split.0 theirs.chronicle split.1 theirs.is_theirs ∙ g.is_theirs.1 in
    let there = reached laws start g.end f.chronicle begins.0 begins.2.0 later found g.part begins.2.1 (subst (λ (m : Chronicle). Runs start m begins.0 f.chronicle) same split.2) g.begun in
    let grows = laws.rows start begins.0 there.0 f.chronicle there.1 in
    let few_is : few ≡ text there.0 = g.told_is ∙ (ap (λ t. t ++ g.part) (theirs.text_is ∙ ap text g.is_theirs.1) ∙ sym there.2) in
    (text grows.newer, f.text_is ∙ (ap text grows.all ∙ (laws.told grows.newer there.0 ∙ ap (λ t. t ++ text grows.newer) (sym few_is))))
