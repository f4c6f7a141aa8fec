-- A line that is answered in part: some of what is due before its event comes first.
use Rattle.std.proofs.Common.{◌≡◌, ℕ, ◌+◌, ◌<◌, ◌≤◌, List, [], ◌∷◌, ◌++◌, refl, sym, ap, subst, ◌∙◌, append_assoc, arith, ⊎_elim, inl, inr}
use Rattle.std.specs.Prelude.{◌⊎◌, Bool, false, nat_lt, MatchBool, Option, Some, None, ⊤}
use Rattle.std.proofs.lemmas.Bool.{cases_lt}
use Rattle.std.proofs.lemmas.Option.{same_Some}
use Rattle.rand_core.specs.Stream.{Stream}
use Rattle.nd_lines.specs.Answers.{UpInto, TellsPart}
use Rattle.nd_lines.specs.ToldLaws.{AllowsFront}
use Rattle.nd_chronicle.specs.Start.{Start}
use Rattle.nd_chronicle.specs.Happening.{Chronicle, Passed, TooLate, last_moment}
use Rattle.nd_chronicle.specs.Due.{What, Due, comes}
use Rattle.nd_chronicle.specs.Event as events
use Rattle.nd_chronicle.specs.Event.{EventAdds}
use Rattle.nd_chronicle.specs.History.{Walk, over, adds, passes, Follows, Runs, beginning}
use Rattle.nd_chronicle.specs.Told.{text}
use Rattle.nd_chronicle.proofs.Dues.{none_in, one_due}
use Rattle.nd_chronicle.proofs.Idle.{idle_passes}
use Rattle.nd_node.specs.declared.node.Node.{Node}
use Rattle.nd_node.specs.NodeKept.{Stands}
use Rattle.nd_node.specs.Time.{Comes}
use Rattle.nd_node.proofs.Walks.{last_of}
use Rattle.ndpctl_run.specs.Line.{IsLine}
use Rattle.ndpctl_run.specs.Answer.{AnswersInPart}
use Rattle.ndpctl_run.specs.Said.{SayFrom, Says, Say, stops, says}
use Rattle.ndpctl_run.specs.Script.{Does, none_came, came, RunsOn, IsTextTo, IsFront}
use Rattle.ndpctl_run.specs.ScriptKept.{Begins, Leads}
use Rattle.ndpctl_run.proofs.Said.{OneReading}

not_before : (now last : ℕ) → last ≤ now → nat_lt now last ≡ false
not_before now last le = grind (arith, le)

module _ (start : Start) where
  -- ---- a walk over the milliseconds goes through what comes first

  -- a walk goes past the milliseconds in which nothing is due
  skips : {c e : Chronicle} {moment end : ℕ} (first : ℕ) → ((m : ℕ) → m < first → Due start c m None) → moment ≤ first → first ≤ end → Walk start c moment end e → Walk start c first end e
  skips first idle le within (over past) = absurd (omega (arith, le, within, past))
  skips {c = c} {e = e} {moment = moment} {end = end} first idle le within (adds what soon due w) = ⊎_elim
      (λ before. absurd (none_in what (one_due start c moment (Some what) None due (idle moment before))))
      (λ after. let same : moment ≡ first = omega (arith, le, after) in subst (λ (m : ℕ). Walk start c m end e) same (adds what soon due w))
      (cases_lt moment first)
  skips {c = c} {e = e} {moment = moment} {end = end} first idle le within (passes soon none w) = ⊎_elim
      (λ before. skips first idle (omega (arith, before)) within w)
      (λ after. let same : moment ≡ first = omega (arith, le, after) in subst (λ (m : ℕ). Walk start c m end e) same (passes soon none w))
      (cases_lt moment first)

  -- and through what is due
  comes_first : {c e : Chronicle} {at end : ℕ} (what : What) → Due start c at (Some what) → at ≤ end → Walk start c at end e → Walk start (comes start at what c) at end e
  comes_first what due le (over past) = absurd (omega (arith, le, past))
  comes_first {c = c} {at = at} what due le (passes soon none w) = absurd (none_in what (one_due start c at (Some what) None due none))
  comes_first {c = c} {e = e} {at = at} {end = end} what due le (adds other soon due' w) =
      let same : other ≡ what = same_Some other what (one_due start c at (Some other) (Some what) due' due) in
      subst (λ (x : What). Walk start (comes start at x c) at end e) same w

  -- ---- some of what is due comes

  came_at : (c d : Chronicle) (at : ℕ) → Comes at start c d → last_moment start.at d ≡ at
  came_at c d at come = ap (last_moment start.at) come.2 ∙ last_of start c at come.0 come.1

  module _ (end : ℕ) where
    -- what is left to walk from there is what is left to walk
    does_onward : {c d : Chronicle} → Does start end c d → (e : Chronicle) → Walk start d (last_moment start.at d) end e → Walk start c (last_moment start.at c) end e
    does_onward none_came e w = w
    does_onward (came {d = d} {e = f} at before due le come) e w =
        does_onward before e (idle_passes start d e at end due.nothing_before (last_moment start.at d) due.not_past (omega (arith, le)) (rest w))
      where
        rest : Walk start f (last_moment start.at f) end e → Walk start d at end e
        rest then = adds come.0 le come.1 (subst (λ (b : Chronicle). Walk start b at end e) come.2 (subst (λ (m : ℕ). Walk start f m end e) (came_at d f at come) then))

    -- each walk goes through there
    does_through : {c d : Chronicle} → Does start end c d → (e : Chronicle) → Walk start c (last_moment start.at c) end e → Walk start d (last_moment start.at d) end e
    does_through none_came e w = w
    does_through (came {d = d} {e = f} at before due le come) e w =
        let there = comes_first come.0 come.1 le (skips at due.nothing_before due.not_past le (does_through before e w)) in
        subst (λ (m : ℕ). Walk start f m end e) (sym (came_at d f at come)) (subst (λ (b : Chronicle). Walk start b at end e) (sym come.2) there)

    -- it is nothing, or none of it is late
    does_early : {c d : Chronicle} → Does start end c d → (c ≡ d) ⊎ ((last_moment start.at c ≤ end) × (last_moment start.at d ≤ end))
    does_early none_came = inl refl
    does_early {c = c} (came {d = d} {e = f} at before due le come) = ⊎_elim
        (λ same. inr (subst (λ (x : Chronicle). last_moment start.at x ≤ end) (sym same) (omega (arith, due.not_past, le)), there))
        (λ early. inr (early.0, there))
        (does_early before)
      where
        there : last_moment start.at f ≤ end
        there = subst (λ (m : ℕ). m ≤ end) (sym (came_at d f at come)) le

    -- more of it
    pub does_both : {c d e : Chronicle} → Does start end c d → Does start end d e → Does start end c e
    does_both first none_came = first
    does_both first (came at before due le come) = came at (does_both first before) due le come

    -- ---- an event after it

    abbrev Late : Chronicle → Chronicle → Type 0
    Late c d = d ≡ (end, TooLate (last_moment start.at c)) ∷ c

    abbrev InTime : events.Event → Chronicle → Chronicle → Type 0
    InTime event c d = (m : Chronicle) × Walk start c (last_moment start.at c) end m × EventAdds start end event ((end, Passed) ∷ m) d

    in_time : (event : events.Event) (c d : Chronicle) → last_moment start.at c ≤ end → InTime event c d → Follows start c end event d
    in_time event c d early then = subst (λ (b : Bool). MatchBool b (Late c d) (InTime event c d)) (sym (not_before end (last_moment start.at c) early)) then

    was_in_time : (event : events.Event) (c d : Chronicle) → last_moment start.at c ≤ end → Follows start c end event d → InTime event c d
    was_in_time event c d early then = subst (λ (b : Bool). MatchBool b (Late c d) (InTime event c d)) (not_before end (last_moment start.at c) early) then

    follows_onward : (c d e : Chronicle) (event : events.Event) → Does start end c d → Follows start d end event e → Follows start c end event e
    follows_onward c d e event does then = ⊎_elim
        (λ same. subst (λ (x : Chronicle). Follows start x end event e) (sym same) then)
        (λ early. let t = was_in_time event d e early.1 then in in_time event c e early.0 (t.0, does_onward does t.0 t.1, t.2))
        (does_early does)

    follows_through : (c d e : Chronicle) (event : events.Event) → Does start end c d → Follows start c end event e → Follows start d end event e
    follows_through c d e event does then = ⊎_elim
        (λ same. subst (λ (x : Chronicle). Follows start x end event e) same then)
        (λ early. let t = was_in_time event c e early.0 then in in_time event d e early.1 (t.0, does_through does t.0 t.1, t.2))
        (does_early does)

  -- ---- the line, and what later lines say

  module _ (one : OneReading IsLine) (line : List ℕ) (at : ℕ) (event : events.Event) (said_so : Says IsLine line at event) (c d : Chronicle) (does : Does start at c d) where
    pub line_onward : (n : ℕ) (Later : List (ℕ × events.Event) → Option ℕ → Type 0) (said : List (ℕ × events.Event)) (found : Option ℕ) (e : Chronicle)
        → SayFrom IsLine n line Later said found → Runs start d said e → Runs start c said e
    line_onward n Later said found e (stops none) runs = absurd (none at event said_so)
    line_onward n Later said found e (says at' event' s l) runs =
        let same : at ≡ at' = (one line at at' event event' said_so.spelled s.spelled).0 in
        (runs.0, follows_onward at' c d runs.0 event' (subst (λ (m : ℕ). Does start m c d) same does) runs.1, runs.2)

    pub line_through : (n : ℕ) (Later : List (ℕ × events.Event) → Option ℕ → Type 0) (said : List (ℕ × events.Event)) (found : Option ℕ) (e : Chronicle)
        → SayFrom IsLine n line Later said found → Runs start c said e → Runs start d said e
    line_through n Later said found e (stops none) runs = absurd (none at event said_so)
    line_through n Later said found e (says at' event' s l) runs =
        let same : at ≡ at' = (one line at at' event event' said_so.spelled s.spelled).0 in
        (runs.0, follows_through at' c d runs.0 event' (subst (λ (m : ℕ). Does start m c d) same does) runs.1, runs.2)

-- ---- a part of the answer to a line

-- what it reports comes before what is left of the answer
pub part_told : {R A : Type 0} (stream : R → Stream) (Script : Type 0) (node_of : Script → Node R A) (before after : Script) (line : List ℕ) (at : ℕ) (event : events.Event) (old new : List ℕ) → OneReading IsLine → Says IsLine line at event
    → AnswersInPart stream (node_of before) (node_of after) at old new
    → TellsPart (λ script later. Leads stream (node_of script) (node_of later)) (λ script line told. Begins stream (node_of script) line told) (λ _ _ _ _. ⊤) before after line old new
part_told stream Script node_of before after line at event old new one said_so a = record {
  told = a.told;
  written = a.written;
  on = λ end n lines more found given. record {
    each = λ start c s.
        let first = a.each start c s in
        let theirs = given.each start first.0 first.2 in
        let on = theirs.0 in (
          record {
            said = on.said;
            say = on.say;
            end = on.end;
            runs = line_onward start one line at event said_so c first.0 first.1 n (Say IsLine (n + 1) lines) on.said found on.end on.say on.runs;
            text_is = on.text_is ∙ (ap (λ l. l ++ more) first.3 ∙ append_assoc (text c) a.told more);
          },
          theirs.1,
        );
  };
  begun = record {
    each = λ start c s.
        let first = a.each start c s in
        record { at = at; event = event; says = said_so; reached = first.0; does = first.1; text_is = first.3 };
  };
  further = λ more given. record {
    each = λ start c s.
        let first = a.each start c s in
        let then = given.each start first.0 first.2 in
        let same : at ≡ then.at = (one line at then.at event then.event said_so.spelled then.says.spelled).0 in
        record {
          at = then.at;
          event = then.event;
          says = then.says;
          reached = then.reached;
          does = does_both start then.at (subst (λ (m : ℕ). Does start m c first.0) same first.1) then.does;
          text_is = then.text_is ∙ (ap (λ l. l ++ more) first.3 ∙ append_assoc (text c) a.told more);
        };
  };
  stops = λ later why given. given;
}

-- ---- from the start on

-- what a node that starts tells, up into a line, is the beginning of a text
pub front_from_start : {R A : Type 0} (stream : R → Stream) (Script : Type 0) (node_of : Script → Node R A) (start : Start) (first_one : Script) → Stands stream start (node_of first_one) (beginning start)
    → AllowsFront (UpInto (λ later. Leads stream (node_of first_one) (node_of later)) (λ script line told. Begins stream (node_of script) line told)) (IsFront start)
front_from_start {R} {A} stream Script node_of start first_one s n first later told given = by given.begun
  where
    to : (on : RunsOn start (beginning start) n first given.text None) × Stands stream start (node_of given.end) on.end
    to = given.is_theirs.each start (beginning start) s

    theirs : IsTextTo start to.0.end n first given.text None
    theirs = (record { said = to.0.said; say = to.0.say; chronicle = to.0.end; is_theirs = to.0.runs; text_is = sym to.0.text_is }, refl)

    by : (given.part ≡ []) ⊎ ((line : List ℕ) × (rest : List (List ℕ)) × (later ≡ line ∷ rest) × Begins stream (node_of given.end) line given.part) → IsFront start n first later told
    by (inl none) = record { end = to.0.end; text = given.text; part = given.part; told_is = given.told_is; is_theirs = theirs; begun = inl none }
    by (inr begun) = record {
      end = to.0.end;
      text = given.text;
      part = given.part;
      told_is = given.told_is;
      is_theirs = theirs;
      begun = inr (begun.0, begun.1, begun.2, begun.3.each start to.0.end to.1);
    }
