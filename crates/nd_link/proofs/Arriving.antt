-- An event comes to a link: it is refused, or comes to one of its nodes.
use Rattle.std.proofs.Common.{◌≡◌, ◌≢◌, ℕ, ◌<◌, ◌≤◌, List, [], ◌∷◌, ◌++◌, length, set, append-nil, Option, Some, None, refl, sym, ◌∙◌, ap, subst, arith}
use Rattle.std.specs.Prelude.{slice_get}
use Rattle.std.specs.List.{flat_map}
use Rattle.std.proofs.lemmas.Option.{slice_get_within}
use Rattle.rand_core.specs.Stream.{Stream}
use Rattle.nd_chronicle.specs.Event as events
use Rattle.nd_chronicle.specs.Event.{EventAdds}
use Rattle.nd_chronicle.specs.Happening as chronicle
use Rattle.nd_chronicle.specs.Happening.{Chronicle, Passed}
use Rattle.nd_chronicle.specs.Told.{items, items_at}
use Rattle.nd_chronicle.proofs.Growth.{event_grows}
use Rattle.nd_out.specs.declared.out.Out.{Out}
use Rattle.nd_steps.specs.Outputs as effects
use Rattle.nd_steps.specs.Outputs.{frames_in, happenings}
use Rattle.nd_node.specs.declared.node.Node.{Node}
use Rattle.nd_chronicle.specs.Answer.{Answer}
use Rattle.nd_node.specs.EventKept.{AddsEvent}
use Rattle.nd_node.specs.NodeKept as node
use Rattle.nd_node.specs.NodeKept.{next_of}
use Rattle.nd_link_log.specs.Log as logs
use Rattle.nd_link_log.specs.Log.{Log, Refuses, adding, chronicle_of, last_moment, nodes, start_of}
use Rattle.nd_link_log.specs.Told.{node_reports, reports, reports_of}
use Rattle.nd_link_log.proofs.Moments.{EachAt, each_in, moment_with, newest_moment}
use Rattle.nd_link.specs.declared.link.Link.{Link}
use Rattle.nd_link.specs.declared.told.Told.{Told}
use Rattle.nd_link.specs.Arrival.{Arrives, IsRefused, carrying, reached}
use Rattle.nd_link.specs.Frames.{frames, kept_frames, of_sender}
use Rattle.nd_link.specs.Link.{NodeStands, NodesStand, OthersStand, Stands}
use Rattle.nd_link.specs.Passing.{OthersPass}
use Rattle.nd_link.specs.Time.{Leads}
use Rattle.nd_link.specs.declared.refusal.Refusal.{Refusal}
use Rattle.nd_link.specs.declared.refusal.Refusal.TheVariants as refusals
use Rattle.nd_link.specs.Told.{Tells, TellsReports, refusal_of}
use Rattle.nd_link.proofs.Passage.{chronicle_reached, frames_reached, moment_reached, others_reached, start_reached, reports_reached}
use Rattle.nd_link.proofs.Standing.{all_of, rows_stand}
use Rattle.nd_link.proofs.Telling.{frames_of_rows, reports_of_rows}
use Rattle.nd_link.proofs.Walks.{told_of_reports}

-- time passes at all nodes
pub all_reached : {W R A : Type 0} (stream : R → Stream) (old new : Link W R A) (now but : ℕ) → OthersPass stream now but old.nodes.items new.nodes.items → length new.nodes.items ≤ but → new.frames ≡ old.frames
    → new.last ≡ now → old.last ≤ now → (log : Log) → Stands stream old log → Stands stream new (reached now log)
all_reached {W} {R} {A} stream old new now but p le frames_are last_is in_time log s =
    let before : last_moment log ≤ now = subst (λ (m : ℕ). m ≤ now) s.last in_time in
    let all = all_of stream new.nodes.items (reached now log) now but le (others_reached stream old.nodes.items new.nodes.items log (last_moment log) now but s.nodes before p) in record {
      nodes = subst (NodesStand stream new.nodes.items (reached now log)) (sym (moment_reached now log)) all;
      frames = ap (λ f. kept_frames f.items) frames_are ∙ s.frames ∙ sym (frames_reached now log);
      last = last_is ∙ sym (moment_reached now log);
    }

-- ---- a refusal

pub refused_moment : (now : ℕ) (why : logs.Refusal) (log : Log) → ((last : ℕ) → why ≢ logs.TooLate last) → last_moment (Refuses now why ∷ log) ≡ now
refused_moment now (logs.TooLate last) log not_late = absurd (not_late last refl)
refused_moment now logs.NoNode log not_late = refl
refused_moment now logs.NoFrame log not_late = refl
refused_moment now logs.Own log not_late = refl
refused_moment now logs.Full log not_late = refl

pub no_late_refusal : (why : Refusal) → ((last : ℕ) → why ≢ refusals.TooLate last) → (last : ℕ) → refusal_of why ≢ logs.TooLate last
no_late_refusal (refusals.TooLate late) not_late last = absurd (not_late late refl)
no_late_refusal refusals.NoNode not_late last = λ e. let no : ⊥ = cc in no
no_late_refusal refusals.NoFrame not_late last = λ e. let no : ⊥ = cc in no
no_late_refusal refusals.Own not_late last = λ e. let no : ⊥ = cc in no
no_late_refusal refusals.Full not_late last = λ e. let no : ⊥ = cc in no

-- the nodes stand for it as before
pub nodes_refused : {R A : Type 0} (stream : R → Stream) (list : List (Node R A)) (log : Log) (last now at : ℕ) (why : logs.Refusal) → last ≡ now → NodesStand stream list log last
    → NodesStand stream list (Refuses at why ∷ log) now
nodes_refused stream list log last now at why same s = record {
  count = s.count;
  each = λ i n is.
      let o = s.each i n is in record {
        start = o.start;
        starts = o.starts;
        stands = o.stands;
        by_then = subst (λ (m : ℕ). chronicle.last_moment o.start.at (chronicle_of i log) ≤ m) same o.by_then;
        ahead = subst (λ (m : ℕ). m ≤ next_of n) same o.ahead;
      };
  absent = λ i le. let a = s.absent i le in record { starts = a.starts; rows = a.rows };
}

pub refused_leads : {W R A : Type 0} (stream : R → Stream) (old new : Link W R A) (x y : List (Told A)) (now : ℕ) (why : logs.Refusal) → ((last : ℕ) → why ≢ logs.TooLate last)
    → ((log : Log) → Stands stream old log → Stands stream new (reached now log)) → TellsReports x y (reports_of (Refuses now why)) → Leads stream old new x y (IsRefused now why)
refused_leads stream old new x y now why not_late reaches t = record {
  each = λ log s.
      let r = reaches log s in
      let moment = refused_moment now why (reached now log) not_late in (
        Refuses now why ∷ reached now log,
        refl,
        record {
          nodes = nodes_refused stream new.nodes.items (reached now log) (last_moment (reached now log)) (last_moment (Refuses now why ∷ reached now log)) now why (moment_reached now log ∙ sym moment) r.nodes;
          frames = r.frames;
          last = r.last ∙ (moment_reached now log ∙ sym moment);
        },
        told_of_reports log (Refuses now why ∷ reached now log) x y (reports_of (Refuses now why)) t (ap (λ l. l ++ reports_of (Refuses now why)) (reports_reached now log)),
      );
}

-- ---- at a node, with a frame that is carried to it or not

module _ (now node_number : ℕ) (log : Log) where
  start_carrying : (carried : Option ℕ) (i : ℕ) → start_of i (carrying now node_number carried log) ≡ start_of i log
  start_carrying None i = refl
  start_carrying (Some number) i = refl

  chronicle_carrying : (carried : Option ℕ) (i : ℕ) → chronicle_of i (carrying now node_number carried log) ≡ chronicle_of i log
  chronicle_carrying None i = refl
  chronicle_carrying (Some number) i = refl

  frames_carrying : (carried : Option ℕ) → frames (carrying now node_number carried log) ≡ frames log
  frames_carrying None = refl
  frames_carrying (Some number) = refl

  reports_carrying : (carried : Option ℕ) → reports (carrying now node_number carried log) ≡ reports log
  reports_carrying None = refl
  reports_carrying (Some number) = append-nil (reports log)

  moment_carrying : (carried : Option ℕ) → last_moment log ≡ now → last_moment (carrying now node_number carried log) ≡ now
  moment_carrying None e = e
  moment_carrying (Some number) e = refl

  others_carrying : {R A : Type 0} (stream : R → Stream) (list : List (Node R A)) (but : ℕ) (carried : Option ℕ) → OthersStand stream list log now but
      → OthersStand stream list (carrying now node_number carried log) now but
  others_carrying stream list but None s = s
  others_carrying stream list but (Some number) s = record {
    count = s.count;
    each = λ i n ne is.
        let o = s.each i n ne is in record { start = o.start; starts = o.starts; stands = o.stands; by_then = o.by_then; ahead = o.ahead };
    absent = λ i le. let a = s.absent i le in record { starts = a.starts; rows = a.rows };
  }

module _ {W R A : Type 0} (stream : R → Stream) (old new : Link W R A) (list : List (Node R A)) (n n' : Node R A) (x y : List (Told A)) (outs : List (ℕ × Out A)) (now place : ℕ) (event : events.Event)
    (p : OthersPass stream now place old.nodes.items list) (is : slice_get list place ≡ Some n) {answer : Answer} (adds : AddsEvent stream n n' [] outs now event answer) (nodes_are : new.nodes.items ≡ set list place n')
    (last_is : new.last ≡ now) (in_time : old.last ≤ now) (kept : kept_frames new.frames.items ≡ kept_frames old.frames.items ++ of_sender place (frames_in (happenings outs)))
    (tells : TellsReports x y (flat_map (node_reports place) (happenings outs))) (carried : Option ℕ) where
  module _ (log : Log) (s : Stands stream old log) where
    before : last_moment log ≤ now
    before = subst (λ (m : ℕ). m ≤ now) s.last in_time

    was : slice_get old.nodes.items place ≡ Some n
    was = sym p.own ∙ is

    abbrev o : NodeStands stream log (last_moment log) place n
    o = s.nodes.each place n was

    abbrev c : Chronicle
    c = (now, Passed) ∷ chronicle_of place log

    abbrev base : Log
    base = carrying now place carried (reached now log)

    abbrev added : (d : Chronicle) × EventAdds o.start now event c d × node.Stands stream o.start n' d × effects.Tells (chronicle_of place log) d [] outs
    added = let a = adds.each o.start (chronicle_of place log) o.stands (let by = o.by_then in let more = before in omega (arith, by, more)) in (a.0, a.1, a.2, a.3)

    abbrev rows : Chronicle
    rows = (event_grows o.start now c event added.0 added.1).newer

    d_is : added.0 ≡ rows ++ c
    d_is = (event_grows o.start now c event added.0 added.1).all

    each_at : EachAt now rows
    each_at = each_in now rows (event_grows o.start now c event added.0 added.1).each

    within : place < nodes log
    within = subst (λ (k : ℕ). place < k) s.nodes.count (slice_get_within old.nodes.items place n was)

    c_is : chronicle_of place base ≡ c
    c_is = chronicle_carrying now place (reached now log) carried place ∙ chronicle_reached now log place within

    starts : start_of place base ≡ Some o.start
    starts = start_carrying now place (reached now log) carried place ∙ (start_reached now log place ∙ o.starts)

    abbrev d : Log
    d = adding place rows base

    arrival : Arrives now place event carried log d
    arrival = record {
      start = o.start;
      starts = starts;
      rows = rows;
      adds = subst (λ (b : Chronicle). EventAdds o.start now event b (rows ++ b)) (sym c_is) (subst (EventAdds o.start now event c) d_is added.1);
      all = refl;
    }

    stands' : node.Stands stream o.start n' (rows ++ c)
    stands' = subst (node.Stands stream o.start n') d_is added.2

    tells_rows : effects.Tells (chronicle_of place log) (rows ++ c) [] outs
    tells_rows = subst (λ (b : Chronicle). effects.Tells (chronicle_of place log) b [] outs) d_is added.3

    -- that time has passed is not told
    tells' : effects.Tells c (rows ++ c) [] outs
    tells' = record { newer = tells_rows.newer; told = tells_rows.told ∙ ap (λ l. l ++ flat_map items_at tells_rows.newer) (sym (append-nil (items (chronicle_of place log)))); outs = tells_rows.outs }

    newest : chronicle.last_moment o.start.at (rows ++ c) ≡ now
    newest = newest_moment o.start.at now rows c each_at refl

    moment : last_moment d ≡ now
    moment = moment_with now place rows base each_at (moment_carrying now place (reached now log) carried (moment_reached now log))

    others : OthersStand stream list base now place
    others = others_carrying now place (reached now log) stream list place carried (others_reached stream old.nodes.items list log (last_moment log) now place s.nodes before p)

    all_stand : NodesStand stream (set list place n') d now
    all_stand = rows_stand stream list base now place others n' rows now (slice_get_within list place n is) o.start starts (subst (λ (b : Chronicle). node.Stands stream o.start n' (rows ++ b)) (sym c_is) stands')
        (subst (λ (b : Chronicle). chronicle.last_moment o.start.at (rows ++ b) ≤ now) (sym c_is) (let e = newest in omega (arith, e)))
        (let ahead = stands'.in_time in let e = newest in omega (arith, ahead, e)) (omega arith) (λ j m ne there. (others.each j m (λ e. ne (sym e)) there).ahead)

    stand : Stands stream new d
    stand = record {
      nodes = subst (λ (l : List (Node R A)). NodesStand stream l d (last_moment d)) (sym nodes_are) (subst (NodesStand stream (set list place n') d) (sym moment) all_stand);
      frames = kept ∙ (ap (λ l. l ++ of_sender place (frames_in (happenings outs))) (s.frames ∙ sym (frames_carrying now place (reached now log) carried ∙ frames_reached now log))
          ∙ sym (frames_of_rows place c rows outs base tells'));
      last = last_is ∙ sym moment;
    }

    tell : Tells log d x y
    tell = told_of_reports log d x y (flat_map (node_reports place) (happenings outs)) tells
        (reports_of_rows place c rows outs base tells' ∙ ap (λ l. l ++ flat_map (node_reports place) (happenings outs)) (reports_carrying now place (reached now log) carried ∙ reports_reached now log))

  pub arrival_leads : Leads stream old new x y (Arrives now place event carried)
  arrival_leads = record { each = λ log s. (d log s, arrival log s, stand log s, tell log s) }
