-- A turn of the node that turns first.
use Rattle.std.proofs.Common.{◌≡◌, ℕ, zero, suc, ◌<◌, ◌≤◌, List, [], ◌∷◌, ◌++◌, set, refl, sym, ◌∙◌, ap, subst, arith}
use Rattle.std.specs.Prelude.{slice_get, Some}
use Rattle.std.specs.List.{flat_map}
use Rattle.rand_core.specs.Stream.{Stream}
use Rattle.nd_chronicle.specs.Happening as chronicle
use Rattle.nd_chronicle.specs.Happening.{Chronicle}
use Rattle.nd_chronicle.specs.Due.{What, Due, comes}
use Rattle.nd_chronicle.proofs.Growth.{comes_grows}
use Rattle.nd_steps.specs.Outputs as effects
use Rattle.nd_steps.specs.Outputs.{frames_in, happenings}
use Rattle.nd_out.specs.declared.out.Out.{Out}
use Rattle.nd_node.specs.declared.node.Node.{Node}
use Rattle.nd_node.specs.NodeKept as node
use Rattle.nd_node.specs.Time as nodes
use Rattle.nd_node.proofs.Walks.{last_of}
use Rattle.nd_link_log.specs.Log.{Log, adding, chronicle_of, last_moment}
use Rattle.nd_link_log.specs.Told.{node_reports}
use Rattle.nd_link_log.proofs.Moments.{EachAt, due_at}
use Rattle.nd_link.specs.declared.link.Link.{Link}
use Rattle.nd_link.specs.declared.told.Told.{Told}
use Rattle.nd_link.specs.Due.{IsFirst}
use Rattle.nd_link.specs.Frames.{kept_frames, of_sender}
use Rattle.nd_link.specs.Link.{NodeStands, NodesStand, Stands}
use Rattle.nd_link.specs.Told.{Tells, TellsReports}
use Rattle.nd_link.specs.Time.{Leads, Turns, turns_left}
use Rattle.nd_link.proofs.Standing.{idle_at, others_of, rows_stand}
use Rattle.nd_link.proofs.Telling.{frames_of_rows, reports_of_rows}
use Rattle.nd_link.proofs.Walks.{told_of_reports}

-- the moment of a log with rows of one moment, of which there may be none where it is that moment already
moment_on : (node at : ℕ) (rows : Chronicle) (log : Log) → EachAt at rows → (rows ≡ [] → last_moment log ≡ at) → last_moment (adding node rows log) ≡ at
moment_on node at [] log each same = same refl
moment_on node at (row ∷ rows) log each same = each.0

module _ {W R A : Type 0} (stream : R → Stream) (old new : Link W R A) (n n' : Node R A) (x y : List (Told A)) (outs : List (ℕ × Out A)) (place due : ℕ)
    (first : IsFirst stream old.nodes.items place due) (is : slice_get old.nodes.items place ≡ Some n) (leads : nodes.Leads stream n n' [] outs (nodes.Comes due))
    (nodes_are : new.nodes.items ≡ set old.nodes.items place n') (last_is : new.last ≡ due)
    (kept : kept_frames new.frames.items ≡ kept_frames old.frames.items ++ of_sender place (frames_in (happenings outs)))
    (told : TellsReports x y (flat_map (node_reports place) (happenings outs))) where
  module _ (log : Log) (s : Stands stream old log) where
    abbrev o : NodeStands stream log (last_moment log) place n
    o = s.nodes.each place n is

    abbrev came : (d : Chronicle) × nodes.Comes due o.start (chronicle_of place log) d × node.Stands stream o.start n' d × effects.Tells (chronicle_of place log) d [] outs
    came = leads.each o.start (chronicle_of place log) o.stands

    abbrev what : What
    what = came.1.0

    due_is : Due o.start (chronicle_of place log) due (Some what)
    due_is = came.1.1

    abbrev rows : Chronicle
    rows = (comes_grows due o.start what (chronicle_of place log)).newer

    gives : comes o.start due what (chronicle_of place log) ≡ rows ++ chronicle_of place log
    gives = (comes_grows due o.start what (chronicle_of place log)).all

    d_is : came.0 ≡ rows ++ chronicle_of place log
    d_is = came.1.2 ∙ gives

    newest : chronicle.last_moment o.start.at (rows ++ chronicle_of place log) ≡ due
    newest = ap (chronicle.last_moment o.start.at) (sym gives) ∙ last_of o.start (chronicle_of place log) due what due_is

    in_time : last_moment log ≤ due
    in_time = subst (λ (m : ℕ). last_moment log ≤ m) (first.is n is) o.ahead

    none : rows ≡ [] → last_moment log ≡ due
    none e =
        let by = o.by_then in
        let more = in_time in
        let here = ap (λ (r : Chronicle). chronicle.last_moment o.start.at (r ++ chronicle_of place log)) (sym e) ∙ newest in
        omega (arith, by, more, here)

    abbrev d : Log
    d = adding place rows log

    moment : last_moment d ≡ due
    moment = moment_on place due rows log (due_at o.start due (chronicle_of place log) what rows gives) none

    stands' : node.Stands stream o.start n' (rows ++ chronicle_of place log)
    stands' = subst (node.Stands stream o.start n') d_is came.2

    tells' : effects.Tells (chronicle_of place log) (rows ++ chronicle_of place log) [] outs
    tells' = subst (λ (c : Chronicle). effects.Tells (chronicle_of place log) c [] outs) d_is came.3

    all_stand : NodesStand stream (set old.nodes.items place n') d due
    all_stand = rows_stand stream old.nodes.items log (last_moment log) place (others_of stream old.nodes.items log (last_moment log) place s.nodes) n' rows due first.within o.start o.starts stands'
        (let e = newest in omega (arith, e)) (let ahead = stands'.in_time in let e = newest in omega (arith, ahead, e)) in_time (λ j m ne there. first.least j m there)

    turned : Turns due log d
    turned = record {
      node = place;
      start = o.start;
      what = what;
      rows = rows;
      starts = o.starts;
      due = due_is;
      idle = λ other less. idle_at stream old.nodes.items log (last_moment log) s.nodes due first.dated other (λ m there. first.first other m less there);
      before = λ earlier less other. idle_at stream old.nodes.items log (last_moment log) s.nodes earlier first.dated other (λ m there. let le = first.least other m there in omega (arith, less, le));
      in_time = in_time;
      gives = gives;
      all = refl;
      reaches = moment;
    }

    stand : Stands stream new d
    stand = record {
      nodes = subst (λ (l : List (Node R A)). NodesStand stream l d (last_moment d)) (sym nodes_are) (subst (NodesStand stream (set old.nodes.items place n') d) (sym moment) all_stand);
      frames = kept ∙ (ap (λ l. l ++ of_sender place (frames_in (happenings outs))) s.frames ∙ sym (frames_of_rows place (chronicle_of place log) rows outs log tells'));
      last = last_is ∙ sym moment;
    }

    tell : Tells log d x y
    tell = told_of_reports log d x y (flat_map (node_reports place) (happenings outs)) told (reports_of_rows place (chronicle_of place log) rows outs log tells')

  pub turn_leads : Leads stream old new x y (Turns due)
  turn_leads = record { each = λ log s. (d log s, turned log s, stand log s, tell log s) }

-- fewer turns are left where fewer are left at one node
pub fewer_left : {R A : Type 0} (end : ℕ) (list : List (Node R A)) (i : ℕ) (old new : Node R A) → slice_get list i ≡ Some old → node.turns_left end new < node.turns_left end old
    → turns_left end (set list i new) < turns_left end list
fewer_left end [] i old new is lt = absurd (let no : ⊥ = cc in no)
fewer_left {R} {A} end (n ∷ list) zero old new is lt =
    let same : n ≡ old = cc in
    let e = ap (λ (x : Node R A). node.turns_left end x) same in
    omega (arith, lt, e)
fewer_left end (n ∷ list) (suc i) old new is lt = let rest = fewer_left end list i old new is lt in omega (arith, rest)
