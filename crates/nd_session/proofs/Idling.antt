-- A node at which nothing is due, and a question that is answered at once.
use Rattle.std.proofs.Common.{◌≡◌, ◌<◌, ◌≤◌, ℕ, List, [], ◌∷◌, append-nil, ⊎_elim, arith, refl, sym, subst}
use Rattle.std.proofs.lemmas.Bool.{cases_lt}
use Rattle.std.specs.Global.{Global}
use Rattle.nd_addr.specs.declared.addr.Addr.{Addr}
use Rattle.nd_chronicle.specs.Answer as answers
use Rattle.nd_chronicle.specs.Event as events
use Rattle.nd_chronicle.specs.Happening.{Chronicle, Passed, last_moment}
use Rattle.nd_chronicle.specs.Start.{Start}
use Rattle.nd_chronicle.proofs.Idle.{idle_passes}
use Rattle.nd_out.specs.declared.out.Out.{Out}
use Rattle.nd_node.specs.declared.node.Node.{Node}
use Rattle.nd_steps.specs.Outputs.{happenings}
use Rattle.nd_node.specs.Event.{FollowsBy}
use Rattle.nd_node.specs.EventKept.{AddsEvent}
use Rattle.nd_node.specs.NodeKept.{Stands, next_of}
use Rattle.nd_node.specs.Resolve.{answer_by, with_answer}
use Rattle.nd_node.specs.Time.{Leads, Passes}
use Rattle.nd_node.proofs.Steps.{follows, walk_last}
use Rattle.nd_node.proofs.Leases.{due_is}
use Rattle.nd_node.proofs.Walks.{settle_end, still}
use Rattle.nd_random.specs.declared.source.Source.{Source}
use Rattle.nd_random.specs.Source.{stream_of_source}
use Rattle.nd_session.specs.declared.resolve.PathAnswer.{PathAnswer}
use Rattle.nd_session.specs.declared.session.Session.{Session}
use Rattle.nd_session.specs.Ready.{IsReady}
use Rattle.nd_session.specs.Resolve.{AnsweredAtOnce, AnsweredBy}

-- time passes, and nothing happens
pub time_passes : (node : Node Source Global) (outs : List (ℕ × Out Global)) (now : ℕ) → now < next_of node → Leads stream_of_source node node outs outs (Passes now)
time_passes node outs now lt =
    settle_end stream_of_source (λ start c d next end idle moment le le' w. idle_passes start c d next end idle moment le le' w) node node outs outs now (next_of node)
    (still stream_of_source node outs now) (λ start c s. due_is stream_of_source start node c s) lt

-- what happens up to a moment leads to a node that stands for it
pub passed_stands : (old mid : Node Source Global) (before after : List (ℕ × Out Global)) (now : ℕ) → old.last ≤ now → Leads stream_of_source old mid before after (Passes now)
    → (start : Start) (c : Chronicle) → Stands stream_of_source start old c → (d : Chronicle) × Stands stream_of_source start mid d × (last_moment start.at d ≤ now)
passed_stands old mid before after now le passes start c s =
    let e = passes.each start c s in
    (e.0, e.2, walk_last start c e.0 (last_moment start.at c) now e.1 (omega (arith, le, s.last)))

-- what is due is done, and then the question is answered at once
pub answered_at_once : (old mid new : Session) (now : ℕ) (destination : Addr) (answer : PathAnswer) → old.node.last ≤ now
    → Leads stream_of_source old.node mid.node old.reports.items mid.reports.items (Passes now) → AnsweredAtOnce now destination answer mid new → AnsweredBy now destination answer old new
answered_at_once old mid new now destination answer le passes a = record {
  resolution = a.resolution;
  is = a.is;
  leads = subst (λ (q : List (ℕ × Out Global)). Leads stream_of_source old.node new.node old.reports.items (with_answer q now destination a.resolution) (FollowsBy now (events.Resolves destination) (answer_by a.resolution))) (sym a.reports)
      (follows stream_of_source old.node mid.node new.node old.reports.items mid.reports.items (with_answer mid.reports.items now destination a.resolution) now (events.Resolves destination) le passes (a.adds mid.reports.items));
  lease = a.lease;
  goes = λ start c s. a.goes;
}

-- a session at which time alone passed is as ready as before
pub ready_later : (old new : Session) (now : ℕ) → new.node ≡ record old.node { last = now } → new.reports.items ≡ old.reports.items → new.room ≡ old.room → IsReady old → IsReady new
ready_later old new now node reports room ready = rw (node, reports, room) ready

-- what leads to a session leads to one with the same node and the same reports
pub leads_on : {To : Start → Chronicle → Chronicle → Type 0} (old mid later : Session) → later.node ≡ mid.node → later.reports.items ≡ mid.reports.items
    → Leads stream_of_source old.node mid.node old.reports.items mid.reports.items To → Leads stream_of_source old.node later.node old.reports.items later.reports.items To
leads_on old mid later node reports leads = rw (node, reports) leads

pub ready_on : (mid later : Session) → later.node ≡ mid.node → later.reports.items ≡ mid.reports.items → later.room ≡ mid.room → IsReady mid → IsReady later
ready_on mid later node reports room ready = rw (node, reports, room) ready

-- a node at which time alone passed
pub time_alone : (node later : Node Source Global) (now : ℕ) → (node.last ≤ now → later ≡ record node { last = now }) → (now ≤ node.last → later ≡ node) → later ≡ record node { last = later.last }
time_alone node later now moves past = ⊎_elim
    (λ lt. let same = past (omega (arith, lt)) in subst (λ (n : Node Source Global). n ≡ record node { last = n.last }) (sym same) refl)
    (λ le. let moved = moves le in subst (λ (n : Node Source Global). n ≡ record node { last = n.last }) (sym moved) refl)
    (cases_lt now node.last)

-- the event that time passes adds nothing
pub passing_adds : (old new : Node Source Global) (outs : List (ℕ × Out Global)) (now : ℕ)
    → ((start : Start) (c : Chronicle) → Stands stream_of_source start old c → last_moment start.at c ≤ now → Stands stream_of_source start new ((now, Passed) ∷ c))
    → AddsEvent stream_of_source old new outs outs now events.Passes answers.Done
passing_adds old new outs now passes = record {
  each = λ start c s le. ((now, Passed) ∷ c, refl, passes start c s le, record { newer = []; told = refl; outs = sym (append-nil (happenings outs)) }, refl);
}
