-- A list of events has one log.
use Rattle.std.proofs.Common.{◌≡◌, ℕ, List, [], ◌∷◌, ◌++◌, Some, None, refl, sym, ◌∙◌, ap, subst, arith, ⊎_elim}
use Rattle.std.specs.Prelude.{◌==◌, nat_lt, MatchBool}
use Rattle.std.proofs.lemmas.Bool.{cases_lt}
use Rattle.std.proofs.lemmas.List.{append_cancel_right}
use Rattle.std.proofs.lemmas.Option.{same_Some}
use Rattle.nd_chronicle.specs.Start.{Limits, Start}
use Rattle.nd_chronicle.specs.Happening.{Chronicle, Sent}
use Rattle.nd_chronicle.specs.Due.{What, Due, comes}
use Rattle.nd_chronicle.specs.Event as chronicle
use Rattle.nd_chronicle.specs.Event.{EventAdds}
use Rattle.nd_chronicle.proofs.Dues.{none_in, one_due}
use Rattle.nd_chronicle.proofs.Events.{by_test, one_event}
use Rattle.nd_link_log.specs.Log.{Log, Own, Adds, Carries, Reaches, Refuses, adding, chronicle_of, last_moment, nodes, sent, start_of}
use Rattle.nd_link_log.specs.Event.{Event, Passes, Starts, Comes, Delivers, AddsRows, AddsDelivery, EventHappens, max_nodes, passing}
use Rattle.nd_link_log.specs.History.{Follows, IsIdle, Runs, Walk, over, adds, passes}
use Rattle.nd_link_log.proofs.Frames.{one_frame}

one_start : (node : ℕ) (log : Log) (a b : Start) → start_of node log ≡ Some a → start_of node log ≡ Some b → a ≡ b
one_start node log a b p q = let both : Some a ≡ Some b = sym p ∙ q in cc

-- ---- time

module _ (log : Log) (moment : ℕ) where
  -- a node is idle, or something is due there
  not_idle : (node : ℕ) (start : Start) (what : What) → start_of node log ≡ Some start → Due start (chronicle_of node log) moment (Some what) → IsIdle node log moment → ⊥
  not_idle node start what is due idle = none_in what (one_due start (chronicle_of node log) moment (Some what) None due (idle start is))

  module _ (node : ℕ) (start : Start) (what : What) (rows : Chronicle) (is : start_of node log ≡ Some start) (due : Due start (chronicle_of node log) moment (Some what))
      (gives : comes start moment what (chronicle_of node log) ≡ rows ++ chronicle_of node log) where
    same_rows : (other : Start) (more : What) (others : Chronicle) → start_of node log ≡ Some other → Due other (chronicle_of node log) moment (Some more)
        → comes other moment more (chronicle_of node log) ≡ others ++ chronicle_of node log → others ≡ rows
    same_rows other more others there due' gives' =
        let c : Chronicle = chronicle_of node log in
        let s : other ≡ start = one_start node log other start there is in
        let w : more ≡ what = same_Some more what (one_due start c moment (Some more) (Some what) (subst (λ (x : Start). Due x c moment (Some more)) s due') due) in
        append_cancel_right others rows c (sym gives' ∙ ap (λ (x : Start). comes x moment more c) s ∙ ap (λ (x : What). comes start moment x c) w ∙ gives)

    -- what comes first is one
    same_step : (i : ℕ) (other : Start) (more : What) (others : Chronicle) → i ≡ node → start_of i log ≡ Some other → Due other (chronicle_of i log) moment (Some more)
        → comes other moment more (chronicle_of i log) ≡ others ++ chronicle_of i log → adding i others log ≡ adding node rows log
    same_step i other more others same there due' gives' =
        subst (λ (x : ℕ). start_of x log ≡ Some other → Due other (chronicle_of x log) moment (Some more) → comes other moment more (chronicle_of x log) ≡ others ++ chronicle_of x log
        → adding x others log ≡ adding node rows log) (sym same)
        (λ t u v. ap (λ (x : Chronicle). adding node x log) (same_rows other more others t u v)) there due' gives'

one_walk : {log d e : Log} {moment end : ℕ} → Walk log moment end d → Walk log moment end e → d ≡ e
one_walk (over lt) (over lt') = refl
one_walk (over lt) (adds node start what rows le is due idle gives w) = absurd (omega arith)
one_walk (over lt) (passes le idle w) = absurd (omega arith)
one_walk (adds node start what rows le is due idle gives w) (over lt) = absurd (omega arith)
one_walk (passes le idle w) (over lt) = absurd (omega arith)
one_walk (passes le idle w) (passes le' idle' w') = one_walk w w'
one_walk {log = log} {moment = moment} (adds node start what rows le is due idle gives w) (passes le' idle' w') = absurd (not_idle log moment node start what is due (idle' node))
one_walk {log = log} {moment = moment} (passes le idle w) (adds node start what rows le' is due idle' gives w') = absurd (not_idle log moment node start what is due (idle node))
one_walk {log = log} {e = e} {moment = moment} {end = end} (adds node start what rows le is due idle gives w) (adds i other more others le' is' due' idle' gives' w') =
    let same : i ≡ node =
    ⊎_elim (λ lt. absurd (not_idle log moment i other more is' due' (idle i lt)))
    (λ ge. ⊎_elim (λ lt. absurd (not_idle log moment node start what is due (idle' node lt))) (λ le. omega (arith, ge, le)) (cases_lt node i)) (cases_lt i node) in
    one_walk w (subst (λ (x : Log). Walk x moment end e) (same_step log moment node start what rows is due gives i other more others same is' due' gives') w')

-- ---- events

sender_in : (i j at when : ℕ) (frame other : List ℕ) (a b : Log) → Adds i at (Sent frame) ∷ a ≡ Adds j when (Sent other) ∷ b → i ≡ j
sender_in i j at when frame other a b e = cc

pub frame_in : (i j at when : ℕ) (frame other : List ℕ) (a b : Log) → Adds i at (Sent frame) ∷ a ≡ Adds j when (Sent other) ∷ b → frame ≡ other
frame_in i j at when frame other a b e = cc

module _ (limits : Limits) (now : ℕ) where
  one_rows : (node : ℕ) (event : chronicle.Event) (log d e : Log) → AddsRows limits now node event log d → AddsRows limits now node event log e → d ≡ e
  one_rows node event log d e r s =
      let c : Chronicle = chronicle_of node log in
      let same : s.start ≡ r.start = one_start node log s.start r.start s.starts r.starts in
      let whole : r.rows ++ c ≡ s.rows ++ c = one_event r.start c now event (r.rows ++ c) (s.rows ++ c) r.adds (subst (λ (x : Start). EventAdds x now event c (s.rows ++ c)) same s.adds) in
      r.all ∙ ap (λ (x : Chronicle). adding node x log) (append_cancel_right r.rows s.rows c whole) ∙ sym s.all

  one_delivery : (node number : ℕ) (log d e : Log) → AddsDelivery limits now node number log d → AddsDelivery limits now node number log e → d ≡ e
  one_delivery node number log d e r s =
      let f = r.is_frame in
      let g = s.is_frame in
      let same = one_frame s.sender r.sender s.at r.at s.frame r.frame g.before f.before log g.there f.there (g.number_is ∙ sym f.number_is) in
      let i : s.sender ≡ r.sender = sender_in s.sender r.sender s.at r.at s.frame r.frame g.before f.before same in
      let x : s.frame ≡ r.frame = frame_in s.sender r.sender s.at r.at s.frame r.frame g.before f.before same in
      by_test (r.sender == node) (λ a b. a ∙ sym b) (one_rows node (chronicle.Receives r.frame) (Carries node now number ∷ log) d e) r.adds
      (subst (λ (n : ℕ). MatchBool (n == node) (e ≡ Refuses now Own ∷ log) (AddsRows limits now node (chronicle.Receives r.frame) (Carries node now number ∷ log) e)) i
      (subst (λ (l : List ℕ). MatchBool (s.sender == node) (e ≡ Refuses now Own ∷ log) (AddsRows limits now node (chronicle.Receives l) (Carries node now number ∷ log) e)) x s.adds))

  one_happening : (event : Event) (log d e : Log) → EventHappens limits now event log d → EventHappens limits now event log e → d ≡ e
  one_happening Passes log d e h k = h ∙ sym k
  one_happening (Starts role mac transmits stream) log d e h k = by_test (nat_lt (nodes log) max_nodes) (λ a b. a ∙ sym b) (λ a b. a ∙ sym b) h k
  one_happening (Comes node event) log d e h k = by_test (nat_lt node (nodes log)) (one_rows node event log d e) (λ a b. a ∙ sym b) h k
  one_happening (Delivers node number) log d e h k = by_test (nat_lt node (nodes log))
      (λ t u. by_test (nat_lt number (sent log)) (one_delivery node number log d e) (λ a b. a ∙ sym b) t u) (λ a b. a ∙ sym b) h k

module _ (limits : Limits) where
  one_reached : (log : Log) (now : ℕ) (event : Event) (d e : Log)
      → ((x : Log) × Walk log (last_moment log) now x × EventHappens limits now event (passing now (nodes x) (Reaches now ∷ x)) d)
      → ((x : Log) × Walk log (last_moment log) now x × EventHappens limits now event (passing now (nodes x) (Reaches now ∷ x)) e) → d ≡ e
  one_reached log now event d e h k =
      let same : h.0 ≡ k.0 = one_walk h.1 k.1 in
      one_happening limits now event (passing now (nodes k.0) (Reaches now ∷ k.0)) d e
      (subst (λ (x : Log). EventHappens limits now event (passing now (nodes x) (Reaches now ∷ x)) d) same h.2) k.2

  one_following : (log : Log) (now : ℕ) (event : Event) (d e : Log) → Follows limits log now event d → Follows limits log now event e → d ≡ e
  one_following log now event d e h k = by_test (nat_lt now (last_moment log)) (λ a b. a ∙ sym b) (one_reached log now event d e) h k

  pub one_run : (events : List (ℕ × Event)) (log d e : Log) → Runs limits log events d → Runs limits log events e → d ≡ e
  one_run [] log d e h k = h ∙ sym k
  one_run (event ∷ events) log d e h k =
      let same : h.0 ≡ k.0 = one_following log event.0 event.1 h.0 k.0 h.1 k.1 in
      one_run events k.0 d e (subst (λ (x : Log). Runs limits x events d) same h.2) k.2
