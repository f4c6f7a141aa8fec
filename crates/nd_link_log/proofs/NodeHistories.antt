-- Each node of a link lives the history that the events of the link are to it.
use Rattle.std.proofs.Common.{◌≡◌, inl, inr, ℕ, suc, ◌<◌, ◌≤◌, Bool, true, false, List, [], ◌∷◌, ◌++◌, append-nil, Option, Some, None, refl, sym, ◌∙◌, ap, subst, arith, ⊎_elim}
use Rattle.std.specs.Prelude.{◌≢◌, ◌==◌, is_some, nat_lt, if◌then◌else◌, MatchBool}
use Rattle.std.proofs.lemmas.Bool.{cases_lt, eqb-false, ltb-false, ltb-true, true≢false}
use Rattle.std.proofs.lemmas.Bool.Decides.{Decides-eqb}
use Rattle.nd_table.proofs.Tests.{by_false}
use Rattle.nd_chronicle.specs.Start.{Limits, Start, no_policies}
use Rattle.nd_chronicle.specs.Happening as chronicle
use Rattle.nd_chronicle.specs.Happening.{Chronicle, Sent}
use Rattle.nd_chronicle.specs.Event as nodes
use Rattle.nd_chronicle.specs.Event.{EventAdds}
use Rattle.nd_chronicle.specs.History as node
use Rattle.nd_chronicle.specs.History.{IsChronicle, beginning}
use Rattle.nd_link_log.specs.Log.{Log, IsFrame, NoNode, NoFrame, Own, Full, TooLate, Begins, Adds, Carries, Reaches, Refuses, adding, chronicle_of, last_moment, nodes, sent, start_of}
use Rattle.nd_link_log.specs.Event.{Event, Passes, Starts, Comes, Delivers, AddsRows, AddsDelivery, EventHappens, max_nodes, passing}
use Rattle.nd_link_log.specs.History.{IsLog, Runs, Walk}
use Rattle.nd_link_log.specs.NodeHistory.{PassesBy, IsToNode, Its, Carried, Elsewhere, IsHistoryOf, Over, IsLate, IsBefore, IsThere}
use Rattle.nd_link_log.proofs.Chronicles.{other_rows, own_rows, start_with}
use Rattle.nd_link_log.proofs.Frames.{one_frame, sent_before}
use Rattle.nd_link_log.proofs.Kept.{passed, start_passing, walk_start}
use Rattle.nd_link_log.proofs.Lives.{walk_at}
use Rattle.nd_link_log.proofs.Nodes.{RowsThere, no_rows, none_there}
use Rattle.nd_link_log.proofs.FewNodes.{few_passing}
use Rattle.nd_link_log.proofs.Seen.{Seen, Nothing, Refused, Started, Came, Carried as Brought, seen}
use Rattle.nd_link_log.proofs.Sound.{empty, late, stands_follows}
use Rattle.nd_link_log.proofs.Standing.{Reaching, Stands, reaching}

-- nothing of what is passed in is said to be bytes
abbrev Between : Log → Type 0
Between log = Stands ⊥ log

below_not : (i n k : ℕ) → i < n → nat_lt k n ≡ false → k ≢ i
below_not i n k lt beyond same = let le = ltb-false k n beyond in omega (arith, lt, le, same)

-- ---- a frame has a number below that of the next one, and one sender

number_below : (log : Log) (number sender at : ℕ) (frame : List ℕ) → IsFrame log number sender at frame → number < sent log
number_below log number sender at frame f =
    let le : suc (sent f.before) ≤ sent log = sent_before (Adds sender at (Sent frame) ∷ f.before) log f.there in
    let is = f.number_is in
    omega (arith, le, is)

abbrev sender_in_front : Log → ℕ
sender_in_front (Adds node at what ∷ log) = node
sender_in_front _ = 0

one_sender : (log : Log) (number i at j when : ℕ) (frame other : List ℕ) → IsFrame log number i at frame → IsFrame log number j when other → i ≡ j
one_sender log number i at j when frame other f g =
    ap sender_in_front (one_frame i j at when frame other f.before g.before log f.there g.there (f.number_is ∙ sym g.number_is))

-- ---- an event

module _ (limits : Limits) (i : ℕ) (now : ℕ) (reached e : Log) (start : Start) (there : start_of i reached ≡ Some start) (lt : i < nodes reached) where
  -- what an event of the link adds to the chronicle of the node
  pub record ToNode (event : Event) : Type 0 where
    pub what : nodes.Event
    pub is : IsToNode i reached event what
    pub adds : EventAdds start now what (chronicle_of i reached) (chronicle_of i e)

  elsewhere : (event : Event) → PassesBy i reached event → chronicle_of i e ≡ chronicle_of i reached → ToNode event
  elsewhere event by same = record { what = nodes.Passes; is = Elsewhere by; adds = same }

  own_event : (what : nodes.Event) (before : Log) → start_of i before ≡ Some start → chronicle_of i before ≡ chronicle_of i reached → AddsRows limits now i what before e
      → EventAdds start now what (chronicle_of i reached) (chronicle_of i e)
  own_event what before there_before same r =
      let both : Some r.start ≡ Some start = sym r.starts ∙ there_before in
      let one : r.start ≡ start = cc in
      let all : chronicle_of i e ≡ r.rows ++ chronicle_of i before = ap (chronicle_of i) r.all ∙ own_rows i r.rows before in
      subst (λ (c : Chronicle). EventAdds start now what c (chronicle_of i e)) same
      (subst (λ (d : Chronicle). EventAdds start now what (chronicle_of i before) d) (sym all)
      (subst (λ (s : Start). EventAdds s now what (chronicle_of i before) (r.rows ++ chronicle_of i before)) one r.adds))

  -- rows of another node
  other_event : (k : ℕ) (what : nodes.Event) (before : Log) → (k == i) ≡ false → chronicle_of i before ≡ chronicle_of i reached → AddsRows limits now k what before e
      → chronicle_of i e ≡ chronicle_of i reached
  other_event k what before e' same r = ap (chronicle_of i) r.all ∙ (other_rows i k r.rows before e' ∙ same)

  comes_to : (k : ℕ) (event : nodes.Event) (own : Bool) → (k == i) ≡ own → AddsRows limits now k event reached e → ToNode (Comes k event)
  comes_to k event true is r =
      let same : k ≡ i = (Decides-eqb k i).0 is in
      subst (λ (x : ℕ). AddsRows limits now x event reached e → ToNode (Comes x event)) (sym same)
      (λ mine. record { what = event; is = Its; adds = own_event event reached there refl mine }) r
  comes_to k event false is r = elsewhere (Comes k event) (eqb-false k i is) (other_event k event reached is refl r)

  -- a frame of another node is carried to one
  carried_to : (k number sender at : ℕ) (frame : List ℕ) → IsFrame reached number sender at frame → sender ≢ k → (own : Bool) → (k == i) ≡ own
      → AddsRows limits now k (nodes.Receives frame) (Carries k now number ∷ reached) e → ToNode (Delivers k number)
  carried_to k number sender at frame is_frame differ true is r =
      let same : k ≡ i = (Decides-eqb k i).0 is in
      subst (λ (x : ℕ). sender ≢ x → AddsRows limits now x (nodes.Receives frame) (Carries x now number ∷ reached) e → ToNode (Delivers x number)) (sym same)
      (λ other mine. record { what = nodes.Receives frame; is = Carried is_frame other; adds = own_event (nodes.Receives frame) (Carries i now number ∷ reached) there refl mine }) differ r
  carried_to k number sender at frame is_frame differ false is r =
      elsewhere (Delivers k number) (inl (eqb-false k i is)) (other_event k (nodes.Receives frame) (Carries k now number ∷ reached) is refl r)

  refused_all : (number : ℕ) → (k : ℕ) → ((sender at : ℕ) (frame : List ℕ) → IsFrame reached number sender at frame → sender ≡ k) → (own : Bool) → (k == i) ≡ own
      → chronicle_of i e ≡ chronicle_of i reached → ToNode (Delivers k number)
  refused_all number k none true is same =
      let mine : k ≡ i = (Decides-eqb k i).0 is in
      elsewhere (Delivers k number) (inr (λ sender at frame f. none sender at frame f ∙ mine)) same
  refused_all number k none false is same = elsewhere (Delivers k number) (inl (eqb-false k i is)) same

  delivered_to : (k number : ℕ) → AddsDelivery limits now k number reached e → ToNode (Delivers k number)
  delivered_to k number r = by (r.sender == k) refl r.adds
    where
      by : (own : Bool) → (r.sender == k) ≡ own → MatchBool own (e ≡ Refuses now Own ∷ reached) (AddsRows limits now k (nodes.Receives r.frame) (Carries k now number ∷ reached) e) → ToNode (Delivers k number)
      by true is h =
          let sender : r.sender ≡ k = (Decides-eqb r.sender k).0 is in
          refused_all number k (λ other at frame f. sym (one_sender reached number r.sender r.at other at r.frame frame r.is_frame f) ∙ sender) (k == i) refl (ap (chronicle_of i) h)
      by false is h = carried_to k number r.sender r.at r.frame r.is_frame (eqb-false r.sender k is) (k == i) refl h

  pub to_node : (event : Event) → EventHappens limits now event reached e → ToNode event
  to_node Passes h = elsewhere Passes tt (ap (chronicle_of i) h)
  to_node (Starts role mac transmits stream) h = by (nat_lt (nodes reached) max_nodes) h
    where
      begun : Start
      begun = record { at = now; role = role; mac = mac; transmits = transmits; stream = stream; limits = limits; policies = no_policies }

      by : (t : Bool) → MatchBool t (e ≡ adding (nodes reached) (beginning begun) (Begins (nodes reached) begun ∷ reached)) (e ≡ Refuses now Full ∷ reached) → ToNode (Starts role mac transmits stream)
      by true h = elsewhere (Starts role mac transmits stream) tt
          (ap (chronicle_of i) h ∙ other_rows i (nodes reached) (beginning begun) (Begins (nodes reached) begun ∷ reached) (new_is_other (nodes reached == i) refl))
        where
          new_is_other : (own : Bool) → (nodes reached == i) ≡ own → (nodes reached == i) ≡ false
          new_is_other true is = absurd (let same = (Decides-eqb (nodes reached) i).0 is in omega (arith, same, lt))
          new_is_other false is = is
      by false h = elsewhere (Starts role mac transmits stream) tt (ap (chronicle_of i) h)
  to_node (Comes k event) h = by (nat_lt k (nodes reached)) refl h
    where
      by : (t : Bool) → nat_lt k (nodes reached) ≡ t → MatchBool t (AddsRows limits now k event reached e) (e ≡ Refuses now NoNode ∷ reached) → ToNode (Comes k event)
      by true is h = comes_to k event (k == i) refl h
      by false is h = elsewhere (Comes k event) (below_not i (nodes reached) k lt is) (ap (chronicle_of i) h)
  to_node (Delivers k number) h = by (nat_lt k (nodes reached)) refl h
    where
      frame_by : (t : Bool) → nat_lt number (sent reached) ≡ t → MatchBool t (AddsDelivery limits now k number reached e) (e ≡ Refuses now NoFrame ∷ reached) → ToNode (Delivers k number)
      frame_by true is h = delivered_to k number h
      frame_by false is h =
          let le : sent reached ≤ number = ltb-false number (sent reached) is in
          refused_all number k (λ sender at frame f. absurd (let below = number_below reached number sender at frame f in omega (arith, le, below))) (k == i) refl (ap (chronicle_of i) h)

      by : (t : Bool) → nat_lt k (nodes reached) ≡ t → MatchBool t (MatchBool (nat_lt number (sent reached)) (AddsDelivery limits now k number reached e) (e ≡ Refuses now NoFrame ∷ reached)) (e ≡ Refuses now NoNode ∷ reached)
          → ToNode (Delivers k number)
      by true is h = frame_by (nat_lt number (sent reached)) refl h
      by false is h = elsewhere (Delivers k number) (inl (below_not i (nodes reached) k lt is)) (ap (chronicle_of i) h)

-- ---- who is there after it

none_is_some : {X : Type 0} (x : X) (o : Option X) → o ≡ None → o ≡ Some x → ⊥
none_is_some x o none some = true≢false (sym (ap is_some some) ∙ ap is_some none)

module _ (i now : ℕ) (reached e : Log) where
  begun_start : (start : Start) (own : Bool) → (nodes reached == i) ≡ own → start_of i (Begins (nodes reached) start ∷ reached) ≡ (if own then Some start else start_of i reached)
  begun_start start own is = ap (λ (b : Bool). if b then Some start else start_of i reached) is

  not_new : i < nodes reached → (own : Bool) → (nodes reached == i) ≡ own → (nodes reached == i) ≡ false
  not_new lt true is = absurd (let same = (Decides-eqb (nodes reached) i).0 is in omega (arith, same, lt))
  not_new lt false is = is

  -- who was there
  stays_there : i < nodes reached → Seen ⊥ now reached e → start_of i e ≡ start_of i reached
  stays_there lt (Nothing same) = ap (start_of i) same
  stays_there lt (Refused why moment same) = ap (start_of i) same
  stays_there lt (Started start moment policies types same) =
      ap (start_of i) same ∙ (start_with i (nodes reached) (beginning start) (Begins (nodes reached) start ∷ reached) ∙ begun_start start false (not_new lt (nodes reached == i) refl))
  stays_there lt (Came k start event rows bytes is gained same) = ap (start_of i) same ∙ start_with i k rows reached
  stays_there lt (Brought k number sender at frame start rows is_frame is gained same) = ap (start_of i) same ∙ start_with i k rows (Carries k now number ∷ reached)

  -- and who is new, with the rows of its beginning
  born : RowsThere reached → start_of i reached ≡ None → (start : Start) → start_of i e ≡ Some start → Seen ⊥ now reached e → chronicle_of i e ≡ beginning start
  born rows none start is (Nothing same) = absurd (none_is_some start (start_of i reached) none (sym (ap (start_of i) same) ∙ is))
  born rows none start is (Refused why moment same) = absurd (none_is_some start (start_of i reached) none (sym (ap (start_of i) same) ∙ is))
  born rows none start is (Came k other event more bytes there gained same) = absurd (none_is_some start (start_of i reached) none (sym (ap (start_of i) same ∙ start_with i k more reached) ∙ is))
  born rows none start is (Brought k number sender at frame other more is_frame there gained same) =
      absurd (none_is_some start (start_of i reached) none (sym (ap (start_of i) same ∙ start_with i k more (Carries k now number ∷ reached)) ∙ is))
  born rows none start is (Started new moment policies types same) = by (nodes reached == i) refl
    where
      begun : Log
      begun = Begins (nodes reached) new ∷ reached

      here : start_of i begun ≡ Some start
      here = sym (ap (start_of i) same ∙ start_with i (nodes reached) (beginning new) begun) ∙ is

      by : (own : Bool) → (nodes reached == i) ≡ own → chronicle_of i e ≡ beginning start
      by true mine =
          let number : nodes reached ≡ i = (Decides-eqb (nodes reached) i).0 mine in
          let both : Some new ≡ Some start = sym (begun_start new true mine) ∙ here in
          let one : new ≡ start = cc in
          let empty : chronicle_of i reached ≡ [] = no_rows i reached rows (ap is_some none) in
          ap (chronicle_of i) same
          ∙ (subst (λ (n : ℕ). chronicle_of i (adding n (beginning new) begun) ≡ beginning new ++ chronicle_of i begun) (sym number) (own_rows i (beginning new) begun)
          ∙ (ap (λ (c : Chronicle). beginning new ++ c) empty ∙ (append-nil (beginning new) ∙ ap beginning one)))
      by false other = absurd (none_is_some start (start_of i reached) none (sym (begun_start new false other) ∙ here))

-- ---- events one after the other

module _ (limits : Limits) (i : ℕ) where
  module _ (log over e : Log) (now : ℕ) (event : Event) (in_time : nat_lt now (last_moment log) ≡ false) (s : Between log) (w : Walk log (last_moment log) now over)
      (h : EventHappens limits now event (passing now (nodes over) (Reaches now ∷ over)) e) where
    abbrev at_event : Log
    at_event = passing now (nodes over) (Reaches now ∷ over)

    r : Reaching ⊥ at_event now
    r = reaching ⊥ log over now in_time w s

    seen_so : Seen ⊥ now at_event e
    seen_so = seen ⊥ limits now at_event e event (λ b. absurd b) h

    start_then : start_of i at_event ≡ start_of i log
    start_then = start_passing now (Reaches now ∷ over) (nodes over) i ∙ walk_start w i

    between_then : Between e
    between_then = stands_follows ⊥ limits log now event e false in_time (λ b. absurd b) (λ b. absurd b) s (over, w, h)

    module _ (start : Start) (is : start_of i log ≡ Some start) where
      numbered : i < nodes at_event
      numbered = ⊎_elim (λ less. less) (λ more. absurd (true≢false (sym (ap is_some (start_then ∙ is)) ∙ none_there i at_event r.kept.numbered more))) (cases_lt i (nodes at_event))

      there_then : start_of i e ≡ Some start
      there_then = stays_there i now at_event e numbered seen_so ∙ (start_then ∙ is)

      to_this : ToNode limits i now at_event e start (start_then ∙ is) numbered event
      to_this = to_node limits i now at_event e start (start_then ∙ is) numbered event h

      -- the node follows it
      follows_it : node.Follows start (chronicle_of i log) now to_this.what (chronicle_of i e)
      follows_it =
          let last : chronicle.last_moment start.at (chronicle_of i log) ≡ last_moment log = (s.lives i start is).last_is in
          let lt : i < nodes over = subst (λ (n : ℕ). i < n) (few_passing now (Reaches now ∷ over) (nodes over)) numbered in
          let rows = passed now (Reaches now ∷ over) (nodes over) i lt in
          by_false (nat_lt now (chronicle.last_moment start.at (chronicle_of i log)))
          (chronicle_of i e ≡ (now, chronicle.TooLate (chronicle.last_moment start.at (chronicle_of i log))) ∷ chronicle_of i log) _ (ap (nat_lt now) last ∙ in_time) (
            chronicle_of i over,
            subst (λ (m : ℕ). node.Walk start (chronicle_of i log) m now (chronicle_of i over)) (sym last) (walk_at w i start is),
            subst (λ (c : Chronicle). EventAdds start now to_this.what c (chronicle_of i e)) rows to_this.adds,
          )

    new_rows : start_of i log ≡ None → (start : Start) → start_of i e ≡ Some start → chronicle_of i e ≡ beginning start
    new_rows none start is = born i now at_event e r.kept.there (start_then ∙ none) start is seen_so

  pub record Lived (start : Start) (log : Log) (events : List (ℕ × Event)) (d : Log) : Type 0 where
    pub history : List (ℕ × nodes.Event)
    pub is : IsHistoryOf limits i log events history d
    pub runs : node.Runs start (chronicle_of i log) history (chronicle_of i d)
    pub there : start_of i d ≡ Some start

  abbrev Follows' : Bool → Log → ℕ → Event → Log → Type 0
  Follows' t log now event e =
      MatchBool t (e ≡ Refuses now (TooLate (last_moment log)) ∷ log) ((over : Log) × Walk log (last_moment log) now over × EventHappens limits now event (passing now (nodes over) (Reaches now ∷ over)) e)

  late_log : (log : Log) (now : ℕ) → Between log → Between (Refuses now (TooLate (last_moment log)) ∷ log)
  late_log log now s = late ⊥ limits log now s

  -- from a log on in which the node is there
  from_there : (start : Start) (events : List (ℕ × Event)) (log d : Log) → Between log → start_of i log ≡ Some start → Runs limits log events d → Lived start log events d
  from_there start [] log d s is h = record { history = []; is = subst (λ (x : Log). IsHistoryOf limits i log [] [] x) (sym h) Over; runs = ap (chronicle_of i) h; there = ap (start_of i) h ∙ is }
  from_there start ((now, event) ∷ events) log d s is h = by (λ e. from_there start events e d) (nat_lt now (last_moment log)) refl h.0 h.1 h.2
    where
      by : ((e : Log) → Between e → start_of i e ≡ Some start → Runs limits e events d → Lived start e events d) → (t : Bool) → nat_lt now (last_moment log) ≡ t → (e : Log) → Follows' t log now event e
          → Runs limits e events d → Lived start log ((now, event) ∷ events) d
      by further true past e same rest =
          let l = further (Refuses now (TooLate (last_moment log)) ∷ log) (late_log log now s) is (subst (λ (x : Log). Runs limits x events d) same rest) in
          record { history = l.history; is = IsLate (ltb-true now (last_moment log) past) l.is; runs = l.runs; there = l.there }
      by further false in_time e f rest =
          let n = to_this log f.0 e now event in_time s f.1 f.2 start is in
          let l = further e (between_then log f.0 e now event in_time s f.1 f.2) (there_then log f.0 e now event in_time s f.1 f.2 start is) rest in
          record {
            history = (now, n.what) ∷ l.history;
            is = IsThere (ltb-false now (last_moment log) in_time) is f.1 f.2 n.is l.is;
            runs = (chronicle_of i e, follows_it log f.0 e now event in_time s f.1 f.2 start is, l.runs);
            there = l.there;
          }

  pub record Born (start : Start) (log : Log) (events : List (ℕ × Event)) (d : Log) : Type 0 where
    pub history : List (ℕ × nodes.Event)
    pub is : IsHistoryOf limits i log events history d
    pub runs : IsChronicle start history (chronicle_of i d)

  -- from a log on in which it isn't
  from_before : (start : Start) (events : List (ℕ × Event)) (log d : Log) → Between log → start_of i log ≡ None → start_of i d ≡ Some start → Runs limits log events d → Born start log events d
  from_before start [] log d s none is h = absurd (none_is_some start (start_of i log) none (sym (ap (start_of i) h) ∙ is))
  from_before start ((now, event) ∷ events) log d s none is h = by (λ e t n. from_before start events e d t n is) (nat_lt now (last_moment log)) refl h.0 h.1 h.2
    where
      after : ((e : Log) → Between e → start_of i e ≡ None → Runs limits e events d → Born start e events d) → (e over : Log) (in_time : nat_lt now (last_moment log) ≡ false) (w : Walk log (last_moment log) now over)
          (f : EventHappens limits now event (passing now (nodes over) (Reaches now ∷ over)) e) → Runs limits e events d → (o : Option Start) → start_of i e ≡ o → Born start log ((now, event) ∷ events) d
      after further e over in_time w f rest None still =
          let b = further e (between_then log over e now event in_time s w f) still rest in
          record { history = b.history; is = IsBefore (ltb-false now (last_moment log) in_time) none w f b.is; runs = b.runs }
      after further e over in_time w f rest (Some new) here =
          let l = from_there new events e d (between_then log over e now event in_time s w f) here rest in
          let both : Some new ≡ Some start = sym l.there ∙ is in
          let one : new ≡ start = cc in
          let rows = new_rows log over e now event in_time s w f none new here in
          record {
            history = l.history;
            is = IsBefore (ltb-false now (last_moment log) in_time) none w f l.is;
            runs = subst (λ (x : Start). IsChronicle x l.history (chronicle_of i d)) one (subst (λ (c : Chronicle). node.Runs new c l.history (chronicle_of i d)) rows l.runs);
          }

      by : ((e : Log) → Between e → start_of i e ≡ None → Runs limits e events d → Born start e events d) → (t : Bool) → nat_lt now (last_moment log) ≡ t → (e : Log) → Follows' t log now event e
          → Runs limits e events d → Born start log ((now, event) ∷ events) d
      by further true past e same rest =
          let b = further (Refuses now (TooLate (last_moment log)) ∷ log) (late_log log now s) none (subst (λ (x : Log). Runs limits x events d) same rest) in
          record { history = b.history; is = IsLate (ltb-true now (last_moment log) past) b.is; runs = b.runs }
      by further false in_time e f rest = after further e f.0 in_time f.1 f.2 rest (start_of i e) refl

  pub lived_by : (events : List (ℕ × Event)) (log : Log) (start : Start) → IsLog limits events log → start_of i log ≡ Some start
      → (history : List (ℕ × nodes.Event)) × IsHistoryOf limits i [] events history log × IsChronicle start history (chronicle_of i log)
  lived_by events log start h is = let b = from_before start events [] log (empty ⊥ limits) refl is h in (b.history, b.is, b.runs)
