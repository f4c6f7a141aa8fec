-- A run that meets the premises of the laws of one holder: a router gets its link-local address, another one of the same link-layer address tries
-- it, and its solicitation is carried to the first one at once.
use Rattle.std.proofs.Common.{◌≡◌, inl, inr, ℕ, suc, ◌+◌, ◌<◌, ◌≤◌, Bool, true, false, List, [], ◌∷◌, ◌++◌, Some, None, refl, sym, ◌∙◌, ap, subst, arith, ⊎_elim}
use Rattle.std.specs.Prelude.{◌==◌, is_some, nat_lt, if◌then◌else◌}
use Rattle.std.proofs.lemmas.Bool.{le-ltb, lt-ltb, or_left, or_right, true≢false}
use Rattle.std.proofs.lemmas.Bool.Decides.{Decides-eqb}
use Rattle.std.proofs.lemmas.List.Elements.{All-from_recursion, All-nil}
use Rattle.rand_core.specs.Stream.{Stream}
use Rattle.nd_addr.specs.Bytes.{AreBytes}
use Rattle.nd_addr.specs.Number.{addr_at, number_of}
use Rattle.nd_addr.specs.declared.addr.Addr.{Addr}
use Rattle.nd_addr.specs.declared.mac.Mac.{Mac}
use Rattle.nd_addr.specs.declared.role.Role.TheVariants.{Router}
use Rattle.nd_addr.proofs.Numbered.{sixteen}
use Rattle.nd_decode.specs.Message.{Parts}
use Rattle.nd_table.proofs.Pasts.{past_self}
use Rattle.nd_table.proofs.Tests.{by_false, by_true}
use Rattle.nd_compose.specs.Frames.{defence_frame, detection_frame, solicited_node, unspecified}
use Rattle.nd_compose.specs.Meaning.{IsDetection}
use Rattle.nd_compose.proofs.Meant.{detection_sent}
use Rattle.nd_slaac.specs.State.{step_at}
use Rattle.nd_slaac.specs.History.{Conflict}
use Rattle.nd_slaac.specs.State as states
use Rattle.nd_chronicle.specs.Start.{Limits, Start, no_policies}
use Rattle.nd_chronicle.specs.Happening.{Address, Chronicle, Heard, Passed, Sent}
use Rattle.nd_chronicle.specs.History.{beginning, first_delay}
use Rattle.nd_chronicle.specs.NeighborSolicitation.{then_tried}
use Rattle.nd_chronicle.specs.OwnAddress.{is_assigned, story_of}
use Rattle.nd_chronicle.specs.Event as nodes
use Rattle.nd_chronicle.specs.Event.{ComesAsBytes, EventAdds}
use Rattle.nd_chronicle.proofs.OwnKeys.{IsUsable, own_usable}
use Rattle.nd_chronicle.proofs.Reading.{read_by_none}
use Rattle.nd_chronicle.proofs.Rivals.{tried}
use Rattle.nd_existence.proofs.Adding.{event_adds}
use Rattle.nd_link_log.specs.Log.{Log, Begins, Carries, Reaches, adding, chronicle_of, last_moment, nodes as count, sent, start_of}
use Rattle.nd_link_log.specs.Event.{Event, Starts, Delivers, AddsDelivery, EventHappens, max_nodes, passing}
use Rattle.nd_link_log.specs.Bytes.{AreOfBytes, IsOfBytes, SendsBytes}
use Rattle.nd_link_log.specs.History.{Follows, IsLog, Walk, over, passes}
use Rattle.nd_link_log.specs.Holding.{IsTimely}
use Rattle.nd_link_log.proofs.FewNodes.{few_passing, few_walk}
use Rattle.nd_link_log.proofs.Frames.{sent_before}
use Rattle.nd_link_log.proofs.Kept.{kept_walk}
use Rattle.nd_link_log.proofs.Nodes.{no_rows}
use Rattle.nd_link_log.proofs.Places.{AllPlaces, at_place}
use Rattle.nd_link_log.proofs.Sound as sound
use Rattle.nd_link_log.proofs.Timely.{loses_little}
use Rattle.nd_existence.specs.LinkPremises.{MeetsPremises}
use Rattle.nd_existence.proofs.LinkAdding.{fine_begun, fine_passing, fine_reached}
use Rattle.nd_existence.proofs.LinksAlike.{Fits, Good, HasAsked, IsLate, Walked, defence_bytes, walked}
use Rattle.nd_existence.proofs.Alone.{Alone, IsUnasked, alone_begins, alone_held_on, alone_holds, alone_same, forming, own, unasked_begins, unasked_ends}
use Rattle.nd_existence.proofs.LinkWalking.{IsFine, fine_nothing, fine_with, link_walked}

module _ (limits : Limits) (mac : Mac) (m : AreBytes 6 mac.0) (transmits : ℕ) (some : 0 < transmits) (words others : Stream) where
  -- ---- the first router starts

  abbrev pub first : Start
  first = record { at = 0; role = Router; mac = mac; transmits = transmits; stream = words; limits = limits; policies = no_policies }

  abbrev pub key : ℕ
  key = own first

  -- when it gets its address
  abbrev pub got : ℕ
  got = step_at (forming first) transmits

  abbrev pub second : Start
  second = record { at = got; role = Router; mac = mac; transmits = transmits; stream = others; limits = limits; policies = no_policies }

  -- when the second one tries it
  abbrev pub late : ℕ
  late = got + first_delay second

  abbrev pub starts : ℕ × Event
  starts = (0, Starts Router mac transmits words)

  abbrev pub log1 : Log
  log1 = adding 0 (beginning first) (Begins 0 first ∷ Reaches 0 ∷ [])

  pub nothing_yet : Walk [] 0 0 []
  nothing_yet = passes (omega arith) (λ node start is. absurd (let no : ⊥ = cc in no)) (over (omega arith))

  pub follows1 : Follows limits [] 0 (Starts Router mac transmits words) log1
  follows1 = ([], nothing_yet, refl)

  pub runs1 : IsLog limits (starts ∷ []) log1
  runs1 = (log1, follows1, refl)

  pub fine1 : IsFine log1
  fine1 = fine_with 0 (beginning first) (Begins 0 first ∷ Reaches 0 ∷ []) (fine_begun 0 first (Reaches 0 ∷ []) (refl, tt) (fine_reached 0 [] fine_nothing)) tt

  abbrev pub walk1 : (d : Log) × Walk log1 0 got d × IsFine d
  walk1 = link_walked got (got + 1) log1 0 (omega arith) fine1

  abbrev pub e1 : Log
  e1 = walk1.0

  -- nobody else is there
  pub only_first : (i : ℕ) → is_some (start_of i log1) ≡ true → 0 ≡ i
  only_first i there = by (0 == i) refl there
    where
      by : (mine : Bool) → (0 == i) ≡ mine → is_some (if mine then Some first else None) ≡ true → 0 ≡ i
      by true e h = (Decides-eqb 0 i).0 e
      by false e h = absurd (true≢false (sym h))

  pub alone_there : (node at : ℕ) (before : Log) → ((i : ℕ) → start_of i before ≡ start_of i log1) → is_some (start_of node before) ≡ true → 0 ≤ at → IsLate late at node before
  alone_there node at before same here le = inr (λ other differ there.
      let mine = only_first node (sym (ap is_some (same node)) ∙ here) in
      let theirs = only_first other (sym (ap is_some (same other)) ∙ there) in
      differ (sym theirs ∙ mine))

  abbrev pub Walked1 : Log → ℕ → Type 0
  Walked1 log b = Walked mac m late log1 0 first refl some 0 alone_there got log b

  pub fits1 : (i : ℕ) (start : Start) → start_of i log1 ≡ Some start → Fits mac start (chronicle_of i log1) (first.at + first_delay first)
  fits1 i start is =
      let zero_is = only_first i (ap is_some is) in
      let both : Some first ≡ Some start = ap (λ (x : ℕ). start_of x log1) zero_is ∙ is in
      let one : first ≡ start = cc in
      subst (λ (x : ℕ). Fits mac start (chronicle_of x log1) (first.at + first_delay first)) zero_is
      (subst (λ (s : Start). Fits mac s (chronicle_of 0 log1) (first.at + first_delay first)) one (record { router = refl; mac_is = refl; alone = alone_begins first }))

  pub begun1 : Walked1 log1 (first.at + first_delay first)
  begun1 = record { fits = fits1; good = (refl, (tt, (tt, (tt, (tt, tt))))); same = λ i. refl; asked = inl (unasked_begins first) }

  pub g1 : Walked1 e1 (suc got)
  g1 = walked mac m late log1 0 first refl some 0 alone_there walk1.1 (first.at + first_delay first) (omega arith) (omega arith) (omega arith) begun1

  pub first_there : start_of 0 e1 ≡ Some first
  first_there = g1.same 0

  pub held1 : states.is_assigned (story_of (chronicle_of 0 e1) key) ≡ true
  held1 = alone_holds first (chronicle_of 0 e1) (suc got) (omega arith) (g1.fits 0 first first_there).alone

  -- ---- the second one starts

  pub one_node : count e1 ≡ 1
  one_node = few_walk walk1.1

  abbrev pub reached1 : Log
  reached1 = passing got 1 (Reaches got ∷ e1)

  abbrev pub log2 : Log
  log2 = adding 1 (beginning second) (Begins 1 second ∷ reached1)

  pub happens2 : EventHappens limits got (Starts Router mac transmits others) (passing got (count e1) (Reaches got ∷ e1)) log2
  happens2 =
      let y = passing got (count e1) (Reaches got ∷ e1) in
      let number : count y ≡ 1 = few_passing got (Reaches got ∷ e1) (count e1) ∙ one_node in
      by_true (nat_lt (count y) max_nodes) _ _ (lt-ltb (count y) max_nodes (omega (arith, number)))
      (sym (ap (λ (k : ℕ). adding k (beginning second) (Begins k second ∷ y)) number
      ∙ ap (λ (k : ℕ). adding 1 (beginning second) (Begins 1 second ∷ passing got k (Reaches got ∷ e1))) one_node))

  pub follows2 : Follows limits log1 got (Starts Router mac transmits others) log2
  follows2 = by_false (nat_lt got (last_moment log1)) _ _ (le-ltb got (last_moment log1) (omega arith)) (e1, walk1.1, happens2)

  pub fine_reached1 : IsFine reached1
  fine_reached1 = fine_passing got (Reaches got ∷ e1) 1 (fine_reached got e1 walk1.2)

  pub fine2 : IsFine log2
  fine2 = fine_with 1 (beginning second) (Begins 1 second ∷ reached1) (fine_begun 1 second reached1 (sym one_node, fine_reached1.numbered) fine_reached1) (fine_reached1.timed 1)

  abbrev pub walk2 : (d : Log) × Walk log2 got late d × IsFine d
  walk2 = link_walked late (first_delay second + 1) log2 got (omega arith) fine2

  abbrev pub e2 : Log
  e2 = walk2.0

  -- it had no row before
  pub second_new : chronicle_of 1 e1 ≡ []
  second_new = no_rows 1 e1 (kept_walk _ walk1.1 (last_moment log1) (omega arith) (omega arith) (sound.stands limits (starts ∷ []) log1 runs1).kept).there (ap is_some (g1.same 1))

  pub late_enough : (node at : ℕ) (before : Log) → ((i : ℕ) → start_of i before ≡ start_of i log2) → is_some (start_of node before) ≡ true → late ≤ at → IsLate late at node before
  late_enough node at before same here le = inl le

  abbrev pub Walked2 : Log → ℕ → Type 0
  Walked2 log b = Walked mac m late log2 1 second refl some late late_enough late log b

  pub fits_first : Fits mac first (chronicle_of 0 log2) late
  fits_first =
      let c = chronicle_of 0 e1 in record {
        router = refl;
        mac_is = refl;
        alone = alone_held_on first ((got, Passed) ∷ c) (suc got) late held1 (alone_same first c ((got, Passed) ∷ c) (suc got) refl refl refl (g1.fits 0 first first_there).alone);
      }

  pub fits_second : Fits mac second (chronicle_of 1 log2) late
  fits_second = record { router = refl; mac_is = refl; alone = subst (λ (c : Chronicle). Alone second (beginning second ++ c) late) (sym second_new) (alone_begins second) }

  pub fits2 : (i : ℕ) (start : Start) → start_of i log2 ≡ Some start → Fits mac start (chronicle_of i log2) late
  fits2 i start is = by (1 == i) refl is
    where
      by : (mine : Bool) → (1 == i) ≡ mine → (if mine then Some second else start_of i e1) ≡ Some start → Fits mac start (chronicle_of i log2) late
      by true e h =
          let one_is : 1 ≡ i = (Decides-eqb 1 i).0 e in
          let one : second ≡ start = cc in
          subst (λ (x : ℕ). Fits mac start (chronicle_of x log2) late) one_is (subst (λ (s : Start). Fits mac s (chronicle_of 1 log2) late) one fits_second)
      by false e h =
          let there : start_of i log1 ≡ Some start = sym (g1.same i) ∙ h in
          let zero_is : 0 ≡ i = only_first i (ap is_some there) in
          let both : Some first ≡ Some start = ap (λ (x : ℕ). start_of x log1) zero_is ∙ there in
          let one : first ≡ start = cc in
          subst (λ (x : ℕ). Fits mac start (chronicle_of x log2) late) zero_is (subst (λ (s : Start). Fits mac s (chronicle_of 0 log2) late) one fits_first)

  pub begun2 : Walked2 log2 late
  begun2 = record {
    fits = fits2;
    good = (refl, (tt, (tt, (tt, (tt, (tt, g1.good))))));
    same = λ i. refl;
    asked = inl (subst (λ (c : Chronicle). IsUnasked second (beginning second ++ c)) (sym second_new) (unasked_begins second));
  }

  pub g2 : Walked2 e2 (suc late)
  g2 = walked mac m late log2 1 second refl some late late_enough walk2.1 late (omega arith) (omega arith) (omega arith) begun2

  pub first_there2 : start_of 0 e2 ≡ Some first
  first_there2 = g2.same 0 ∙ first_there

  pub held2 : states.is_assigned (story_of (chronicle_of 0 e2) key) ≡ true
  held2 = alone_holds first (chronicle_of 0 e2) (suc late) (omega arith) (g2.fits 0 first first_there2).alone

  -- it sent a solicitation
  abbrev pub h : HasAsked 1 second late late e2
  h = ⊎_elim (λ unasked. absurd (unasked_ends second (chronicle_of 1 e2) (g2.fits 1 second (g2.same 1)).alone unasked)) (λ asked. asked) g2.asked

  -- ---- which is carried to the first one

  pub two_nodes : count e2 ≡ 2
  two_nodes = few_walk walk2.1 ∙ ap suc one_node

  abbrev pub number : ℕ
  number = sent h.before

  abbrev pub address : Addr
  address = addr_at key

  abbrev pub frame : List ℕ
  frame = detection_frame mac address

  abbrev pub reached2 : Log
  reached2 = passing late 2 (Reaches late ∷ e2)

  abbrev pub carrying : Log
  carrying = Carries 0 late number ∷ reached2

  abbrev pub c : Chronicle
  c = chronicle_of 0 carrying

  pub usable : IsUsable key
  usable = own_usable first m [] (beginning first) (beginning first) key (All-nil (λ (event : ℕ × nodes.Event). ComesAsBytes event.1)) refl (past_self (beginning first)) (ap is_some (alone_begins first).formed)

  pub tries : IsDetection frame address
  tries = detection_sent mac m address (sixteen key)

  pub assigned : is_assigned c address.0 ≡ true
  assigned = subst (λ (k : ℕ). states.is_assigned (story_of c k) ≡ true) (sym usable.number) held2

  abbrev pub hearing : Chronicle
  hearing = (late, Heard unspecified (solicited_node address) tries.message) ∷ c

  abbrev pub rows : Chronicle
  rows = (late, Sent (defence_frame true mac address)) ∷ (late, Heard unspecified (solicited_node address) tries.message) ∷ []

  abbrev pub heard : (d : Chronicle) × EventAdds first late (nodes.Receives frame) c d
  heard = event_adds first c late (nodes.Receives frame)

  pub heard_is : heard.0 ≡ rows ++ c
  heard_is =
      tried first c late frame address (sixteen key) heard.0 usable.unicast tries (or_right _ _ assigned) (or_left _ _ held2) refl refl heard.1
      ∙ ap (λ (said : Parts). then_tried first late address ((late, Heard unspecified (solicited_node address) said) ∷ c)) (read_by_none mac tries.message)
      ∙ ap (λ (b : Bool). if b then (late, Sent (defence_frame true mac address)) ∷ hearing else (late, Address (number_of address.0) Conflict) ∷ hearing) assigned

  abbrev pub log3 : Log
  log3 = adding 0 rows carrying

  pub delivery : AddsDelivery limits late 0 number reached2 log3
  delivery = record {
    sender = 1;
    at = h.at;
    frame = frame;
    is_frame = record { before = h.before; there = inr (inr (inr h.there)); number_is = refl };
    adds = record { start = first; starts = first_there2; rows = rows; adds = subst (EventAdds first late (nodes.Receives frame) c) heard_is heard.1; all = refl };
  }

  pub happens3 : EventHappens limits late (Delivers 0 number) (passing late (count e2) (Reaches late ∷ e2)) log3
  happens3 =
      let more = sent_before _ e2 h.there in
      subst (λ (k : ℕ). EventHappens limits late (Delivers 0 number) (passing late k (Reaches late ∷ e2)) log3) (sym two_nodes)
      (by_true (nat_lt 0 (count reached2)) _ _ (lt-ltb 0 (count reached2) (let two = two_nodes in omega (arith, two)))
      (by_true (nat_lt number (sent reached2)) _ _ (lt-ltb number (sent reached2) (omega (arith, more))) delivery))

  pub follows3 : Follows limits log2 late (Delivers 0 number) log3
  follows3 = by_false (nat_lt late (last_moment log2)) _ _ (le-ltb late (last_moment log2) (omega arith)) (e2, walk2.1, happens3)

  abbrev pub events : List (ℕ × Event)
  events = starts ∷ (got, Starts Router mac transmits others) ∷ (late, Delivers 0 number) ∷ []

  pub runs3 : IsLog limits events log3
  runs3 = (log1, follows1, (log2, follows2, (log3, follows3, refl)))

  -- ---- what that log is

  pub good3 : AllPlaces (Good late) log3
  good3 = ((defence_bytes mac m address (sixteen key), inl (omega arith)), (tt, (tt, (tt, (tt, (tt, g2.good))))))

  pub of_bytes : AreOfBytes events
  of_bytes = All-from_recursion (λ (event : ℕ × Event). IsOfBytes event.1) events ((m, some), ((m, some), (tt, tt)))

  pub sends_bytes : SendsBytes log3
  sends_bytes = λ node at sent_frame before p. (at_place (Good late) _ log3 p good3).0

  pub timely : (within : ℕ) → within < 500 → IsTimely within log3
  timely within less = record {
    arrives = λ sender at sent_frame before p past node differ here.
        absurd (⊎_elim (λ le. let no : ⊥ = omega (arith, le, past) in no) (λ only. only node differ here) (at_place (Good late) _ log3 p good3).1);
    waits = λ node at k delay retrans lifetimes before p. let is = at_place (Good late) _ log3 p good3 in omega (arith, is, less);
  }

  pub at_once : h.at ≡ late
  at_once = let ge = h.not_before in let le = h.by_then in omega (arith, ge, le)

  pub meets : MeetsPremises limits events log3
  meets = record {
    bytes = of_bytes;
    sends = sends_bytes;
    runs = runs3;
    timely = timely;
    little = λ within less. loses_little log3 (sound.sound limits events log3 runs3 (of_bytes, sends_bytes)) within (timely within less);
    two = two_nodes;
    key = key;
    holds = held2;
    number = number;
    at = h.at;
    frame = frame;
    sent = record { before = h.before; there = inr (inr (inr (inr (inr (inr h.there))))); number_is = refl };
    tries = (address, usable.number, tries);
    arrives = record { at = late; before = reached2; carried = inr (inr (inl refl)); not_before = let e = at_once in omega (arith, e); in_time = let e = at_once in omega (arith, e) };
  }
