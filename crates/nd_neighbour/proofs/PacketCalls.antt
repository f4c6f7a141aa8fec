-- What a packet does to the table that stands for the history, and what becomes of it.
use Rattle.std.proofs.Common.{cond, ◌≡◌, max, ℕ, ◌+◌, ◌*◌, Bool, true, false, eqb, List, [], ◌∷◌, Option, Some, None, refl, sym, ◌∙◌, ap, subst, arith, inl, inr}
use Rattle.std.specs.Prelude.{is_some, nat_le}
use Rattle.std.proofs.lemmas.Bool.{cond-true, cond-false, cases_Bool}
use Rattle.nd_neighbour.specs.History.{Row, RowKind, Story, story, is_end, Asked, Waits, Used}
use Rattle.nd_neighbour.specs.declared.unreachability_detection.Probing.{Probing}
use Rattle.nd_neighbour.specs.EntryKept.{NeighbourEntry, Stage, Resolving, Known}
use Rattle.nd_neighbour.specs.ReachabilityConfirmation.{Evidence}
use Rattle.nd_neighbour.specs.AddressResolution.{Resolution, resolution_of, room_in, waiting_of}
use Rattle.nd_neighbour.specs.AddressResolutionKept.{asked_entry}
use Rattle.nd_neighbour.specs.UnreachabilityDetection.{Use}
use Rattle.nd_neighbour.specs.Story.{is_present, mac_of, evidence_of, use_of}
use Rattle.nd_neighbour.specs.StoryKept.{stage_by, entry_of, the_entry}
use Rattle.nd_neighbour.specs.TableKept.{address, entry_in, Stands, Alters, NotThere, There}
use Rattle.nd_neighbour.specs.PlaceKept.{Gives, Was, Came}
use Rattle.nd_neighbour.specs.Sending.{then_packet, sending_by, sending_of_story}
use Rattle.nd_neighbour.specs.SendingKept.{known_used, used, used_to, sending_to, GainsPacket, sending_in}
use Rattle.nd_neighbour.proofs.Stories.{absent_mac, absent_router}
use Rattle.nd_neighbour.proofs.LastThree.{keep_short}
use Rattle.nd_neighbour.proofs.Changes.{when_used, when_waits, first_asked}
use Rattle.nd_table.proofs.Keyed.{key_is, put_in, at_key-put, Rises-put}
use Rattle.nd_neighbour.proofs.Steps.{changing, entering, each_other, same_story, entry_present, entry_absent}
use Rattle.nd_neighbour.proofs.Dues.{mac_is}
use Rattle.nd_neighbour.proofs.Entering.{place_made}
use Rattle.nd_neighbour.proofs.NewsCalls.{no_place_needed, place_needed, keys_of}

-- a use of a neighbour whose address is known
pub known_key : (mac : ℕ) (confirmed : Bool) (since : ℕ) (probing : Option Probing) (at retrans : ℕ) (n : NeighbourEntry) → (known_used mac confirmed since probing at retrans n).key ≡ n.key
known_key mac confirmed since None at retrans n = keys_of (nat_le since at) _ _ n refl refl
known_key mac confirmed since (Some p) at retrans n = refl

pub used_key : (at retrans : ℕ) (packet : List ℕ) (n : NeighbourEntry) (k : Stage) → (used_to k at retrans packet n).key ≡ n.key
used_key at retrans packet n (Resolving r t b ws) = refl
used_key at retrans packet n (Known mac c since p) = known_key mac c since p at retrans n

-- what comes to a neighbour that is there changes it
module _ (key now : ℕ) (change : NeighbourEntry → NeighbourEntry) (keeps : (n : NeighbourEntry) → (change n).key ≡ n.key) where
  pub row_stands : (h : RowKind) (old new : List NeighbourEntry) (history : List Row) → is_end h ≡ false → Stands old history → Alters key change old new → is_some (entry_in key old) ≡ true
      → ((s : Story) → is_present s ≡ true → mac_of s ≡ mac_of (story key history) → entry_of key ((now, h) ∷ s) ≡ Some (change (the_entry key s))) → Stands new ((now, key, h) ∷ history)
  row_stands h old new history goes s (NotThere none is) some makes = let e : false ≡ true = sym (ap is_some none) ∙ some in absurd (cc)
  row_stands h old new history goes s (There i n lt at_i found is) some makes =
      let known = entry_present key (story key history) n (sym (s.each key) ∙ found) in
      let n_key : n.key ≡ key = key_is address key old n found in
      (changing old new key now h i n (change n) goes lt at_i found (keeps n ∙ n_key) n_key is
      (λ s' p e. makes s' p (sym (mac_is key now n s' e) ∙ mac_is key now n (story key history) known.1) ∙ ap (λ (m : NeighbourEntry). Some (change m)) (sym e))).stands history s

-- to one that enters, a resolution begins, and something waits for it
module _ (key now retrans room : ℕ) where
  -- the node of a resolution before anything waits
  only_asked : NeighbourEntry
  only_asked = record { key = key; router = false; due = now + retrans; stage = Resolving retrans 0 false (record { room = max 1 room; packets = [] }) }

  asked_first : (s : Story) → is_present s ≡ false → entry_of key ((now, Asked retrans room) ∷ s) ≡ Some only_asked
  unfolding only_asked
  asked_first s absent =
      let e : now + (0 + 1) * retrans ≡ now + retrans = omega arith in
      rw (absent_mac s absent, absent_router s absent, e, keep_short {X = List ℕ} (max 1 room) [] (omega arith)) refl

  only_key : only_asked.key ≡ key
  unfolding only_asked
  only_key = refl

  pub begun_stands : (h : RowKind) (m : NeighbourEntry) → is_end h ≡ false → m.key ≡ key → ((s : Story) → is_present s ≡ false → entry_of key ((now, h) ∷ (now, Asked retrans room) ∷ s) ≡ Some m)
      → (mid new : List NeighbourEntry) (made : List Row) → Stands mid made → entry_in key mid ≡ None → new ≡ put_in address m mid → Stands new ((now, key, h) ∷ (now, key, Asked retrans room) ∷ made)
  begun_stands h m goes m_key first mid new made s none is =
      let gone = entry_absent key (story key made) (sym (s.each key) ∙ none) in
      let before = (entering mid (put_in address only_asked mid) key now (Asked retrans room) only_asked refl none only_key refl asked_first).stands made s in
      let told : entry_of key (story key ((now, key, h) ∷ (now, key, Asked retrans room) ∷ made)) ≡ Some m =
      ap (entry_of key) (same_story key now h ((now, key, Asked retrans room) ∷ made) goes ∙ ap (λ (x : Story). (now, h) ∷ x) (same_story key now (Asked retrans room) made refl))
      ∙ first (story key made) gone in
      rw is (record {
        each = λ k. each_other k key now h ((now, key, Asked retrans room) ∷ made) (put_in address only_asked mid) (put_in address m mid) (Some m)
            (λ j. at_key-put address j m mid ∙ (ap (λ (x : ℕ). cond (eqb x j) (Some m) (entry_in j mid)) m_key ∙ elim (cases_Bool (eqb key j)) [
              | inl e ↦ cond-true (eqb key j) (Some m) (entry_in j mid) e ∙ sym (cond-true (eqb key j) (Some m) (entry_in j (put_in address only_asked mid)) e)
              | inr e ↦ cond-false (eqb key j) (Some m) (entry_in j mid) e
                  ∙ sym (cond-false (eqb key j) (Some m) (entry_in j (put_in address only_asked mid)) e
                  ∙ (at_key-put address j only_asked mid ∙ cond-false (eqb only_asked.key j) (Some only_asked) (entry_in j mid) (ap (λ (x : ℕ). eqb x j) only_key ∙ e)))
            ]))
            before.each (sym told);
        order = Rises-put address m mid s.order (ap (λ (x : ℕ). entry_in x mid) m_key ∙ none);
      })

module _ (key now retrans room : ℕ) (packet : List ℕ) where
  -- to a neighbour that is there
  used_stands : (old new : List NeighbourEntry) (history : List Row) (mac : Option ℕ) → Stands old history → mac_of (story key history) ≡ mac → Alters key (λ n. used now retrans packet n) old new → is_some (entry_in key old) ≡ true → Stands new (then_packet true mac now key retrans room packet history)
  used_stands old new history None s mac_eq a some =
      row_stands key now (λ n. used now retrans packet n) (λ n. used_key now retrans packet n n.stage) (Waits packet) old new history refl s a some
      (λ s' p e. when_waits key now s' p retrans packet (e ∙ mac_eq))
  used_stands old new history (Some mac) s mac_eq a some =
      row_stands key now (λ n. used now retrans packet n) (λ n. used_key now retrans packet n n.stage) (Used retrans) old new history refl s a some
      (λ s' p e. when_used key now s' p retrans mac packet (e ∙ mac_eq))

  pub takes_packet : (limit : ℕ) (old new : List NeighbourEntry) → Gives limit now key (λ n. used now retrans packet n) (asked_entry key now retrans room packet) old new → GainsPacket limit now key retrans room packet old new
  takes_packet limit old new (Was n found a) = record {
    stands = λ history s.
        let known = entry_present key (story key history) n (sym (s.each key) ∙ found) in
        let st = used_stands old new history (mac_of (story key history)) s refl a (ap is_some found) in (
          history,
          no_place_needed limit now key true history known.0,
          subst (λ (b : Bool). Stands new (then_packet b (mac_of (story key history)) now key retrans room packet history)) (sym known.0) st,
        );
  }
  takes_packet limit old new (Came mid none places is) = record {
    stands = λ history s.
        let gone = entry_absent key (story key history) (sym (s.each key) ∙ none) in
        let place = place_made limit now key old mid history s none places in
        let st = begun_stands key now retrans room (Waits packet) (asked_entry key now retrans room packet) refl refl (λ story' absent. first_asked key now story' absent retrans room packet) mid new place.0 place.2 place.3 is in (
          place.0,
          place_needed limit now key history place.0 gone place.1,
          subst (λ (b : Bool). Stands new (then_packet b (mac_of (story key history)) now key retrans room packet place.0)) (sym gone) st,
        );
  }

sending_by_stage : (packet : List ℕ) (mac : Option ℕ) (w : Option Evidence) (u : Option Use) (r : Option Resolution) (ws : List (List ℕ)) → sending_to (stage_by mac w u r ws) packet ≡ sending_by true mac (room_in r) ws packet
sending_by_stage packet None w u r ws = refl
sending_by_stage packet (Some mac) w u r ws = refl

-- what becomes of a packet is what the history says
sending_told : (key : ℕ) (packet : List ℕ) (s : Story) (o : Option NeighbourEntry) → o ≡ entry_of key s → sending_in o packet ≡ sending_of_story s packet
sending_told key packet s None is = ap (λ b. sending_by b (mac_of s) (room_in (resolution_of s)) (waiting_of s) packet) (sym (entry_absent key s (sym is)))
sending_told key packet s (Some n) is =
    let known = entry_present key s n (sym is) in
    ap (λ (m : NeighbourEntry). sending_to m.stage packet) known.1
    ∙ (sending_by_stage packet (mac_of s) (evidence_of s) (use_of s) (resolution_of s) (waiting_of s) ∙ ap (λ b. sending_by b (mac_of s) (room_in (resolution_of s)) (waiting_of s) packet) (sym known.0))

pub sending_by_history : (key : ℕ) (packet : List ℕ) (old : List NeighbourEntry) (history : List Row) → Stands old history → sending_in (entry_in key old) packet ≡ sending_of_story (story key history) packet
sending_by_history key packet old history s = sending_told key packet (story key history) (entry_in key old) (s.each key)
