-- Each neighbour has room or hasn't, and a packet to one that has room goes, as one that has room is wanted.
use Rattle.std.proofs.Common.{◌≡◌, ℕ, Bool, true, false, ltb, List, ◌∷◌, length, Option, Some, None, refl, sym, ◌∙◌, ap, subst, arith, ◌⊎◌, inl, inr}
use Rattle.std.specs.Prelude.{MatchBool, ◌&&◌, ◌||◌, not, is_some}
use Rattle.std.specs.Option.{option_to_list}
use Rattle.nd_addr.specs.declared.addr.Addr.{Addr}
use Rattle.nd_packet.specs.Waiting.{replaced}
use Rattle.std.proofs.lemmas.Bool.Decides.{nat_tests}
use Rattle.std.proofs.lemmas.Bool.{cond-false, true≢false, cases_Bool}
use Rattle.nd_text.proofs.AddressTexts.{some_option}
use Rattle.nd_neighbour.specs.History as neighbours
use Rattle.nd_neighbour.specs.History.{Row, story}
use Rattle.nd_neighbour.specs.GivingWay.{GivesWay, IsFullOfSpeakers}
use Rattle.nd_neighbour.specs.GivingWayKept.{asked_longest}
use Rattle.nd_neighbour.specs.Place.{MakesPlace, HadPlace, Pushed, Prepares, pushing, WouldBeFull}
use Rattle.nd_neighbour.specs.PlaceKept.{stalest, has_place}
use Rattle.nd_neighbour.specs.Room.{HasRoom}
use Rattle.nd_neighbour.specs.RoomKept.{has_room}
use Rattle.nd_neighbour.specs.Sending as sendings
use Rattle.nd_neighbour.specs.Sending.{sending_by, sending_of_story}
use Rattle.nd_neighbour.specs.AddressResolution.{resolution_of, room_in, waiting_of}
use Rattle.nd_neighbour.specs.Story.{is_present, mac_of}
use Rattle.nd_neighbour.specs.StoryKept.{the_entry}
use Rattle.nd_neighbour.specs.TableKept.{entry_in}
use Rattle.nd_neighbour.specs.Wanting.{mac_in}
use Rattle.nd_neighbour.proofs.Entering.{stalest_is_longest, stalest_in}
use Rattle.nd_neighbour.proofs.GivingWay.{longest_found, none_incomplete}
use Rattle.nd_neighbour.proofs.Second.{room_by_history}
use Rattle.nd_neighbour.proofs.Unique.{full_by_history}
use Rattle.nd_chronicle.specs.Start.{Start}
use Rattle.nd_chronicle.specs.Happening.{Chronicle, Limit, Neighbours, Refused, Full, Neighbour, Path, Replaced, WayTo}
use Rattle.nd_chronicle.specs.Histories.{neighbour_history}
use Rattle.nd_chronicle.specs.InForce.{retrans_timer}
use Rattle.nd_chronicle.specs.Message.{HasWay}
use Rattle.nd_chronicle.specs.Packet as packets
use Rattle.nd_chronicle.specs.Packet.{HasPlace, HavePlace, Goes, GoesIfPlaced, with_pushed, then_packet}
use Rattle.nd_chronicle.specs.Refused.{UnlessFull}
use Rattle.nd_chronicle.specs.Resolve.{Wants, WantsIfPlaced, then_wanted, wanting_of}
use Rattle.nd_steps.proofs.Saying.{pushed_history}
use Rattle.nd_existence.proofs.Tables.{nodes_of, nodes_stand}
use Rattle.nd_existence.proofs.Walking.{losing_keeps}

module _ (limit now key : ℕ) (h : List Row) where
  -- a new neighbour has no room, or has one
  pub full_or_not : WouldBeFull limit now key h ⊎ (WouldBeFull limit now key h → ⊥)
  full_or_not =
      let ns = nodes_of h in
      let by = full_by_history limit now key ns h (nodes_stand h) in
      elim (some_option (entry_in key ns)) [
        | inr n ↦ inr (λ full. let none = (by.1 full).0 in let no : Some n.0 ≡ None = sym n.1 ∙ none in absurd (let never : ⊥ = cc in never))
        | inl none ↦ elim (cases_Bool (has_place limit now ns)) [
          | inl has ↦ inr (λ full. absurd (true≢false (sym has ∙ (by.1 full).1)))
          | inr lacks ↦ inl (by.0 (none, lacks))
        ]
      ]

  -- a new neighbour that speaks has no room, or has one
  pub full_of_speakers_or_not : IsFullOfSpeakers limit now key h ⊎ (IsFullOfSpeakers limit now key h → ⊥)
  full_of_speakers_or_not = elim full_or_not [
    | inr never ↦ inr (λ full. never full.full)
    | inl full ↦
        let ns = nodes_of h in
        elim (some_option (asked_longest ns)) [
          | inl none ↦ inl (record { full = full; none_incomplete = none_incomplete ns h (nodes_stand h) none })
          | inr n ↦ inr (λ speakers. speakers.none_incomplete n.0.key (longest_found ns h (nodes_stand h) n.0 n.1).0.incomplete)
        ]
  ]

  -- who gives way to it, if one does
  pub gives_way : (gone : Option ℕ) × GivesWay limit now key h gone
  gives_way = elim full_or_not [
    | inr never ↦ (None, λ full. absurd (never full))
    | inl full ↦
        let ns = nodes_of h in
        elim (some_option (asked_longest ns)) [
          | inl none ↦ (None, λ still. none_incomplete ns h (nodes_stand h) none)
          | inr n ↦ (Some n.0.key, (full, (longest_found ns h (nodes_stand h) n.0 n.1).0))
        ]
  ]

  -- who makes room, where there is room
  place_of_absent : is_present (story key h) ≡ false → (WouldBeFull limit now key h → ⊥) → (pushed : Option ℕ) × MakesPlace limit now h (pushing now pushed h)
  place_of_absent absent never =
      let ns = nodes_of h in
      let s = nodes_stand h in
      let by = full_by_history limit now key ns h s in
      let none : entry_in key ns ≡ None = s.each key ∙ cond-false (is_present (story key h)) (Some (the_entry key (story key h))) None absent in
      elim (cases_Bool (ltb (length ns) limit)) [
        | inl few ↦ (None, HadPlace ns s (grind (arith, nat_tests, few)) refl)
        | inr many ↦ elim (some_option (stalest now ns)) [
          | inr n ↦ (Some n.0.key, Pushed ns n.0.key s (grind (arith, nat_tests, many)) (stalest_is_longest ns h s now n.0 n.1 (stalest_in now ns n.0 s.order n.1)) refl)
          | inl fresh ↦
              let no : has_place limit now ns ≡ false = ap (λ b. b || is_some (stalest now ns)) many ∙ ap is_some fresh in
              absurd (never (by.0 (none, no)))
        ]
      ]

  parts : (a b : Bool) → (a && not b) ≡ true → (a ≡ true) × (b ≡ false)
  parts true false e = (refl, refl)
  parts true true e = absurd (true≢false (sym e))
  parts false b e = absurd (true≢false (sym e))

  prepared_by : (b : Bool) → (b ≡ true → (pushed : Option ℕ) × MakesPlace limit now h (pushing now pushed h))
      → (pushed : Option ℕ) × MatchBool b (MakesPlace limit now h (pushing now pushed h)) (pushing now pushed h ≡ h)
  prepared_by true f = f refl
  prepared_by false f = (None, refl)

  pub prepared : (enters : Bool) → (enters ≡ true → WouldBeFull limit now key h → ⊥) → (pushed : Option ℕ) × Prepares limit now enters key h (pushing now pushed h)
  prepared enters never =
      prepared_by (enters && not (is_present (story key h))) (λ e. let p = parts enters (is_present (story key h)) e in place_of_absent p.1 (never p.0))

-- ---- at a place of a chronicle

-- what is refused adds its refusal alone
pub unless_full : (now : ℕ) (full : Option Limit) (A : Chronicle → Type 0) (c : Chronicle) → (full ≡ None → (d : Chronicle) × A d) → (d : Chronicle) × UnlessFull now full A c d
unless_full now None A c f = f refl
unless_full now (Some limit) A c f = ((now, Refused (Full limit)) ∷ c, refl)

module _ (start : Start) (c : Chronicle) (now key : ℕ) where
  placed_or_not : (WouldBeFull start.limits.neighbours now key (neighbour_history c) ⊎ (WouldBeFull start.limits.neighbours now key (neighbour_history c) → ⊥))
      → (place : Bool) × HasPlace start c now key true place
  placed_or_not (inl full) = (false, (refl, full))
  placed_or_not (inr not_full) = (true, λ e. not_full)

  -- there is room for it or isn't
  pub place_told : (enters : Bool) → (place : Bool) × HasPlace start c now key enters place
  place_told true = placed_or_not (full_or_not start.limits.neighbours now key (neighbour_history c))
  place_told false = (true, λ e. absurd (true≢false (sym e)))

  way_or_not : (IsFullOfSpeakers start.limits.neighbours now key (neighbour_history c) ⊎ (IsFullOfSpeakers start.limits.neighbours now key (neighbour_history c) → ⊥))
      → (place : Bool) × HasWay start c now key true place
  way_or_not (inl full) = (false, (refl, full))
  way_or_not (inr not_full) = (true, λ e. not_full)

  -- there is room for it, where another one may give way to it, or isn't
  pub way_told : (enters : Bool) → (place : Bool) × HasWay start c now key enters place
  way_told true = way_or_not (full_of_speakers_or_not start.limits.neighbours now key (neighbour_history c))
  way_told false = (true, λ e. absurd (true≢false (sym e)))

  pub second_told : (second : ℕ) → (place : Bool) × HavePlace start c now key second place
  second_told second =
      let h = neighbour_history c in
      let ns = nodes_of h in
      let by = room_by_history start.limits.neighbours now key ns h (nodes_stand h) (Some second) in
      elim (cases_Bool (has_room start.limits.neighbours now key (Some second) ns)) [
        | inl has ↦ (true, by.0 has)
        | inr lacks ↦ (false, λ room. absurd (true≢false (sym (by.1 room) ∙ lacks)))
      ]

  -- place is made for it
  pub place_made : (enters : Bool) → (enters ≡ true → WouldBeFull start.limits.neighbours now key (neighbour_history c) → ⊥)
      → (d : Chronicle) × packets.MakesPlace start c now key enters d
  place_made enters never =
      let p = prepared start.limits.neighbours now key (neighbour_history c) enters never in
      (with_pushed now p.0 c, record { pushed = p.0; place = p.1; with_it = refl })

  -- a packet goes to it
  pub packet_goes : (packet : List ℕ) → (WouldBeFull start.limits.neighbours now key (neighbour_history c) → ⊥) → (d : Chronicle) × Goes start c now key packet d
  packet_goes packet never =
      let p = place_made true (λ e. never) in
      (then_packet start now key (retrans_timer c) packet (sending_of_story (story key (neighbour_history c)) packet) p.0, record { placed = p.0; place = p.1; goes = refl })

  goes_by : (packet : List ℕ) (place : Bool) → HasPlace start c now key true place → (d : Chronicle) × GoesIfPlaced start now key packet c d
  goes_by packet true has = let g = packet_goes packet (has refl) in (g.0, (true, has, g.1))
  goes_by packet false has = ((now, Refused (Full Neighbours)) ∷ c, (false, has, refl))

  -- or is refused
  pub goes_if_placed : (packet : List ℕ) → (d : Chronicle) × GoesIfPlaced start now key packet c d
  goes_if_placed packet = let p = place_told true in goes_by packet p.0 p.1

  -- its link-layer address is wanted
  wanted : (destination : Addr) → (WouldBeFull start.limits.neighbours now key (neighbour_history c) → ⊥) → (d : Chronicle) × Wants start destination c now key d
  wanted destination never =
      let p = place_made true (λ e. never) in
      let wanting = wanting_of (story key (neighbour_history c)) in
      ((now, Path destination (WayTo key (mac_in wanting))) ∷ then_wanted start now key (retrans_timer c) wanting p.0, record { placed = p.0; place = p.1; wants = refl })

  wanted_by : (destination : Addr) (place : Bool) → HasPlace start c now key true place → (d : Chronicle) × WantsIfPlaced start now destination key c d
  wanted_by destination true has = let w = wanted destination (has refl) in (w.0, (true, has, w.1))
  wanted_by destination false has = ((now, Refused (Full Neighbours)) ∷ c, (false, has, refl))

  -- or that is refused
  pub wanted_if_placed : (destination : Addr) → (d : Chronicle) × WantsIfPlaced start now destination key c d
  wanted_if_placed destination = let p = place_told true in wanted_by destination p.0 p.1

-- ---- the rows of a packet

module _ (start : Start) (at key retrans : ℕ) (packet : List ℕ) (placed : Chronicle) where
  packet_rows_by : (present : Bool) (mac : Option ℕ) (room : ℕ) (waiting : List (List ℕ))
      → sendings.then_packet present mac at key retrans start.limits.waiting packet (neighbour_history placed)
      ≡ neighbour_history (then_packet start at key retrans packet (sending_by present mac room waiting packet) placed)
  packet_rows_by false mac room waiting = refl
  packet_rows_by true (Some mac) room waiting = refl
  packet_rows_by true None room waiting =
      losing_keeps at (λ d. (at, key, neighbours.Waits packet) ∷ neighbour_history placed ≡ neighbour_history d) (λ why lost d e. e) Replaced
      (option_to_list (replaced room waiting packet)) ((at, Neighbour key (neighbours.Waits packet)) ∷ placed) refl

-- where there is room for two, a packet to the first one leaves place for the second one
pub second_placed : (start : Start) (c : Chronicle) (now key next : ℕ) (packet : List ℕ) (d : Chronicle) → HasRoom start.limits.neighbours now key (Some next) (neighbour_history c)
    → Goes start c now key packet d → WouldBeFull start.limits.neighbours now next (neighbour_history d) → ⊥
second_placed start c now key next packet d room g full =
    let h = neighbour_history c in
    let s = story key h in
    let made = pushing now g.place.pushed h in
    let rows : neighbour_history d ≡ sendings.then_packet (is_present s) (mac_of s) now key (retrans_timer c) start.limits.waiting packet made =
    ap neighbour_history g.goes
    ∙ (sym (packet_rows_by start now key (retrans_timer c) packet g.placed (is_present s) (mac_of s) (room_in (resolution_of s)) (waiting_of s))
    ∙ ap (λ (rest : List Row). sendings.then_packet (is_present s) (mac_of s) now key (retrans_timer c) start.limits.waiting packet rest)
    (ap neighbour_history g.place.with_it ∙ pushed_history now g.place.pushed c)) in
    room.both (retrans_timer c) start.limits.waiting packet made g.place.place (subst (λ (rest : List Row). WouldBeFull start.limits.neighbours now next rest) rows full)
