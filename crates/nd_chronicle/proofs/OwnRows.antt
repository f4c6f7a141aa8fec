-- What happens to the own addresses: what comes, and what is due, brings them few rows, and most of it none.
use Rattle.std.proofs.Common.{◌≡◌, ℕ, Bool, true, false, cond, List, [], ◌∷◌, Option, Some, None, refl, sym, ◌∙◌, ap, subst, arith, inl, inr}
use Rattle.std.specs.Prelude.{MatchBool, MatchOption, map, nat_lt, ◌≤◌, bytes_eq, ◌||◌, ◌&&◌, ◌==◌, ◌≢◌, not}
use Rattle.std.specs.List.{AllByRecursion}
use Rattle.nd_addr.specs.Bytes.{IsBytes}
use Rattle.std.proofs.lemmas.Bool.{cases_Bool, eqb-false, ltb-true}
use Rattle.std.specs.Option.{option_map, option_to_list}
use Rattle.nd_addr.specs.declared.addr.Addr.{Addr}
use Rattle.nd_addr.specs.declared.mac.Mac.{Mac}
use Rattle.nd_addr.specs.Kind.{multicast_prefix, unspecified_address}
use Rattle.nd_addr.specs.Ip6.{PacketParts}
use Rattle.nd_addr.specs.Frame.{addressed}
use Rattle.nd_addr.specs.Number.{mac_at, number_of, holds}
use Rattle.nd_addr.specs.Places.{payload_in}
use Rattle.nd_addr.specs.declared.role.Role.{Role}
use Rattle.nd_addr.specs.declared.role.Role.TheVariants.{Host, Router}
use Rattle.nd_advertiser.specs.Advertising.{advertised_by, tells_its_end}
use Rattle.nd_advertiser.specs.Config.{Settings}
use Rattle.nd_advertiser.specs.Contents.{last_contents_of}
use Rattle.nd_forwarding.specs.Forward.{Fate, lost_no_route, lost_hop_limit, sent, fate}
use Rattle.nd_forwarding.specs.Routes.{routes}
use Rattle.nd_decode.specs.Message.{Parts, Spells}
use Rattle.nd_decode.specs.Option.{Said}
use Rattle.nd_decode.specs.Reading.{info_read, lifetime_read, most_lifetime, options_read}
use Rattle.nd_decode.specs.declared.prefix_info.PrefixInfo.{PrefixInfo}
use Rattle.nd_decode.specs.declared.reading.Reading.{Reading}
use Rattle.nd_decode.specs.declared.body.Body.{Body}
use Rattle.nd_decode.specs.declared.neighbor_solicitation.NeighborSolicitation.{NeighborSolicitation}
use Rattle.nd_message.specs.Fitting.{FitsPrefix}
use Rattle.nd_decode.specs.declared.body.Body.TheVariants as bodies
use Rattle.nd_decode.specs.declared.router_advertisement.RouterAdvertisement.{RouterAdvertisement}
use Rattle.nd_table.specs.declared.lasting.Lasting.{Lasting}
use Rattle.nd_params.specs.Params.{redraws}
use Rattle.nd_validity.specs.Hearing.{Outcome, Hears, valid, other, dropped}
use Rattle.nd_neighbour.specs.Due as neighbours_due
use Rattle.nd_neighbour.specs.EntryKept.{NeighbourEntry, waiting_in}
use Rattle.nd_neighbour.specs.History as neighbours
use Rattle.nd_neighbour.specs.History.{RowKind, story}
use Rattle.nd_neighbour.specs.News.{released_by}
use Rattle.nd_neighbour.specs.Sending.{Sending, Sends, Queues}
use Rattle.nd_neighbour.specs.Story.{is_awaited, mac_of, waits_of}
use Rattle.nd_neighbour.specs.Wanting.{Wanting, IsKnown, Awaits}
use Rattle.nd_nexthop.specs.NextHop.{NextHop, direct, via, no_route}
use Rattle.nd_slaac.specs.Due as addresses_due
use Rattle.nd_slaac.specs.Due.{Falls, Ends, Solicits, Assigns, due_row}
use Rattle.nd_slaac.specs.History as addresses
use Rattle.nd_slaac.specs.ByHand.{AddressByHand}
use Rattle.nd_slaac.specs.History.{Lifetimes}
use Rattle.nd_slaac.specs.PrefixOption.{prefixes_in}
use Rattle.nd_slaac.specs.State as states
use Rattle.nd_chronicle.specs.Start.{Start, link_local, link_local_key}
use Rattle.nd_chronicle.specs.Happening.{Chronicle, Address, Sent, Heard, Ignored, Limit, Refused, Lost, Neighbour, Path, Ceased, RedirectMade, Way, Forgotten, Loss, Unreachable, Refusal, Disabled, Tentative, Full}
use Rattle.nd_chronicle.specs.Histories.{address_history, neighbour_history, advertising_history, route_history}
use Rattle.nd_chronicle.specs.InForce.{base_reachable_time}
use Rattle.nd_chronicle.specs.OwnAddress.{story_of, is_assigned, is_disabled, is_own, is_tentative, is_up, refusal_unless_up}
use Rattle.nd_chronicle.specs.Packet.{losing, sending, with_pushed, MakesPlace, then_packet, Goes, GoesIfPlaced}
use Rattle.nd_chronicle.specs.Refused.{UnlessRefused, AtRouter}
use Rattle.nd_chronicle.specs.Advertising.{advertising_by, planning, telling_end, wants_answer, full_of_offers, full_of_routes}
use Rattle.nd_chronicle.specs.Forwarding.{Redirects, SendsOn, FateAdds, redirect_to}
use Rattle.nd_chronicle.specs.Reading.{read_outcome, reading_of}
use Rattle.nd_chronicle.specs.Solicited.{IsReadAt, outcome_at}
use Rattle.nd_chronicle.proofs.Named.{heard_fit, part_fits}
use Rattle.nd_chronicle.proofs.Reading.{prefixes_as_placed, prefixes_as_said, prefixes_read}
use Rattle.nd_chronicle.specs.Hearing.{Verdict, hears, goes_up, goes_on, drops, IsForUs, Judges, IsTaken, takes_target, is_awake}
use Rattle.nd_chronicle.specs.Message.{said, PlaceFor, RoomFor, failing_for, sending_if_known, telling_if_known, releasing, leaving}
use Rattle.nd_chronicle.specs.RouterAdvertisement.{forming, heard_from, redrawing, with_delay, then_options, times_out, then_advertised}
use Rattle.nd_chronicle.specs.LinkLayerAddress.{first_slla}
use Rattle.nd_chronicle.specs.Parts.{Taken, IsTakenInPart, as_placed, ignoring, options_taken}
use Rattle.nd_slaac.specs.TableKept.{key_of}
use Rattle.nd_chronicle.specs.NeighborSolicitation as asked
use Rattle.nd_chronicle.specs.NeighborSolicitation.{then_tried}
use Rattle.nd_chronicle.specs.NeighborAdvertisement.{conflicting, ends_in_list, then_neighbor_advertised}
use Rattle.nd_chronicle.specs.ByHand.{FormsByHand, no_room, setting}
use Rattle.nd_chronicle.specs.Resolve.{PathAdds, Wants, WantsIfPlaced, then_wanted, wanting_of}
use Rattle.nd_chronicle.specs.Event as events
use Rattle.nd_chronicle.specs.Event.{Event, Clearable, packet_bytes, HeardAdds, InPart, MessageAdds, PartAdds, VerdictAdds, PacketAdds, HopAdds, packet_sent, refusal_of_packet, refusal_of_carried, ClearAdds, clearing, all_leaving, EventAdds}
use Rattle.nd_chronicle.specs.Due.{What, RouterEnds, AddressFalls, NeighbourFalls, RoutersSolicited, RouterAdvertises, Redraws, Due, then_address, then_neighbour, comes}

-- ---- what doesn't concern the own addresses

abbrev pub Same : Chronicle → Chronicle → Type 0
Same c d = address_history d ≡ address_history c

module _ (at : ℕ) where
  losing_same : (why : Loss) (packets : List (List ℕ)) (c : Chronicle) → Same c (losing at why packets c)
  losing_same why [] c = refl
  losing_same why (packet ∷ packets) c = losing_same why packets ((at, Lost why packet) ∷ c)

  sending_same : (mac : ℕ) (packets : List (List ℕ)) (c : Chronicle) → Same c (sending at mac packets c)
  sending_same mac [] c = refl
  sending_same mac (packet ∷ packets) c = sending_same mac packets _

  pushed_same : (pushed : Option ℕ) (c : Chronicle) → Same c (with_pushed at pushed c)
  pushed_same None c = refl
  pushed_same (Some key) c = refl

  known_same : (mac : Option ℕ) (packets : List (List ℕ)) (c : Chronicle) → Same c (sending_if_known at mac packets c)
  known_same None packets c = refl
  known_same (Some mac) packets c = sending_same mac packets c

  told_same : (key : ℕ) (mac : Option ℕ) (awaited : Bool) (c : Chronicle) → Same c (telling_if_known at key mac awaited c)
  told_same key None awaited c = refl
  told_same key (Some mac) true c = refl
  told_same key (Some mac) false c = refl

  releasing_same : (news : Option (ℕ × RowKind)) (history : List neighbours.Row) (c : Chronicle) → Same c (releasing at news history c)
  releasing_same None history c = refl
  releasing_same (Some news) history c =
      told_same news.0 (mac_of ((at, news.1) ∷ story news.0 history)) (is_awaited (story news.0 history)) _
      ∙ known_same (mac_of ((at, news.1) ∷ story news.0 history)) (released_by at news.1 (story news.0 history)) c

  leaving_same : (leaves : Bool) (key : ℕ) (c : Chronicle) → Same c (leaving at leaves key c)
  leaving_same true key c = refl
  leaving_same false key c = refl

  module _ (start : Start) where
    packet_same : (key retrans : ℕ) (packet : List ℕ) (s : Sending) (c : Chronicle) → Same c (then_packet start at key retrans packet s c)
    packet_same key retrans packet (Sends mac frame) c = refl
    packet_same key retrans packet (Queues true replaced) c = refl
    packet_same key retrans packet (Queues false replaced) c = losing_same _ (option_to_list replaced) _

    wanted_same : (key retrans : ℕ) (w : Wanting) (c : Chronicle) → Same c (then_wanted start at key retrans w c)
    wanted_same key retrans (IsKnown mac) c = refl
    wanted_same key retrans (Awaits true) c = refl
    wanted_same key retrans (Awaits false) c = refl

    redrawing_same : (base : ℕ) (draws : Bool) (c : Chronicle) → Same c (redrawing start at base draws c)
    redrawing_same base true c = refl
    redrawing_same base false c = refl

    pub delay_same : (to_all : Bool) (c : Chronicle) → Same c (with_delay start at to_all c)
    delay_same true c = refl
    delay_same false c = refl

    pub neighbour_same : (falls : neighbours_due.Falls) (c : Chronicle) → Same c (then_neighbour start at falls c)
    neighbour_same (neighbours_due.Multicasts key) c = refl
    neighbour_same (neighbours_due.Unicasts key mac) c = refl
    neighbour_same (neighbours_due.Fails key packets) c = losing_same _ packets _
    neighbour_same (neighbours_due.Ages key) c = refl

    pub advertising_same : (settings : Option Settings) (c : Chronicle) → Same c (advertising_by start at settings c)
    advertising_same None c = refl
    advertising_same (Some settings) c = refl

    planning_same : (wants : Bool) (c : Chronicle) → Same c (planning start at wants c)
    planning_same true c = refl
    planning_same false c = refl

    telling_same : (tells : Bool) (message : Option Parts) (c : Chronicle) → Same c (telling_end start at tells message c)
    telling_same true (Some message) c = refl
    telling_same true None c = refl
    telling_same false message c = refl

    clearing_same : (entries : List NeighbourEntry) (c : Chronicle) → Same c (clearing start at entries c)
    clearing_same [] c = refl
    clearing_same (n ∷ entries) c = clearing_same entries _ ∙ losing_same _ (waiting_in n.stage) _

    all_leaving_same : (entries : List (Lasting ℕ)) (c : Chronicle) → Same c (all_leaving start at entries c)
    all_leaving_same [] c = refl
    all_leaving_same (e ∷ entries) c = all_leaving_same entries _

place_same : (start : Start) (c : Chronicle) (at key : ℕ) (enters : Bool) (d : Chronicle) → MakesPlace start c at key enters d → Same c d
place_same start c at key enters d m = ap address_history m.with_it ∙ pushed_same at m.pushed c

place_for_same : (start : Start) (c : Chronicle) (at : ℕ) (news : Option (ℕ × RowKind)) (d : Chronicle) → PlaceFor start c at news d → Same c d
place_for_same start c at None d m = ap address_history m
place_for_same start c at (Some news) d m = place_same start c at news.0 _ d m

room_same : (start : Start) (c : Chronicle) (at : ℕ) (news : Option (ℕ × RowKind)) (gone : Option ℕ) (d : Chronicle) → RoomFor start c at news gone d → Same c d
room_same start c at news None d m = place_for_same start c at news d m.place
room_same start c at news (Some gone) d m = ap address_history m.place ∙ pushed_same at (Some gone) c

failing_same : (at : ℕ) (gone : Option ℕ) (history : List neighbours.Row) (c : Chronicle) → Same c (failing_for at gone history c)
failing_same at None history c = refl
failing_same at (Some key) history c = losing_same at Unreachable (waits_of (story key history)) ((at, Neighbour key (neighbours.Forgot neighbours.Failed)) ∷ c)

goes_same : (start : Start) (c : Chronicle) (at key : ℕ) (packet : List ℕ) (d : Chronicle) → Goes start c at key packet d → Same c d
goes_same start c at key packet d g = ap address_history g.goes ∙ packet_same at start key _ packet _ g.placed ∙ place_same start c at key true g.placed g.place

wants_same : (start : Start) (destination : Addr) (c : Chronicle) (at key : ℕ) (d : Chronicle) → Wants start destination c at key d → Same c d
wants_same start destination c at key d w =
    ap address_history w.wants ∙ wanted_same at start key _ (wanting_of (story key (neighbour_history c))) w.placed ∙ place_same start c at key true w.placed w.place

-- ---- what an event brings

-- What an event brings the own addresses.
pub data Brings (start : Start) (now : ℕ) (event : Event) (c d : Chronicle) : Type 0 where
  -- no row
  Nothing : Same c d → Brings start now event c d
  -- a conflict of one that is tentative
  Conflicts : (key : ℕ) → states.is_tentative (story_of c key) ≡ true → address_history d ≡ (now, key, addresses.Conflict) ∷ address_history c → Brings start now event c d
  -- what the prefix options of a Router Advertisement name, which is heard only where the link-local address is assigned
  Announces : (frame : List ℕ) (infos : List PrefixInfo) (to_all : Bool) (e : Chronicle) → event ≡ events.Receives frame → (IsBytes frame → AllByRecursion FitsPrefix infos) → is_up start c ≡ true
      → Same c e → Same (then_options start now to_all infos e) d → Brings start now event c d
  -- lifetimes of a known one other than the link-local one, set by hand
  SetsKnown : (key : ℕ) (lifetimes : Lifetimes) → key ≢ link_local_key start → states.is_known (story_of c key) ≡ true
      → address_history d ≡ (now, key, addresses.SetByHand lifetimes) ∷ address_history c → Brings start now event c d
  -- one that wasn't known, given by hand where the link-local address is assigned
  FormsSet : (own : AddressByHand) → event ≡ events.Sets own → number_of own.address.0 ≢ link_local_key start → states.is_known (story_of c (number_of own.address.0)) ≡ false → is_up start c ≡ true
      → Same (setting start now (number_of own.address.0) own.lifetimes (forming start now false (number_of own.address.0) own.lifetimes c)) d → Brings start now event c d
  -- the end of a known one other than the link-local one
  EndsKnown : (key : ℕ) → key ≢ link_local_key start → states.is_known (story_of c key) ≡ true → address_history d ≡ (now, key, addresses.Ended) ∷ address_history c → Brings start now event c d

-- the frame spells a message with these prefixes, read in some way
record IsSpelled (frame : List ℕ) (options : List Said) : Type 0 where
  pub spelling : Parts
  pub spelled : Spells (payload_in frame) spelling
  pub reading : Reading
  pub prefixes : prefixes_in options ≡ map (info_read reading) (prefixes_in spelling.options)

-- no lifetime is read as a longer one
read_within : (is_bounded : Bool) (seconds : ℕ) → lifetime_read is_bounded seconds ≤ seconds
unfolding lifetime_read
read_within false seconds = omega arith
read_within true seconds = elim (cases_Bool (nat_lt most_lifetime seconds)) [
  | inl long ↦ rw long (omega (arith, ltb-true _ _ long))
  | inr short ↦ rw short (omega arith)
]

-- an option has the prefix that it is said to have
fit_as_read : (reading : Reading) (infos : List PrefixInfo) → AllByRecursion FitsPrefix infos → AllByRecursion FitsPrefix (map (info_read reading) infos)
fit_as_read reading [] all = all
fit_as_read reading (info ∷ infos) all = (
  record {
    prefix_is = all.0.prefix_is;
    valid = omega (arith, read_within reading.bounded info.valid_lifetime, all.0.valid);
    preferred = omega (arith, read_within reading.bounded info.preferred_lifetime, all.0.preferred);
  },
  fit_as_read reading infos all.1,
)

abbrev prefixes_of : Outcome → List PrefixInfo
prefixes_of (valid source destination message) = prefixes_in message.options
prefixes_of (other packet) = []
prefixes_of (dropped why) = []

-- no policy reads other prefixes
spelled_as : (start : Start) (c : Chronicle) (now : ℕ) (frame : List ℕ) (source destination : Addr) (message : Parts) (said : Outcome) → Hears frame start.role said
    → valid source destination message ≡ outcome_at start c now (read_outcome start.policies start.mac said) → IsSpelled frame message.options
spelled_as start c now frame source destination message (valid s d m) h e =
    let reading = reading_of start.policies in
    record {
      spelling = m;
      spelled = h.4;
      reading = reading;
      prefixes = ap prefixes_of e ∙ (prefixes_as_said start.policies start.mac (options_read reading m.options) ∙ sym (prefixes_read reading m.options));
    }
spelled_as start c now frame source destination message (other packet) h e = let no : ⊥ = cc in absurd no
spelled_as start c now frame source destination message (dropped why) h e = let no : ⊥ = cc in absurd no

module _ (start : Start) (now : ℕ) (event : Event) (c : Chronicle) where
  brings_refused : (r : Option Refusal) (A : Chronicle → Type 0) (d : Chronicle) → (A d → Brings start now event c d) → UnlessRefused now r A c d → Brings start now event c d
  brings_refused None A d g h = g h
  brings_refused (Some refusal) A d g h = Nothing (ap address_history h)

  brings_at_router : (role : Role) (A : Chronicle → Type 0) (d : Chronicle) → (A d → Brings start now event c d) → AtRouter now role A c d → Brings start now event c d
  brings_at_router Host A d g h = Nothing (ap address_history h)
  brings_at_router Router A d g h = g h

  -- ---- a message is heard

  module _ (source destination : Addr) (message : Parts) where
    tentative_else : (a t u : Bool) → (a || (t && u)) ≡ true → a ≡ false → t ≡ true
    tentative_else true t u h e = absurd (let no : ⊥ = cc in no)
    tentative_else false true u h e = refl
    tentative_else false false u h e = absurd (let no : ⊥ = cc in no)

    brings_tried : (target : Addr) (frame : List ℕ) (d : Chronicle) (assigned : Bool) → is_assigned c target.0 ≡ assigned → (is_assigned c target.0 ≡ false → is_tentative c target.0 ≡ true)
        → d ≡ cond assigned ((now, Sent frame) ∷ (now, Heard source destination message) ∷ c) ((now, Address (number_of target.0) addresses.Conflict) ∷ (now, Heard source destination message) ∷ c)
        → Brings start now event c d
    brings_tried target frame d true is tentative h = Nothing (ap address_history h)
    brings_tried target frame d false is tentative h = Conflicts (number_of target.0) (tentative is) (ap address_history h)

    brings_answer : (target : Addr) (d : Chronicle) → asked.Answers start now source destination target message c d → Brings start now event c d
    brings_answer target d h =
        let row = (now, Heard source destination message) ∷ h.placed in
        let behind = failing_for now h.gone (neighbour_history c) row in
        let b = releasing now (said c source message) (neighbour_history h.placed) behind in
        Nothing (reply_same (asked.sent_alone_to start now (number_of source.0) b) _ _ b d h.answer
        ∙ releasing_same now (said c source message) (neighbour_history h.placed) behind
        ∙ failing_same now h.gone (neighbour_history c) row
        ∙ room_same start c now (said c source message) h.gone h.placed h.room)
      where
        reply_same : (known : Option ℕ) (key : ℕ) (packet : List ℕ) (b d : Chronicle)
            → MatchOption known (Goes start b now key packet d) (λ mac. d ≡ (now, Sent (addressed (mac_at mac) packet)) ∷ b) → Same b d
        reply_same None key packet b d h = goes_same start b now key packet d h
        reply_same (Some mac) key packet b d h = ap address_history h

    brings_solicited : (t : Bool) (target : Addr) (d : Chronicle) → (is_assigned c target.0 ≡ false → is_tentative c target.0 ≡ true)
        → MatchBool t (d ≡ then_tried start now target ((now, Heard source destination message) ∷ c)) (asked.Answers start now source destination target message c d) → Brings start now event c d
    brings_solicited true target d tentative h = brings_tried target _ d (is_assigned c target.0) refl tentative h
    brings_solicited false target d tentative h = brings_answer target d h

    known_place : (gone : Option ℕ) (placed : Chronicle) → RoomFor start c now (said c source message) gone placed
        → Same c (releasing now (said c source message) (neighbour_history placed) (failing_for now gone (neighbour_history c) ((now, Heard source destination message) ∷ placed)))
    known_place gone placed p =
        let row = (now, Heard source destination message) ∷ placed in
        releasing_same now (said c source message) (neighbour_history placed) (failing_for now gone (neighbour_history c) row)
        ∙ failing_same now gone (neighbour_history c) row
        ∙ room_same start c now (said c source message) gone placed p

    brings_conflict : (target : Addr) (placed d : Chronicle) (t : Bool) → is_tentative placed target.0 ≡ t → Same c placed
        → Same (conflicting now t (number_of target.0) ((now, Heard source destination message) ∷ placed)) d → Brings start now event c d
    brings_conflict target placed d true is same h =
        Conflicts (number_of target.0) (subst (λ (l : List addresses.Row). states.is_tentative (addresses.story (number_of target.0) l) ≡ true) same is)
        (h ∙ ap (λ (l : List addresses.Row). (now, number_of target.0, addresses.Conflict) ∷ l) same)
    brings_conflict target placed d false is same h = Nothing (h ∙ same)

    brings_advertised : (target : Addr) (placed d : Chronicle) → PlaceFor start c now (said c source message) placed
        → d ≡ then_neighbor_advertised start now source destination target message placed → Brings start now event c d
    brings_advertised target placed d p h =
        let third = conflicting now (is_tentative placed target.0) (number_of target.0) ((now, Heard source destination message) ∷ placed) in
        let second = releasing now (said placed source message) (neighbour_history placed) third in
        brings_conflict target placed d (is_tentative placed target.0) refl (place_for_same start c now (said c source message) placed p)
        (ap address_history h
        ∙ leaving_same now (ends_in_list start now placed (said placed source message)) (number_of target.0) second
        ∙ releasing_same now (said placed source message) (neighbour_history placed) third)

    -- no Router Advertisement conflicts with an address
    up_by : (up t : Bool) → (up || (t && false)) ≡ true → up ≡ true
    up_by true t h = refl
    up_by false true h = absurd (let no : ⊥ = cc in no)
    up_by false false h = absurd (let no : ⊥ = cc in no)

    heard_same : (listed : Bool) (c : Chronicle) → Same c (heard_from start now source destination message listed c)
    heard_same true c = refl
    heard_same false c = refl

    module _ (frame : List ℕ) (received : event ≡ events.Receives frame) (fit : IsBytes frame → AllByRecursion FitsPrefix (prefixes_in message.options)) where
      brings_names : (ra : RouterAdvertisement) (listed : Bool) (gone : Option ℕ) (placed d : Chronicle) → is_up start c ≡ true → RoomFor start c now (said c source message) gone placed
          → d ≡ then_advertised start now source destination ra message listed gone (neighbour_history c) placed → Brings start now event c d
      brings_names ra listed gone placed d up p h =
          let row = heard_from start now source destination message listed placed in
          let drawn = redrawing start now ra.reachable_time (redraws (base_reachable_time placed) ra.reachable_time) row in
          let third = failing_for now gone (neighbour_history c) drawn in
          let second = releasing now (said placed source message) (neighbour_history placed) third in
          Announces frame (prefixes_in message.options) (holds multicast_prefix destination.0) (leaving now (times_out start now placed source ra) (number_of source.0) second) received fit up
          (leaving_same now (times_out start now placed source ra) (number_of source.0) second
          ∙ releasing_same now (said placed source message) (neighbour_history placed) third
          ∙ failing_same now gone (neighbour_history c) drawn
          ∙ redrawing_same now start ra.reachable_time (redraws (base_reachable_time placed) ra.reachable_time) row
          ∙ heard_same listed placed
          ∙ room_same start c now (said c source message) gone placed p)
          (ap address_history h)

      brings_message : (body : Body) → takes_target c source body ≡ true → is_awake start c source body ≡ true → (d : Chronicle) → MessageAdds start now source destination message body c d → Brings start now event c d
      brings_message (bodies.Ns ns) takes awake d h =
          brings_solicited (bytes_eq source.0 unspecified_address) ns.target d (tentative_else (is_assigned c ns.target.0) (is_tentative c ns.target.0) (bytes_eq source.0 unspecified_address) takes) h
      brings_message (bodies.Ra ra) takes awake d h = brings_names ra true h.0 h.1 d (up_by (is_up start c) (is_tentative c (link_local start).0) awake) h.2 h.3
      brings_message (bodies.Na na) takes awake d h = brings_advertised na.target h.0 d h.1 h.2
      brings_message bodies.Rs takes awake d h =
          Nothing (ap address_history h.3 ∙ planning_same now start (wants_answer start c) _ ∙ known_place h.0 h.1 h.2)
      brings_message (bodies.Redirect r) takes awake d h = Nothing (ap address_history h.3 ∙ known_place h.0 h.1 h.2)

  -- ---- a message is taken in part

  ignoring_same : (limits : List Limit) (c : Chronicle) → Same c (ignoring now limits c)
  ignoring_same [] c = refl
  ignoring_same (limit ∷ limits) c = ignoring_same limits ((now, Ignored limit) ∷ c)

  -- what adds no row of one of the node's addresses
  brings_further : {d e : Chronicle} → Same d e → Brings start now event c d → Brings start now event c e
  brings_further same (Nothing is) = Nothing (same ∙ is)
  brings_further same (Conflicts key tentative is) = Conflicts key tentative (same ∙ is)
  brings_further same (Announces frame infos to_all e received fit up from is) = Announces frame infos to_all e received fit up from (same ∙ is)
  brings_further same (SetsKnown key lifetimes not known is) = SetsKnown key lifetimes not known (same ∙ is)
  brings_further same (FormsSet own set not unknown up is) = FormsSet own set not unknown up (same ∙ is)
  brings_further same (EndsKnown key not known is) = EndsKnown key not known (same ∙ is)

  module _ (source destination : Addr) (message : Parts) (taken : Taken) where
    answered_same : (mac : Option Mac) (packet : List ℕ) (c : Chronicle) → Same c (asked.answered_at start now mac packet c)
    answered_same None packet c = refl
    answered_same (Some mac) packet c = refl

    module _ (frame : List ℕ) (received : event ≡ events.Receives frame) (fit : IsBytes frame → AllByRecursion FitsPrefix (prefixes_in taken.message.options)) where
      brings_part_answer : (ns : NeighborSolicitation) → takes_target c source (bodies.Ns ns) ≡ true → is_awake start c source (bodies.Ns ns) ≡ true → (place : Bool) (d : Chronicle)
          → MatchBool place (MessageAdds start now source destination taken.message (bodies.Ns ns) c d) (d ≡ asked.then_answered start now source destination ns.target message taken.message c) → Brings start now event c d
      brings_part_answer ns takes awake true d h = brings_message source destination taken.message frame received fit (bodies.Ns ns) takes awake d h
      brings_part_answer ns takes awake false d h = Nothing (ap address_history h ∙ answered_same (asked.answer_address (first_slla message.options)) _ ((now, Heard source destination taken.message) ∷ c))

      brings_part : (body : Body) → takes_target c source body ≡ true → is_awake start c source body ≡ true → (d : Chronicle) → PartAdds start now source destination message taken body c d → Brings start now event c d
      brings_part (bodies.Ns ns) takes awake d h = brings_part_answer ns takes awake taken.place d h
      brings_part (bodies.Ra ra) takes awake d h =
          brings_names source destination taken.message frame received fit ra taken.listed h.0 h.1 d (up_by source destination taken.message (is_up start c) (is_tentative c (link_local start).0) awake) h.2 h.3
      brings_part (bodies.Na na) takes awake d h = brings_message source destination taken.message frame received fit (bodies.Na na) takes awake d h
      brings_part bodies.Rs takes awake d h = brings_message source destination taken.message frame received fit bodies.Rs takes awake d h
      brings_part (bodies.Redirect r) takes awake d h = brings_message source destination taken.message frame received fit (bodies.Redirect r) takes awake d h

  -- what is taken has prefixes that fit
  placed_fits : (source : Addr) (message : Parts) (taken : Taken) → taken.message ≡ record { body = message.body; options = as_placed taken.place message.options } → AllByRecursion FitsPrefix (prefixes_in message.options)
      → AllByRecursion FitsPrefix (prefixes_in taken.message.options)
  placed_fits source message taken is fit =
      subst (λ (m : Parts). AllByRecursion FitsPrefix (prefixes_in m.options)) (sym is)
      (subst (λ (infos : List PrefixInfo). AllByRecursion FitsPrefix infos) (sym (prefixes_as_placed taken.place message.options)) fit)

  taken_fits : (source : Addr) (message : Parts) (taken : Taken) (body : Body) → IsTakenInPart start c now source message body taken → AllByRecursion FitsPrefix (prefixes_in message.options)
      → AllByRecursion FitsPrefix (prefixes_in taken.message.options)
  taken_fits source message taken (bodies.Ra ra) t fit =
      let options = options_taken start.limits start.mac now (record { prefixes = t.prefixes; addresses = map key_of t.known; servers = t.servers; names = t.names }) message.options in
      subst (λ (m : Parts). AllByRecursion FitsPrefix (prefixes_in m.options)) (sym t.message_is)
      (subst (λ (infos : List PrefixInfo). AllByRecursion FitsPrefix infos) (sym (prefixes_as_placed taken.place options))
      (part_fits start.limits start.mac now (record { prefixes = t.prefixes; addresses = map key_of t.known; servers = t.servers; names = t.names }) message.options fit))
  taken_fits source message taken (bodies.Ns ns) t fit = placed_fits source message taken t.message_is fit
  taken_fits source message taken (bodies.Na na) t fit = placed_fits source message taken t.message_is fit
  taken_fits source message taken bodies.Rs t fit = placed_fits source message taken t.message_is fit
  taken_fits source message taken (bodies.Redirect r) t fit = placed_fits source message taken t.message_is fit

  module _ (source destination : Addr) (message : Parts) where
    -- what is heard is for this node, and the frame spells its prefixes
    heard : {outcome : Outcome} (frame : List ℕ) → Judges start c now frame outcome (hears source destination message) → IsReadAt start c now frame outcome
        → IsForUs start c source destination message × IsSpelled frame message.options
    heard frame (IsTaken u first) says =
        let read = says.by_frame in
        (u, spelled_as start c now frame source destination message read.said read.by_frame (says.at_moment ∙ ap (outcome_at start c now) read.as_read))

  -- ---- a packet goes

  brings_placed : (key : ℕ) (packet : List ℕ) (d : Chronicle) → GoesIfPlaced start now key packet c d → Brings start now event c d
  brings_placed key packet d h = brings_refused _ (Goes start c now key packet) d (λ g. Nothing (goes_same start c now key packet d g)) h.2

  redirects_same : (target : Addr) (packet : PacketParts) (bytes : List ℕ) (key : ℕ) (d : Chronicle) → Redirects start now target packet bytes key c d → Same c d
  redirects_same target packet bytes key d h = goes_same start h.told now key _ d h.behind ∙ goes_same start ((now, RedirectMade) ∷ c) now _ _ h.told h.redirect

  brings_sends_on : (target : Option Addr) (packet : PacketParts) (bytes : List ℕ) (key : ℕ) (d : Chronicle) → SendsOn start now target packet bytes key c d → Brings start now event c d
  brings_sends_on None packet bytes key d h = brings_placed key _ d h
  brings_sends_on (Some target) packet bytes key d h =
      brings_refused _ (Redirects start now target packet bytes key c) d (λ r. Nothing (redirects_same target packet bytes key d r)) h.2

  brings_fate : (fate : Fate) (packet : PacketParts) (bytes : List ℕ) (d : Chronicle) → FateAdds start now fate packet bytes c d → Brings start now event c d
  brings_fate lost_no_route packet bytes d h = Nothing (ap address_history h)
  brings_fate lost_hop_limit packet bytes d h = Nothing (ap address_history h)
  brings_fate (sent next) packet bytes d h = brings_sends_on (redirect_to start now packet c) packet bytes _ d h

  module _ (source destination : Addr) (message : Parts) (frame : List ℕ) (received : event ≡ events.Receives frame) (fit : IsBytes frame → AllByRecursion FitsPrefix (prefixes_in message.options))
      (takes : takes_target c source message.body ≡ true) (awake : is_awake start c source message.body ≡ true) where
    brings_in_part : (parts : Bool) (limit : Limit) (d : Chronicle) → MatchBool parts (InPart start now source destination message c d) (d ≡ (now, Refused (Full limit)) ∷ c) → Brings start now event c d
    brings_in_part true limit d h =
        brings_further (ap address_history h.all ∙ ignoring_same h.taken.ignored h.told)
        (brings_part source destination message h.taken frame received (λ bytes. taken_fits source message h.taken message.body h.is_taken (fit bytes)) message.body takes awake h.told h.adds)
    brings_in_part false limit d h = Nothing (ap address_history h)

    brings_heard : (full : Option Limit) (d : Chronicle) → HeardAdds start now full source destination message c d → Brings start now event c d
    brings_heard None d h = brings_message source destination message frame received fit message.body takes awake d h
    brings_heard (Some limit) d h = brings_in_part start.policies.parts limit d h

  brings_verdict : (frame : List ℕ) → event ≡ events.Receives frame → (outcome : Outcome) (v : Verdict) (d : Chronicle) → IsReadAt start c now frame outcome → Judges start c now frame outcome v
      → VerdictAdds start now frame v c d → Brings start now event c d
  brings_verdict frame received outcome (drops why) d says j h = Nothing (ap address_history h)
  brings_verdict frame received outcome (goes_up packet) d says j h = Nothing (ap address_history h)
  brings_verdict frame received outcome (goes_on packet) d says j h = brings_fate (fate (is_own c) (routes (route_history c)) packet.header) packet (packet_bytes frame) d h
  brings_verdict frame received outcome (hears source destination message) d says j h =
      let u = heard source destination message frame j says in
      let fit : IsBytes frame → AllByRecursion FitsPrefix (prefixes_in message.options) = λ bytes.
      subst (λ (infos : List PrefixInfo). AllByRecursion FitsPrefix infos) (sym u.1.prefixes) (fit_as_read u.1.reading _ (heard_fit frame u.1.spelling bytes u.1.spelled)) in
      brings_heard source destination message frame received fit u.0.target u.0.awake h.0 d h.2

  -- ---- a packet is to be sent

  module _ (packet : PacketParts) where
    brings_direct : (t : Bool) (what : List ℕ) (key : ℕ) (frame : List ℕ) (d : Chronicle)
        → MatchBool t (d ≡ (now, Sent what) ∷ c) (GoesIfPlaced start now key frame c d) → Brings start now event c d
    brings_direct true what key frame d h = Nothing (ap address_history h)
    brings_direct false what key frame d h = brings_placed key frame d h

    brings_packet : (next : NextHop) (d : Chronicle) → PacketAdds start now next packet c d → Brings start now event c d
    brings_packet no_route d h = Nothing (ap address_history h)
    brings_packet direct d h = brings_direct (holds multicast_prefix packet.header.destination.0) _ _ _ d h
    brings_packet (via key) d h = brings_placed key _ d h

    brings_by_hop : (d : Chronicle) → HopAdds start now packet c d → Brings start now event c d
    brings_by_hop d x = brings_packet x.0 d x.2

  -- ---- a caller asks where packets go

  module _ (destination : Addr) where
    brings_wanted : (key : ℕ) (d : Chronicle) → WantsIfPlaced start now destination key c d → Brings start now event c d
    brings_wanted key d h = brings_refused _ (Wants start destination c now key) d (λ w. Nothing (wants_same start destination c now key d w)) h.2

    brings_direct_path : (t : Bool) (way : Way) (key : ℕ) (d : Chronicle)
        → MatchBool t (d ≡ (now, Path destination way) ∷ c) (WantsIfPlaced start now destination key c d) → Brings start now event c d
    brings_direct_path true way key d h = Nothing (ap address_history h)
    brings_direct_path false way key d h = brings_wanted key d h

    brings_path : (next : NextHop) (d : Chronicle) → PathAdds start now next destination c d → Brings start now event c d
    brings_path no_route d h = Nothing (ap address_history h)
    brings_path direct d h = brings_direct_path (holds multicast_prefix destination.0) _ _ d h
    brings_path (via key) d h = brings_wanted key d h

  -- ---- any event

  brings_clear : (table : Clearable) (d : Chronicle) → ClearAdds start now table c d → Brings start now event c d
  brings_clear events.ClearNeighbours d h = Nothing (ap address_history h.2 ∙ clearing_same now start h.0 c)
  brings_clear events.ClearRouters d h = Nothing (ap address_history h.2 ∙ all_leaving_same now start h.0 c)
  brings_clear events.ClearPrefixes d h = Nothing (ap address_history h)
  brings_clear events.ClearRedirects d h = Nothing (ap address_history h)
  brings_clear events.ClearDns d h = Nothing (ap address_history h)

  -- ---- an address is given by hand, or withdrawn

  brings_set : (own : AddressByHand) → event ≡ events.Sets own → (disabled up itself known : Bool) → is_up start c ≡ up → (number_of own.address.0 == link_local_key start) ≡ itself
      → states.is_known (story_of c (number_of own.address.0)) ≡ known → (d : Chronicle)
      → UnlessRefused now (cond disabled (Some Disabled) (cond up None (Some Tentative)))
      (λ e. MatchBool itself (e ≡ c) (MatchBool known (e ≡ setting start now (number_of own.address.0) own.lifetimes c) (FormsByHand start now (number_of own.address.0) own.lifetimes c e))) c d
      → Brings start now event c d
  brings_set own is true up itself known up_is own_is known_is d h = Nothing (ap address_history h)
  brings_set own is false false itself known up_is own_is known_is d h = Nothing (ap address_history h)
  brings_set own is false true true known up_is own_is known_is d h = Nothing (ap address_history h)
  brings_set own is false true false true up_is own_is known_is d h =
      SetsKnown (number_of own.address.0) own.lifetimes (eqb-false _ _ own_is) known_is (ap address_history h)
  brings_set own is false true false false up_is own_is known_is d h =
      brings_refused (option_map Full (no_room h.0)) _ d (λ x. FormsSet own is (eqb-false _ _ own_is) known_is up_is (ap address_history x)) h.2

  brings_withdrawn : (key : ℕ) (itself known : Bool) → (key == link_local_key start) ≡ itself → states.is_known (story_of c key) ≡ known → (d : Chronicle)
      → d ≡ cond (known && not itself) ((now, Address key addresses.Ended) ∷ c) c → Brings start now event c d
  brings_withdrawn key true true own_is known_is d h = Nothing (ap address_history h)
  brings_withdrawn key true false own_is known_is d h = Nothing (ap address_history h)
  brings_withdrawn key false true own_is known_is d h = EndsKnown key (eqb-false _ _ own_is) known_is (ap address_history h)
  brings_withdrawn key false false own_is known_is d h = Nothing (ap address_history h)

pub event_brings : (start : Start) (now : ℕ) (event : Event) (c d : Chronicle) → EventAdds start now event c d → Brings start now event c d
event_brings start now events.Passes c d h = Nothing (ap address_history h)
event_brings start now (events.Receives frame) c d h = brings_verdict start now (events.Receives frame) c frame refl h.heard.outcome h.verdict d h.heard.by_frame h.heard.by_node h.adds
event_brings start now (events.Sends source destination next_header payload) c d h =
    let event = events.Sends source destination next_header payload in
    brings_refused start now event c (refusal_of_packet start now source payload c) _ d (brings_by_hop start now event c (packet_sent start now source destination next_header payload c) d) h
event_brings start now (events.Carries packet) c d h =
    let event = events.Carries packet in
    brings_refused start now event c (refusal_of_carried start now packet c) _ d (brings_by_hop start now event c packet d) h
event_brings start now (events.Resolves destination) c d h =
    let event = events.Resolves destination in
    brings_refused start now event c (refusal_unless_up start c) _ d (λ x. brings_path start now event c destination x.0 d x.2) h
event_brings start now (events.Confirms neighbour) c d h = Nothing (ap address_history h)
event_brings start now (events.Forgets neighbour) c d h =
    Nothing (ap address_history h ∙ losing_same now Forgotten (waits_of (story (number_of neighbour.0) (neighbour_history c))) ((now, Neighbour (number_of neighbour.0) (neighbours.Forgot neighbours.Removed)) ∷ c))
event_brings start now (events.Clears table) c d h = brings_clear start now (events.Clears table) c table d h
event_brings start now (events.Shows table) c d h = Nothing (ap address_history h.2)
event_brings start now (events.Advertises settings) c d h = brings_at_router start now (events.Advertises settings) c start.role _ d (λ x. Nothing (ap address_history x)) h
event_brings start now (events.Offers info) c d h =
    brings_at_router start now (events.Offers info) c start.role _ d (λ x. brings_refused start now (events.Offers info) c (option_map Full (full_of_offers start info.prefix c)) _ d (λ y. Nothing (ap address_history y)) x) h
event_brings start now (events.Routes prefix route) c d h =
    brings_at_router start now (events.Routes prefix route) c start.role _ d (λ x. brings_refused start now (events.Routes prefix route) c (option_map Full (full_of_routes start prefix c)) _ d (λ y. Nothing (ap address_history y)) x) h
event_brings start now events.Stops c d h =
    brings_at_router start now events.Stops c start.role _ d (λ x. Nothing (ap address_history x ∙ telling_same now start (tells_its_end (advertising_history start c)) (last_contents_of start.mac (advertising_history start c)) ((now, Ceased) ∷ c))) h
event_brings start now (events.Sets own) c d h =
    brings_set start now (events.Sets own) c own refl (is_disabled start c) (is_up start c) (number_of own.address.0 == link_local_key start) (states.is_known (story_of c (number_of own.address.0))) refl refl refl d h
event_brings start now (events.Withdraws address) c d h =
    brings_withdrawn start now (events.Withdraws address) c (number_of address.0) (number_of address.0 == link_local_key start) (states.is_known (story_of c (number_of address.0))) refl refl d h

-- ---- what is due

-- What is due brings the own addresses no row, or it is of one of them and brings its own.
pub data BringsDue (transmits m : ℕ) (c d : Chronicle) : Type 0 where
  NoRow : Same c d → BringsDue transmits m c d
  ItsRow : (falls : Falls) → addresses_due.FirstDue transmits (address_history c) m (Some falls) → address_history d ≡ due_row m falls ∷ address_history c → BringsDue transmits m c d

module _ (start : Start) (m : ℕ) (c : Chronicle) where
  address_row : (falls : Falls) → address_history (then_address start m falls c) ≡ due_row m falls ∷ address_history c
  address_row (Ends key) = refl
  address_row (Solicits key) = refl
  address_row (Assigns key) = refl

  pub comes_brings : (what : What) → Due start c m (Some what) → BringsDue start.transmits m c (comes start m what c)
  comes_brings (RouterEnds key) due = NoRow refl
  comes_brings (AddressFalls falls) due = ItsRow falls due.1 (address_row falls)
  comes_brings (NeighbourFalls falls) due = NoRow (neighbour_same m start falls c)
  comes_brings RoutersSolicited due = NoRow refl
  comes_brings RouterAdvertises due = NoRow (advertising_same m start (advertised_by (advertising_history start c)) c)
  comes_brings Redraws due = NoRow refl
