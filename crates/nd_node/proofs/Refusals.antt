-- What adds a refusal alone, and what doesn't.
use Rattle.std.proofs.Common.{◌≡◌, ℕ, Bool, true, false, List, [], ◌∷◌, Option, Some, None, refl, sym, ◌∙◌, ap, subst}
use Rattle.std.specs.Prelude.{MatchOption, MatchBool, bytes_eq, if◌then◌else◌}
use Rattle.std.specs.Option.{option_to_list}
use Rattle.rand_core.specs.Stream.{Stream}
use Rattle.nd_addr.specs.declared.addr.Addr.{Addr}
use Rattle.nd_addr.specs.declared.mac.Mac.{Mac}
use Rattle.nd_addr.specs.declared.role.Role.{Role}
use Rattle.nd_addr.specs.Kind.{multicast_prefix, unspecified_address}
use Rattle.nd_addr.specs.Frame.{addressed}
use Rattle.nd_addr.specs.Number.{mac_at, holds, number_of}
use Rattle.nd_decode.specs.Message.{Parts}
use Rattle.nd_decode.specs.declared.body.Body.{Body}
use Rattle.nd_decode.specs.declared.body.Body.TheVariants as bodies
use Rattle.nd_decode.specs.declared.prefix_info.PrefixInfo.{PrefixInfo}
use Rattle.nd_neighbour.specs.History as rows
use Rattle.nd_neighbour.specs.History.{RowKind, story}
use Rattle.nd_neighbour.specs.News.{released_by}
use Rattle.nd_neighbour.specs.Room.{HasRoom}
use Rattle.nd_neighbour.specs.RoomKept.{has_room}
use Rattle.nd_neighbour.specs.Sending.{Sending, Sends, Queues, sending_of_story}
use Rattle.nd_neighbour.specs.Story.{is_awaited, mac_of, waits_of}
use Rattle.nd_slaac.specs.PrefixOption.{is_taken, lifetimes_of, named_by, prefixes_in}
use Rattle.nd_slaac.specs.State.{is_by_hand, is_known}
use Rattle.nd_nexthop.specs.NextHop.{NextHop, direct}
use Rattle.nd_chronicle.specs.Start.{Policies, Start}
use Rattle.nd_chronicle.specs.Reading.{read_outcome}
use Rattle.nd_chronicle.specs.Solicited.{outcome_at}
use Rattle.nd_chronicle.specs.Happening.{Chronicle, Full, Heard, Limit, Loss, Lost, Passed, Refusal, Refused, Forgotten, Neighbour, Sent, Unreachable}
use Rattle.nd_chronicle.specs.Advertising.{planning, wants_answer}
use Rattle.nd_chronicle.specs.Event as events
use Rattle.nd_chronicle.specs.Event.{EventAdds, HeardAdds, InPart, MessageAdds, HopAdds, PacketAdds, frame_with, VerdictAdds, FrameAdds, packet_bytes, Clearable, clearing}
use Rattle.nd_chronicle.specs.Histories.{neighbour_history, route_history}
use Rattle.nd_chronicle.specs.InForce.{base_reachable_time, retrans_timer}
use Rattle.nd_chronicle.specs.Message.{failing_for, leaving, makes_way, releasing, said, sending_if_known, telling_if_known}
use Rattle.nd_chronicle.specs.NeighborAdvertisement.{conflicting, ends_in_list}
use Rattle.nd_chronicle.specs.NeighborSolicitation.{Answers, is_router, sent_alone_to, then_tried}
use Rattle.nd_chronicle.specs.Resolve.{PathAdds, Wants, WantsIfPlaced}
use Rattle.nd_chronicle.specs.OwnAddress.{refusal_unless_up, is_assigned, is_tentative, story_of, is_own}
use Rattle.nd_chronicle.specs.Packet.{Goes, GoesIfPlaced, HasPlace, losing, no_place, sending, then_packet, HavePlace}
use Rattle.nd_chronicle.specs.NextHop.{IsHopOf}
use Rattle.nd_chronicle.specs.Refused.{UnlessFull, UnlessRefused}
use Rattle.nd_chronicle.specs.RouterAdvertisement.{forming, naming, redrawing, then_option, then_options, times_out}
use Rattle.nd_chronicle.specs.Answer as answers
use Rattle.nd_chronicle.proofs.Answering.{in_part_done}
use Rattle.nd_chronicle.proofs.Hops.{one_hop}
use Rattle.nd_chronicle.proofs.Places.{one_has_place}
use Rattle.nd_compose.specs.Frames.{answer_frame, open_mac}
use Rattle.nd_params.specs.Params.{redraws}
use Rattle.nd_addr.specs.Ip6.{PacketParts}
use Rattle.nd_decode.specs.Option.{Said}
use Rattle.nd_decode.specs.declared.neighbor_solicitation.NeighborSolicitation.{NeighborSolicitation}
use Rattle.nd_decode.specs.declared.router_advertisement.RouterAdvertisement.{RouterAdvertisement}
use Rattle.nd_validity.specs.Hearing.{valid, Hears, Outcome, other}
use Rattle.nd_forwarding.specs.Forward.{Fate, fate}
use Rattle.nd_forwarding.specs.Routes.{routes}
use Rattle.nd_chronicle.specs.Forwarding.{FateAdds, ForwardAdds, Redirects, SendsOn, redirect_to}
use Rattle.nd_chronicle.specs.Full.{AdvertisementFills, Fills, MessageFills, Placed}
use Rattle.nd_chronicle.specs.Hearing.{IsMisdirected, IsStrange, IsTaken, Judges, Verdict, IsPacket, IsPacketForUs, IsPassing, IsStrangePacket}
use Rattle.nd_node.proofs.InTransit.{SaysRoom}
use Rattle.nd_node.proofs.Memory.{judged_by_frame}
use Rattle.nd_node.proofs.TakenOrRefused.{fills_later}
use Rattle.nd_chronicle.proofs.Events.{one_full}
use Rattle.nd_node.specs.RouterAdvertisement.{advertised}
use Rattle.nd_neighbour.specs.EntryKept as neighbour_entries
use Rattle.nd_neighbour.specs.EntryKept.{waiting_in}
use Rattle.nd_node.specs.declared.node.Node.{Node}
use Rattle.nd_node.specs.Memory.{AddsRefusal}
use Rattle.nd_node.specs.NodeKept.{Stands}
use Rattle.nd_node.proofs.Asking.{FullByHistory, RoomIsPlace, has_place_for}

-- ---- the newest row

-- the newest row is a refusal
abbrev pub is_refusal : Chronicle → Bool
is_refusal [] = false
is_refusal ((at, Refused why) ∷ c) = true
is_refusal ((at, _) ∷ c) = false

pub not_refused : (at : ℕ) (why : Refusal) (c d : Chronicle) → is_refusal d ≡ false → (at, Refused why) ∷ c ≡ d → ⊥
not_refused at why c d h is = let never : true ≡ false = ap is_refusal is ∙ h in let absurdity : ⊥ = cc in absurdity

either : (b : Bool) (c d : Chronicle) → is_refusal c ≡ false → is_refusal d ≡ false → is_refusal (if b then c else d) ≡ false
either true c d h k = h
either false c d h k = k

module _ (at : ℕ) where
  losing_adds : (why : Loss) (packets : List (List ℕ)) (c : Chronicle) → is_refusal c ≡ false → is_refusal (losing at why packets c) ≡ false
  losing_adds why [] c h = h
  losing_adds why (packet ∷ packets) c h = losing_adds why packets ((at, Lost why packet) ∷ c) refl

  sending_adds : (mac : ℕ) (packets : List (List ℕ)) (c : Chronicle) → is_refusal c ≡ false → is_refusal (sending at mac packets c) ≡ false
  sending_adds mac [] c h = h
  sending_adds mac (packet ∷ packets) c h = sending_adds mac packets _ refl

  sending_known_adds : (mac : Option ℕ) (packets : List (List ℕ)) (c : Chronicle) → is_refusal c ≡ false → is_refusal (sending_if_known at mac packets c) ≡ false
  sending_known_adds None packets c h = h
  sending_known_adds (Some mac) packets c h = sending_adds mac packets c h

  telling_adds : (key : ℕ) (mac : Option ℕ) (awaited : Bool) (c : Chronicle) → is_refusal c ≡ false → is_refusal (telling_if_known at key mac awaited c) ≡ false
  telling_adds key None awaited c h = h
  telling_adds key (Some mac) true c h = refl
  telling_adds key (Some mac) false c h = h

  releasing_adds : (news : Option (ℕ × RowKind)) (history : List rows.Row) (c : Chronicle) → is_refusal c ≡ false → is_refusal (releasing at news history c) ≡ false
  releasing_adds None history c h = h
  releasing_adds (Some news) history c h =
      let this = story news.0 history in
      let known = mac_of ((at, news.1) ∷ this) in
      telling_adds news.0 known (is_awaited this) (sending_if_known at known (released_by at news.1 this) c) (sending_known_adds known (released_by at news.1 this) c h)

  failing_adds : (gone : Option ℕ) (history : List rows.Row) (c : Chronicle) → is_refusal c ≡ false → is_refusal (failing_for at gone history c) ≡ false
  failing_adds None history c h = h
  failing_adds (Some key) history c h = losing_adds Unreachable (waits_of (story key history)) _ refl

  leaving_adds : (leaves : Bool) (key : ℕ) (c : Chronicle) → is_refusal c ≡ false → is_refusal (leaving at leaves key c) ≡ false
  leaving_adds true key c h = refl
  leaving_adds false key c h = h

  conflicting_adds : (tentative : Bool) (key : ℕ) (c : Chronicle) → is_refusal c ≡ false → is_refusal (conflicting at tentative key c) ≡ false
  conflicting_adds true key c h = refl
  conflicting_adds false key c h = h

  module _ (start : Start) where
    redrawing_adds : (base : ℕ) (draws : Bool) (c : Chronicle) → is_refusal c ≡ false → is_refusal (redrawing start at base draws c) ≡ false
    redrawing_adds base true c h = refl
    redrawing_adds base false c h = h

    naming_adds : (to_all hand known : Bool) (info : PrefixInfo) (c : Chronicle) → is_refusal c ≡ false → is_refusal (naming start at to_all hand known info c) ≡ false
    naming_adds to_all true known info c h = h
    naming_adds to_all false true info c h = refl
    naming_adds to_all false false info c h = either _ c (forming start at to_all (named_by start.mac info) (lifetimes_of info) c) h refl

    option_adds : (to_all : Bool) (info : PrefixInfo) (c : Chronicle) → is_refusal c ≡ false → is_refusal (then_option start at to_all info c) ≡ false
    option_adds to_all info c h = either (is_taken info) _ c (naming_adds to_all (is_by_hand (story_of c (named_by start.mac info))) (is_known (story_of c (named_by start.mac info))) info c h) h

    options_add : (to_all : Bool) (infos : List PrefixInfo) (c : Chronicle) → is_refusal c ≡ false → is_refusal (then_options start at to_all infos c) ≡ false
    options_add to_all [] c h = h
    options_add to_all (info ∷ infos) c h = options_add to_all infos (then_option start at to_all info c) (option_adds to_all info c h)

    planning_adds : (wants : Bool) (c : Chronicle) → is_refusal c ≡ false → is_refusal (planning start at wants c) ≡ false
    planning_adds true c h = refl
    planning_adds false c h = h

    packet_adds : (key retrans : ℕ) (packet : List ℕ) (goes : Sending) (c : Chronicle) → is_refusal (then_packet start at key retrans packet goes c) ≡ false
    packet_adds key retrans packet (Sends mac sent) c = refl
    packet_adds key retrans packet (Queues true replaced) c = refl
    packet_adds key retrans packet (Queues false replaced) c = losing_adds _ (option_to_list replaced) _ refl

    goes_adds : (key : ℕ) (packet : List ℕ) (c d : Chronicle) → Goes start c at key packet d → is_refusal d ≡ false
    goes_adds key packet c d g = ap is_refusal g.goes ∙ packet_adds key (retrans_timer c) packet (sending_of_story (story key (neighbour_history c)) packet) g.placed

    module _ (source destination : Addr) (message : Parts) where
      solicited_adds : (target : Addr) (unspecified : Bool) (c d : Chronicle)
          → MatchBool unspecified (d ≡ then_tried start at target ((at, Heard source destination message) ∷ c)) (Answers start at source destination target message c d) → is_refusal d ≡ false
      solicited_adds target true c d h = ap is_refusal h ∙ either (is_assigned ((at, Heard source destination message) ∷ c) target.0) _ _ refl refl
      solicited_adds target false c d h =
          let heard : Chronicle = (at, Heard source destination message) ∷ h.placed in
          let behind : Chronicle = releasing at (said c source message) (neighbour_history h.placed) (failing_for at h.gone (neighbour_history c) heard) in
          reply_adds (sent_alone_to start at (number_of source.0) behind) (number_of source.0) (answer_frame (is_router start.role) start.mac target source) behind d h.answer
        where
          reply_adds : (known : Option ℕ) (key : ℕ) (packet : List ℕ) (c d : Chronicle) → MatchOption known (Goes start c at key packet d) (λ mac. d ≡ (at, Sent (addressed (mac_at mac) packet)) ∷ c) → is_refusal d ≡ false
          reply_adds None key packet c d h = goes_adds key packet c d h
          reply_adds (Some mac) key packet c d h = ap is_refusal h

      -- a message that is heard is no refusal
      pub message_adds : (body : Body) (c d : Chronicle) → MessageAdds start at source destination message body c d → is_refusal d ≡ false
      message_adds (bodies.Ns ns) c d h = solicited_adds ns.target (bytes_eq source.0 unspecified_address) c d h
      message_adds (bodies.Ra ra) c d h =
          let placed : Chronicle = h.1 in
          let heard : Chronicle = (at, Heard source destination message) ∷ placed in
          let drawn : Chronicle = redrawing start at ra.reachable_time (redraws (base_reachable_time placed) ra.reachable_time) heard in
          let failed : Chronicle = failing_for at h.0 (neighbour_history c) drawn in
          let released : Chronicle = releasing at (said placed source message) (neighbour_history placed) failed in
          ap is_refusal h.3
          ∙ options_add (holds multicast_prefix destination.0) (prefixes_in message.options) (leaving at (times_out start at placed source ra) (number_of source.0) released)
          (leaving_adds (times_out start at placed source ra) (number_of source.0) released
          (releasing_adds (said placed source message) (neighbour_history placed) failed
          (failing_adds h.0 (neighbour_history c) drawn
          (redrawing_adds ra.reachable_time (redraws (base_reachable_time placed) ra.reachable_time) heard refl))))
      message_adds (bodies.Na na) c d h =
          let placed : Chronicle = h.0 in
          let heard : Chronicle = (at, Heard source destination message) ∷ placed in
          let claimed : Chronicle = conflicting at (is_tentative placed na.target.0) (number_of na.target.0) heard in
          let released : Chronicle = releasing at (said placed source message) (neighbour_history placed) claimed in
          ap is_refusal h.2
          ∙ leaving_adds (ends_in_list start at placed (said placed source message)) (number_of na.target.0) released
          (releasing_adds (said placed source message) (neighbour_history placed) claimed (conflicting_adds (is_tentative placed na.target.0) (number_of na.target.0) heard refl))
      message_adds (bodies.Redirect r) c d h =
          ap is_refusal h.3 ∙ releasing_adds (said c source message) (neighbour_history h.1) _ (failing_adds h.0 (neighbour_history c) _ refl)
      message_adds bodies.Rs c d h =
          ap is_refusal h.3 ∙ planning_adds (wants_answer start c) _ (releasing_adds (said c source message) (neighbour_history h.1) _ (failing_adds h.0 (neighbour_history c) _ refl))

-- ---- what is full

module _ (start : Start) (now key : ℕ) (packet : List ℕ) where
  placed_is : (c : Chronicle) (why : Refusal) (place : Bool) → HasPlace start c now key true place → UnlessFull now (no_place place) (Goes start c now key packet) c ((now, Refused why) ∷ c) → HasPlace start c now key true false
  placed_is c why true has adds = absurd (not_refused now why c _ (goes_adds now start key packet c _ adds) refl)
  placed_is c why false has adds = has

  -- a packet to a neighbour adds a refusal alone where that has no room
  pub place_refused : (c : Chronicle) → AddsRefusal now c (GoesIfPlaced start now key packet) → HasPlace start ((now, Passed) ∷ c) now key true false
  place_refused c adds = placed_is ((now, Passed) ∷ c) adds.0 adds.1.0 adds.1.1 adds.1.2

-- so a node has no room for it
module _ {R A : Type 0} (stream : R → Stream) (start : Start) (node : Node R A) (c : Chronicle) (now key : ℕ) (room_is_place : RoomIsPlace) (full_by_history : FullByHistory) (s : Stands stream start node c) where
  pub room_left : has_room node.neighbours.limit now key None node.neighbours.entries ≡ true → HasPlace start ((now, Passed) ∷ c) now key true false → ⊥
  room_left has full =
      let same : true ≡ false = one_has_place start ((now, Passed) ∷ c) now key true true false (has_place_for stream start node c now key room_is_place full_by_history s has) full in
      let never : ⊥ = cc in
      never

-- ---- a packet that is to be sent

module _ (start : Start) (now : ℕ) (packet : PacketParts) (c : Chronicle) where
  -- one that goes to its destination, which isn't multicast, goes as to a neighbour
  pub to_destination : holds multicast_prefix packet.header.destination.0 ≡ false → AddsRefusal now c (PacketAdds start now direct packet)
      → AddsRefusal now c (GoesIfPlaced start now (number_of packet.header.destination.0) (frame_with start now packet open_mac))
  to_destination single adds = (adds.0, goes _ _ (holds multicast_prefix packet.header.destination.0) single adds.1)
    where
      goes : (Others Goes' : Type 0) (multicast : Bool) → multicast ≡ false → MatchBool multicast Others Goes' → Goes'
      goes Others Goes' true is h = let never : ⊥ = cc in absurd never
      goes Others Goes' false is h = h

  -- it goes to the next hop that it has
  pub to_hop : (hop : NextHop) → IsHopOf start start.role ((now, Passed) ∷ c) now packet.header.destination hop → AddsRefusal now c (HopAdds start now packet) → AddsRefusal now c (PacketAdds start now hop packet)
  to_hop hop next adds =
      let later : Chronicle = (now, Passed) ∷ c in
      let same : adds.1.0 ≡ hop = one_hop later now start start.role packet.header.destination adds.1.0 hop adds.1.1 next in
      (adds.0, subst (λ (n : NextHop). PacketAdds start now n packet later ((now, Refused adds.0) ∷ later)) same adds.1.2)

-- ---- a caller that keeps its packets

module _ (start : Start) (now : ℕ) (destination : Addr) where
  wish_adds : (key : ℕ) (c d : Chronicle) → Wants start destination c now key d → is_refusal d ≡ false
  wish_adds key c d w = ap is_refusal w.wants

  wish_placed : (key : ℕ) (c : Chronicle) (why : Refusal) (place : Bool) → HasPlace start c now key true place → UnlessFull now (no_place place) (Wants start destination c now key) c ((now, Refused why) ∷ c) → HasPlace start c now key true false
  wish_placed key c why true has adds = absurd (not_refused now why c _ (wish_adds key c _ adds) refl)
  wish_placed key c why false has adds = has

  -- the wish for a neighbour adds a refusal alone where that has no room
  pub wish_refused : (key : ℕ) (c : Chronicle) → AddsRefusal now c (WantsIfPlaced start now destination key) → HasPlace start ((now, Passed) ∷ c) now key true false
  wish_refused key c adds = wish_placed key ((now, Passed) ∷ c) adds.0 adds.1.0 adds.1.1 adds.1.2

  -- a path on the link to a destination that isn't multicast is that of a neighbour
  pub path_to_destination : (c : Chronicle) → holds multicast_prefix destination.0 ≡ false → AddsRefusal now c (PathAdds start now direct destination)
      → AddsRefusal now c (WantsIfPlaced start now destination (number_of destination.0))
  path_to_destination c single adds = (adds.0, goes _ _ (holds multicast_prefix destination.0) single adds.1)
    where
      goes : (Others Goes' : Type 0) (multicast : Bool) → multicast ≡ false → MatchBool multicast Others Goes' → Goes'
      goes Others Goes' true is h = let never : ⊥ = cc in absurd never
      goes Others Goes' false is h = h

  -- a question that isn't refused itself is answered by the next hop
  pub path_to_hop : (c : Chronicle) (hop : NextHop) → None ≡ refusal_unless_up start c → IsHopOf start start.role ((now, Passed) ∷ c) now destination hop
      → AddsRefusal now c (EventAdds start now (events.Resolves destination)) → AddsRefusal now c (PathAdds start now hop destination)
  path_to_hop c hop says next adds = (adds.0, by (refusal_unless_up start later) says adds.1)
    where
      later : Chronicle
      later = (now, Passed) ∷ c

      refused : Chronicle
      refused = (now, Refused adds.0) ∷ later

      by : (o : Option Refusal) → None ≡ o → UnlessRefused now o (λ e. (next' : NextHop) × IsHopOf start start.role later now destination next' × PathAdds start now next' destination later e) later refused
          → PathAdds start now hop destination later refused
      by None is h =
          let same : h.0 ≡ hop = one_hop later now start start.role destination h.0 hop h.1 next in
          subst (λ (n : NextHop). PathAdds start now n destination later refused) same h.2
      by (Some refusal) is h = let never : ⊥ = cc in absurd never

-- ---- a packet in transit

module _ (start : Start) (now : ℕ) (packet : PacketParts) (came : List ℕ) (c : Chronicle) where
  -- its fate is this
  pub fate_refused : (f : Fate) → f ≡ fate (is_own c) (routes (route_history c)) packet.header → AddsRefusal now c (ForwardAdds start now packet came) → AddsRefusal now c (FateAdds start now f packet came)
  fate_refused f is adds = (adds.0, subst (λ (f' : Fate). FateAdds start now f' packet came ((now, Passed) ∷ c) ((now, Refused adds.0) ∷ (now, Passed) ∷ c)) (sym is) adds.1)

  -- the target of its Redirect is this, or there is none
  pub onward_refused : (target : Option Addr) (key : ℕ) → target ≡ redirect_to start now packet c
      → AddsRefusal now c (SendsOn start now (redirect_to start now packet c) packet came key)
      → AddsRefusal now c (SendsOn start now target packet came key)
  onward_refused target key is adds = (adds.0, subst (λ (t : Option Addr). SendsOn start now t packet came key ((now, Passed) ∷ c) ((now, Refused adds.0) ∷ (now, Passed) ∷ c)) (sym is) adds.1)

-- a node that has room for both refuses neither a Redirect nor the packet behind it
pub both_left : {R A : Type 0} (stream : R → Stream) (start : Start) (node : Node R A) (c : Chronicle) (now key : ℕ) (target : Addr) (packet : PacketParts) (came : List ℕ) (room : Bool)
    → SaysRoom node now (number_of packet.header.source.0) key room → room ≡ true → Stands stream start node c → AddsRefusal now c (SendsOn start now (Some target) packet came key) → ⊥
both_left stream start node c now key target packet came room says is s adds = left adds.1.0 adds.1.1 adds.1.2
  where
    later : Chronicle
    later = (now, Passed) ∷ c

    has : HasRoom start.limits.neighbours now (number_of packet.header.source.0) (Some key) (neighbour_history c)
    has = subst (λ (limit : ℕ). HasRoom limit now (number_of packet.header.source.0) (Some key) (neighbour_history c)) s.limits.neighbours ((says (neighbour_history c) s.neighbours).0 is)

    left : (place : Bool) → HavePlace start later now (number_of packet.header.source.0) key place
        → UnlessFull now (no_place place) (Redirects start now target packet came key later) later ((now, Refused adds.0) ∷ later) → ⊥
    left true have redirects = not_refused now adds.0 later _ (goes_adds now start key _ _ _ redirects.behind) refl
    left false have redirects = have has

-- ---- a message

module _ (start : Start) (now : ℕ) (source destination : Addr) (message : Parts) (c : Chronicle) where
  abbrev later : Chronicle
  later = (now, Passed) ∷ c

  -- it is refused where a table is full, and not taken in part
  refused_whole : (parts : Bool) (why : Refusal) (limit : Limit) → MatchBool parts (InPart start now source destination message later ((now, Refused why) ∷ later)) ((now, Refused why) ∷ later ≡ (now, Refused (Full limit)) ∷ later)
      → parts ≡ false
  refused_whole true why limit adds =
      let done : answers.Refused why ≡ answers.Done = in_part_done start now source destination message later ((now, Refused why) ∷ later) refl adds in
      let never : ⊥ = cc in
      absurd never
  refused_whole false why limit adds = refl

  heard_full : (why : Refusal) (full : Option Limit) → HeardAdds start now full source destination message later ((now, Refused why) ∷ later) → (limit : Limit) × (full ≡ Some limit) × (start.policies.parts ≡ false)
  heard_full why None adds = absurd (not_refused now why later _ (message_adds now start source destination message message.body later _ adds) refl)
  heard_full why (Some limit) adds = (limit, refl, refused_whole start.policies.parts why limit adds)

  -- a message is refused where a table is full
  pub message_full : (frame : List ℕ) (verdict : Verdict) → Judges start later now frame (valid source destination message) verdict → AddsRefusal now c (VerdictAdds start now frame verdict)
      → (limit : Limit) × Fills start later now source message message.body (Some limit) × (start.policies.parts ≡ false)
  message_full frame _ (IsTaken us first) adds =
      let f = heard_full adds.0 adds.1.0 adds.1.2 in
      (f.0, subst (λ (o : Option Limit). Fills start later now source message message.body o) f.1 adds.1.1, f.2)
  message_full frame _ (IsStrange never) adds = absurd (not_refused now adds.0 later _ refl adds.1)
  message_full frame _ (IsMisdirected us other') adds = absurd (not_refused now adds.0 later _ refl adds.1)

module _ (start : Start) (now : ℕ) (source : Addr) (options : List Said) (c : Chronicle) (limit : Limit) where
  -- a solicitation from an address wants room for the asker
  pub asker_full : (ns : NeighborSolicitation) → bytes_eq source.0 unspecified_address ≡ false → MessageFills start c now source (record { body = bodies.Ns ns; options = options }) (Some limit)
      → Placed start c now (makes_way start (said c source (record { body = bodies.Ns ns; options = options }))) (Some (number_of source.0, true)) false
  asker_full ns specified fills = full (bytes_eq source.0 unspecified_address) specified fills.neighbours fills.placed fills.first
    where
      way : Bool
      way = makes_way start (said c source (record { body = bodies.Ns ns; options = options }))

      full : (none : Bool) → none ≡ false → (place : Bool) → Placed start c now way (if none then None else Some (number_of source.0, true)) place → Some limit ≡ no_place place
          → Placed start c now way (Some (number_of source.0, true)) false
      full true is place placed first = let never : ⊥ = cc in absurd never
      full false is true placed first = let never : ⊥ = cc in absurd never
      full false is false placed first = placed

  -- a Router Advertisement for which each table had room once time has passed fills none
  pub router_advertisement_left : (ra : RouterAdvertisement) (before : Chronicle) → c ≡ (now, Passed) ∷ before → AdvertisementFills start before now source ra (advertised ra options) None
      → AdvertisementFills start c now source ra (advertised ra options) (Some limit) → ⊥
  router_advertisement_left ra before is none some =
      let here : AdvertisementFills start c now source ra (advertised ra options) None = rw is (fills_later now source ra options start before None none) in
      let same : None ≡ Some limit = one_full start c now source (advertised ra options) (bodies.Ra ra) None (Some limit) here some in
      let never : ⊥ = cc in
      never

-- ---- a packet that is no message

module _ (start : Start) (now : ℕ) (frame : List ℕ) (packet : PacketParts) (c : Chronicle) where
  -- one that isn't for this node is refused where it is in transit
  pub passing_refused : (verdict : Verdict) → (IsPacketForUs start ((now, Passed) ∷ c) packet → ⊥) → Judges start ((now, Passed) ∷ c) now frame (other packet) verdict → AddsRefusal now c (VerdictAdds start now frame verdict)
      → AddsRefusal now c (ForwardAdds start now packet (packet_bytes frame))
  passing_refused _ never (IsPacket us) adds = absurd (never us)
  passing_refused _ never (IsPassing passes) adds = adds
  passing_refused _ never (IsStrangePacket not_ours not_passing) adds = absurd (not_refused now adds.0 ((now, Passed) ∷ c) _ refl adds.1)

  -- one that is for this node isn't refused
  pub ours_left : (verdict : Verdict) → IsPacketForUs start ((now, Passed) ∷ c) packet → Judges start ((now, Passed) ∷ c) now frame (other packet) verdict → AddsRefusal now c (VerdictAdds start now frame verdict) → ⊥
  ours_left _ us (IsPacket ours) adds = not_refused now adds.0 ((now, Passed) ∷ c) _ refl adds.1
  ours_left _ us (IsPassing passes) adds = passes.not_ours us
  ours_left _ us (IsStrangePacket not_ours not_passing) adds = not_ours us

-- ---- a frame

-- what is read in the frame is judged so
pub judged_frame : (start : Start) (c : Chronicle) (now : ℕ) (frame : List ℕ) (role : Role) (policies : Policies) (mac : Mac) (said : Outcome) → role ≡ start.role → policies ≡ start.policies → mac ≡ start.mac
    → ((o : Outcome) → Hears frame role o → said ≡ o) → AddsRefusal now c (FrameAdds start now frame)
    → (verdict : Verdict) × Judges start ((now, Passed) ∷ c) now frame (outcome_at start c now (read_outcome policies mac said)) verdict × AddsRefusal now c (VerdictAdds start now frame verdict)
judged_frame start c now frame role policies mac said same asked own only adds =
    (adds.1.verdict, judged_by_frame start ((now, Passed) ∷ c) now frame role policies mac said adds.1.verdict same asked own only adds.1.heard, (adds.0, adds.1.adds))

-- ---- a command

module _ (start : Start) (now : ℕ) where
  clearing_adds : (entries : List neighbour_entries.NeighbourEntry) (c : Chronicle) → is_refusal c ≡ false → is_refusal (clearing start now entries c) ≡ false
  clearing_adds [] c h = h
  clearing_adds (n ∷ entries) c h =
      let gone : Chronicle = (now, Neighbour n.key (rows.Forgot rows.Cleared)) ∷ c in
      clearing_adds entries (losing now Forgotten (waiting_in n.stage) gone) (losing_adds now Forgotten (waiting_in n.stage) gone refl)

module _ (start : Start) (now : ℕ) (c : Chronicle) where
  -- a neighbour is forgotten
  pub forgets_left : (neighbour : Addr) → AddsRefusal now c (EventAdds start now (events.Forgets neighbour)) → ⊥
  forgets_left neighbour adds =
      let later : Chronicle = (now, Passed) ∷ c in
      let key : ℕ = number_of neighbour.0 in
      not_refused now adds.0 later _ (losing_adds now Forgotten (waits_of (story key (neighbour_history later))) ((now, Neighbour key (rows.Forgot rows.Removed)) ∷ later) refl) adds.1

  -- a table is cleared
  pub clears_left : (table : Clearable) → AddsRefusal now c (EventAdds start now (events.Clears table)) → ⊥
  clears_left events.ClearNeighbours adds = not_refused now adds.0 ((now, Passed) ∷ c) _ (clearing_adds start now adds.1.0 ((now, Passed) ∷ c) refl) adds.1.2
  clears_left events.ClearRouters adds = not_refused now adds.0 ((now, Passed) ∷ c) _ refl adds.1.2
  clears_left events.ClearPrefixes adds = not_refused now adds.0 ((now, Passed) ∷ c) _ refl adds.1
  clears_left events.ClearRedirects adds = not_refused now adds.0 ((now, Passed) ∷ c) _ refl adds.1
  clears_left events.ClearDns adds = not_refused now adds.0 ((now, Passed) ∷ c) _ refl adds.1
