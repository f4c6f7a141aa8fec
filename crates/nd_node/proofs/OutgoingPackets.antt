-- A packet that is to be sent, and the chronicle that a node stands for.
use Rattle.std.proofs.Common.{◌≡◌, ℕ, ◌<◌, ◌≤◌, Bool, true, false, cond, List, [], ◌∷◌, ◌++◌, append-nil, Option, Some, None, refl, sym, ◌∙◌, ap, subst}
use Rattle.std.specs.Prelude.{MatchBool}
use Rattle.rand_core.specs.Stream.{Stream}
use Rattle.nd_addr.specs.declared.addr.Addr.{Addr}
use Rattle.nd_addr.specs.declared.mac.Mac.{Mac}
use Rattle.nd_addr.specs.declared.role.Role.{Role}
use Rattle.nd_addr.specs.declared.role.Role.TheVariants.{Host, Router}
use Rattle.nd_addr.specs.Frame.{written_frame}
use Rattle.nd_addr.specs.Ip6.{PacketParts}
use Rattle.nd_addr.specs.Kind.{multicast_mac_of, multicast_prefix}
use Rattle.nd_addr.specs.Number.{holds, number_of}
use Rattle.nd_compose.specs.Frames.{multicast_mac, open_mac}
use Rattle.nd_neighbour.specs.Place.{WouldBeFull}
use Rattle.nd_neighbour.specs.RoomKept.{has_room}
use Rattle.nd_nexthop.specs.NextHop.{NextHop, direct}
use Rattle.nd_chronicle.specs.Start.{Start}
use Rattle.nd_chronicle.specs.Happening.{Chronicle, Passed, Refused, Refusal, Disabled, Tentative, NotOurs, TooLong, Full, Neighbours, Loss, Lost, Sent, last_moment}
use Rattle.nd_chronicle.specs.Histories.{neighbour_history}
use Rattle.nd_chronicle.specs.NextHop.{IsHopOf}
use Rattle.nd_chronicle.specs.Event as events
use Rattle.nd_chronicle.specs.Event.{EventAdds, HopAdds, PacketAdds, frame_with, packet_sent, refusal_of_carried, refusal_of_packet}
use Rattle.nd_chronicle.specs.Packet.{GoesIfPlaced}
use Rattle.nd_chronicle.specs.Refused.{UnlessRefused}
use Rattle.nd_out.specs.declared.out.Out.{Out}
use Rattle.nd_out.specs.Out.{happening}
use Rattle.nd_steps.specs.Packets.{packet_with}
use Rattle.nd_steps.specs.Outputs.{Tells, happenings}
use Rattle.nd_steps.proofs.Telling.{Tells-then}
use Rattle.nd_chronicle.specs.Answer as answers
use Rattle.nd_chronicle.proofs.Answering.{goes_done}
use Rattle.nd_node.specs.declared.node.Node.{Node}
use Rattle.nd_node.specs.EventKept.{AddsEvent}
use Rattle.nd_node.specs.Frame.{AddsAlone}
use Rattle.nd_node.specs.Hearing.{Keeps}
use Rattle.nd_node.specs.NodeKept.{Stands, next_of}
use Rattle.nd_node.specs.Memory.{AddsRefusal}
use Rattle.nd_node.specs.OutgoingPacket.{AddsByHop, AddsPacket, AddsToNeighbour}
use Rattle.nd_node.specs.Packet.{PacketGoes}
use Rattle.nd_node.specs.Time.{Leads}
use Rattle.nd_node.proofs.Asking.{FullByHistory, RoomIsPlace, has_place_for, would_be_full}
use Rattle.nd_node.proofs.Judging.{IsQuiet, alone, next_later, stays_keeps}
use Rattle.nd_node.proofs.Steps.{passed}
use Rattle.nd_node.proofs.Quiet.{refused_is_quiet}

-- ---- what is reported alone

lost_is_quiet : (now : ℕ) (why : Loss) (packet : List ℕ) → IsQuiet now (Lost why packet)
lost_is_quiet now why packet c is = record {
  parameters = refl;
  neighbours = refl;
  routers = refl;
  prefixes = refl;
  addresses = refl;
  servers = refl;
  names = refl;
  redirects = refl;
  solicited = refl;
  router = λ start. refl;
  stream = λ start. refl;
  last = λ start. sym (is start);
}

sent_is_quiet : (now : ℕ) (packet : List ℕ) → IsQuiet now (Sent packet)
sent_is_quiet now packet c is = record {
  parameters = refl;
  neighbours = refl;
  routers = refl;
  prefixes = refl;
  addresses = refl;
  servers = refl;
  names = refl;
  redirects = refl;
  solicited = refl;
  router = λ start. refl;
  stream = λ start. refl;
  last = λ start. sym (is start);
}

module _ {R A : Type 0} (stream : R → Stream) (old new : Node R A) (x y : List (ℕ × Out A)) (now : ℕ) (out : Out A) (settled : now < next_of old) (is : new ≡ record old { last = now }) (told : y ≡ x ++ (now, out) ∷ []) where
  pub refuses : (refusal : Refusal) → happening out ≡ Refused refusal → AddsAlone stream old new x y now (Refused refusal)
  refuses refusal out_is = alone stream old new x y now out settled is told (Refused refusal) (refused_is_quiet now refusal) out_is

  pub loses : (why : Loss) (packet : List ℕ) → happening out ≡ Lost why packet → AddsAlone stream old new x y now (Lost why packet)
  loses why packet out_is = alone stream old new x y now out settled is told (Lost why packet) (lost_is_quiet now why packet) out_is

  pub sends : (packet : List ℕ) → happening out ≡ Sent packet → AddsAlone stream old new x y now (Sent packet)
  sends packet out_is = alone stream old new x y now out settled is told (Sent packet) (sent_is_quiet now packet) out_is

-- ---- to a neighbour

module _ {R A : Type 0} (stream : R → Stream) (old new : Node R A) (x y : List (ℕ × Out A)) (now key : ℕ) (packet : List ℕ) (settled : now < next_of old) where
  -- it has no room
  pub refused_full : FullByHistory → has_room old.neighbours.limit now key None old.neighbours.entries ≡ false → AddsAlone stream old new x y now (Refused (Full Neighbours))
      → AddsToNeighbour stream old new x y now key packet (answers.Refused (Full Neighbours))
  refused_full law room adds = record {
    each = λ start c s le.
        let a = adds.each start c s le in
        let would : WouldBeFull start.limits.neighbours now key (neighbour_history c) = would_be_full stream start old c now key law s room in (
          (now, Refused (Full Neighbours)) ∷ (now, Passed) ∷ c,
          (false, (refl, would), refl),
          a.0,
          a.1,
          λ sends. refl,
        );
  }

  -- it has room
  pub goes_to : (mid : Node R A) (room : List (ℕ × Out A)) → Keeps (record old { last = now }) mid → room ≡ x → RoomIsPlace → FullByHistory
      → has_room old.neighbours.limit now key None old.neighbours.entries ≡ true → Leads stream mid new room y (PacketGoes now key packet)
      → AddsToNeighbour stream old new x y now key packet answers.Done
  goes_to mid room keeps same room_is_place full_by_history has goes = record {
    each = λ start c s le.
        let later : Chronicle = (now, Passed) ∷ c in
        let base : Node R A = record old { last = now } in
        let kept = stays_keeps stream base mid keeps in
        let g = goes.each start later (kept.each start later (passed stream start old base c now s le settled refl)) in
        let nothing : Tells c later x room = record { newer = []; told = refl; outs = ap happenings same ∙ sym (append-nil _) } in (
          g.0,
          (true, has_place_for stream start old c now key room_is_place full_by_history s has, g.1),
          g.2,
          Tells-then c later g.0 x room y nothing g.3,
          λ sends. sym (goes_done start later now key packet g.0 sends g.1),
        );
  }

-- ---- by its next hop

module _ {R A : Type 0} (stream : R → Stream) (old new : Node R A) (x y : List (ℕ × Out A)) (now : ℕ) (packet : PacketParts) where
  -- the destination is multicast
  pub goes_to_all : (to : Mac) (frame : List ℕ) → frame ≡ written_frame to old.mac packet.header packet.payload → to.0 ≡ multicast_mac_of packet.header.destination.0
      → holds multicast_prefix packet.header.destination.0 ≡ true → AddsAlone stream old new x y now (Sent frame) → AddsPacket stream old new x y now direct packet answers.Done
  goes_to_all to frame is to_is multicast adds = record {
    each = λ start c s le.
        let a = adds.each start c s le in
        let later : Chronicle = (now, Passed) ∷ c in
        let d : Chronicle = (now, Sent frame) ∷ later in
        let sent : d ≡ (now, Sent (frame_with start now packet (multicast_mac packet.header.destination))) ∷ later =
        ap (λ (f : List ℕ). (now, Sent f) ∷ later) (is ∙ ap (λ (m : Mac). written_frame to m packet.header packet.payload) s.mac
        ∙ ap (λ (bytes : List ℕ). frame_with start now packet (record { 0 = bytes })) to_is) in (
          d,
          subst (λ (b : Bool). MatchBool b (d ≡ (now, Sent (frame_with start now packet (multicast_mac packet.header.destination))) ∷ later)
              (GoesIfPlaced start now (number_of packet.header.destination.0) (frame_with start now packet open_mac) later d))
              (sym multicast) sent,
          a.0,
          a.1,
          refl,
        );
  }

  -- it goes to a neighbour: the frame of the node is that of the chronicle
  pub goes_by : (key : ℕ) (answer : answers.Answer) → AddsToNeighbour stream old new x y now key (written_frame open_mac old.mac packet.header packet.payload) answer
      → (start : Start) (c : Chronicle) → Stands stream start old c → last_moment start.at c ≤ now
      → (d : Chronicle) × GoesIfPlaced start now key (frame_with start now packet open_mac) ((now, Passed) ∷ c) d × Stands stream start new d × Tells c d x y × (answer ≡ answers.answer_after d true)
  goes_by key answer adds start c s le =
      let a = adds.each start c s le in (
        a.0,
        subst (λ (m : Mac). GoesIfPlaced start now key (written_frame open_mac m packet.header packet.payload) ((now, Passed) ∷ c) a.0) s.mac a.1,
        a.2,
        a.3,
        a.4 true,
      )

-- ---- the event

-- the next hop is the same once time has passed
pub hop_later : (start : Start) (role : Role) (c : Chronicle) (now : ℕ) (destination : Addr) (next : NextHop) → IsHopOf start role c now destination next → IsHopOf start role ((now, Passed) ∷ c) now destination next
hop_later start Host c now destination next h = next_later start c now destination next h
hop_later start Router c now destination next h = h

module _ {R A : Type 0} (stream : R → Stream) (old new : Node R A) (x y : List (ℕ × Out A)) (now : ℕ) (packet : PacketParts) where
  -- it goes to the next hop that it has
  pub goes_to_hop : (mid : Node R A) (hop : NextHop) {answer : answers.Answer} → ((start : Start) (c : Chronicle) → Stands stream start old c → Stands stream start mid c)
      → ((start : Start) (c : Chronicle) → Stands stream start old c → last_moment start.at c ≤ now → IsHopOf start start.role c now packet.header.destination hop)
      → AddsPacket stream mid new x y now hop packet answer → AddsByHop stream old new x y now packet answer
  goes_to_hop mid hop {answer} stands next adds = record {
    each = λ start c s le.
        let a = adds.each start c (stands start c s) le in
        (a.0, (hop, hop_later start start.role c now packet.header.destination hop (next start c s le), a.1), a.2, a.3, a.4);
  }

-- ---- a packet of the upper layer

module _ {R A : Type 0} (stream : R → Stream) (old new : Node R A) (x y : List (ℕ × Out A)) (now : ℕ) (source destination : Addr) (next_header : ℕ) (payload : List ℕ) where
  -- it is refused
  pub not_sent : (refusal : Refusal) → ((start : Start) (c : Chronicle) → Stands stream start old c → Some refusal ≡ refusal_of_packet start now source payload c)
      → AddsAlone stream old new x y now (Refused refusal) → AddsEvent stream old new x y now (events.Sends source destination next_header payload) (answers.Refused refusal)
  not_sent refusal says adds = record {
    each = λ start c s le.
        let a = adds.each start c s le in
        let later : Chronicle = (now, Passed) ∷ c in
        let d : Chronicle = (now, Refused refusal) ∷ later in (
          d,
          subst (λ (o : Option Refusal). UnlessRefused now o (HopAdds start now (packet_sent start now source destination next_header payload later) later) later d) (says start c s) refl,
          a.0,
          a.1,
          refl,
        );
  }

  -- the node gives it the hop limit in force
  sent_packet : (start : Start) (c : Chronicle) → Stands stream start old c
      → packet_with old.params.hop_limit source destination next_header payload ≡ packet_sent start now source destination next_header payload ((now, Passed) ∷ c)
  sent_packet start c s = ap (λ (n : ℕ). packet_with n source destination next_header payload) s.params.hop_limit

  -- it goes to its next hop
  pub sent : (packet : PacketParts) {answer : answers.Answer} → packet ≡ packet_with old.params.hop_limit source destination next_header payload
      → ((start : Start) (c : Chronicle) → Stands stream start old c → None ≡ refusal_of_packet start now source payload c)
      → AddsByHop stream old new x y now packet answer → AddsEvent stream old new x y now (events.Sends source destination next_header payload) answer
  sent packet {answer} is says adds = record {
    each = λ start c s le.
        let a = adds.each start c s le in
        let later : Chronicle = (now, Passed) ∷ c in
        let hop : HopAdds start now (packet_sent start now source destination next_header payload later) later a.0 =
        subst (λ (p : PacketParts). HopAdds start now p later a.0) (is ∙ sent_packet start c s) a.1 in (
          a.0,
          subst (λ (o : Option Refusal). UnlessRefused now o (HopAdds start now (packet_sent start now source destination next_header payload later) later) later a.0) (says start c s) hop,
          a.2,
          a.3,
          a.4,
        );
  }

  -- it adds a refusal alone where it does so by its next hop
  pub sent_refused : (packet : PacketParts) → packet ≡ packet_with old.params.hop_limit source destination next_header payload
      → (start : Start) (c : Chronicle) → Stands stream start old c → None ≡ refusal_of_packet start now source payload c
      → AddsRefusal now c (EventAdds start now (events.Sends source destination next_header payload)) → AddsRefusal now c (HopAdds start now packet)
  sent_refused packet is start c s says adds =
      let later : Chronicle = (now, Passed) ∷ c in
      let hop = packet_sent start now source destination next_header payload later in (
        adds.0,
        subst (λ (p : PacketParts). HopAdds start now p later ((now, Refused adds.0) ∷ later)) (sym (is ∙ sent_packet start c s))
            (subst (λ (o : Option Refusal). UnlessRefused now o (HopAdds start now hop later) later ((now, Refused adds.0) ∷ later)) (sym says) adds.1),
      )

-- a packet that is refused adds its refusal alone
pub send_refused : (start : Start) (now : ℕ) (source destination : Addr) (next_header : ℕ) (payload : List ℕ) (c : Chronicle) (refusal : Refusal) → refusal_of_packet start now source payload c ≡ Some refusal
    → AddsRefusal now c (EventAdds start now (events.Sends source destination next_header payload))
send_refused start now source destination next_header payload c refusal is =
    let later : Chronicle = (now, Passed) ∷ c in (
      refusal,
      subst (λ (o : Option Refusal). UnlessRefused now o (HopAdds start now (packet_sent start now source destination next_header payload later) later) later ((now, Refused refusal) ∷ later)) (sym is) refl,
    )

-- ---- a whole packet

-- where the link-local address is assigned, the other reasons are asked
pub up_refuses : (source : Addr) (disabled up may long : Bool) → None ≡ cond disabled (Some Disabled) (cond up None (Some Tentative))
    → cond disabled (Some Disabled) (cond up (cond may (cond long (Some TooLong) None) (Some (NotOurs source))) (Some Tentative)) ≡ cond may (cond long (Some TooLong) None) (Some (NotOurs source))
up_refuses source true up may long none = absurd (let no : ⊥ = cc in no)
up_refuses source false true may long none = refl
up_refuses source false false may long none = absurd (let no : ⊥ = cc in no)

module _ {R A : Type 0} (stream : R → Stream) (old new : Node R A) (x y : List (ℕ × Out A)) (now : ℕ) (packet : PacketParts) where
  -- it is refused
  pub not_carried : (refusal : Refusal) → ((start : Start) (c : Chronicle) → Stands stream start old c → Some refusal ≡ refusal_of_carried start now packet c)
      → AddsAlone stream old new x y now (Refused refusal) → AddsEvent stream old new x y now (events.Carries packet) (answers.Refused refusal)
  not_carried refusal says adds = record {
    each = λ start c s le.
        let a = adds.each start c s le in
        let later : Chronicle = (now, Passed) ∷ c in
        let d : Chronicle = (now, Refused refusal) ∷ later in
        (d, subst (λ (o : Option Refusal). UnlessRefused now o (HopAdds start now packet later) later d) (says start c s) refl, a.0, a.1, refl);
  }

  -- it goes to its next hop
  pub carried : {answer : answers.Answer} → ((start : Start) (c : Chronicle) → Stands stream start old c → None ≡ refusal_of_carried start now packet c)
      → AddsByHop stream old new x y now packet answer → AddsEvent stream old new x y now (events.Carries packet) answer
  carried {answer} says adds = record {
    each = λ start c s le.
        let a = adds.each start c s le in
        let later : Chronicle = (now, Passed) ∷ c in
        (a.0, subst (λ (o : Option Refusal). UnlessRefused now o (HopAdds start now packet later) later a.0) (says start c s) a.1, a.2, a.3, a.4);
  }

  -- it adds a refusal alone where it does so by its next hop
  pub carried_refused : (start : Start) (c : Chronicle) → None ≡ refusal_of_carried start now packet c
      → AddsRefusal now c (EventAdds start now (events.Carries packet)) → AddsRefusal now c (HopAdds start now packet)
  carried_refused start c says adds =
      let later : Chronicle = (now, Passed) ∷ c in
      (adds.0, subst (λ (o : Option Refusal). UnlessRefused now o (HopAdds start now packet later) later ((now, Refused adds.0) ∷ later)) (sym says) adds.1)
