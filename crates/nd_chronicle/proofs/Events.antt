-- An event adds one thing, and a history has one chronicle.
use Rattle.std.proofs.Common.{◌≡◌, ℕ, Bool, true, false, List, [], ◌∷◌, ◌++◌, Option, Some, None, refl, sym, ◌∙◌, ap, subst}
use Rattle.std.specs.Prelude.{MatchBool, MatchOption, map, bytes_eq, nat_lt, ◌==◌}
use Rattle.std.specs.Option.{option_map}
use Rattle.nd_addr.specs.declared.addr.Addr.{Addr}
use Rattle.nd_addr.specs.Kind.{multicast_prefix, unspecified_address}
use Rattle.nd_addr.specs.Ip6.{PacketParts}
use Rattle.nd_addr.specs.Frame.{addressed}
use Rattle.nd_addr.specs.Number.{mac_at, number_of, holds}
use Rattle.nd_addr.specs.declared.role.Role.{Role}
use Rattle.nd_addr.specs.declared.role.Role.TheVariants.{Host, Router}
use Rattle.nd_addr.specs.Same.{same_addr, addrs_tell, same_prefix, prefixes_tell, bytes_tell}
use Rattle.nd_forwarding.specs.Forward.{Fate, lost_no_route, lost_hop_limit, sent, fate}
use Rattle.nd_forwarding.specs.Routes.{routes}
use Rattle.nd_decode.specs.Message.{Parts}
use Rattle.nd_decode.specs.declared.body.Body.{Body}
use Rattle.nd_decode.specs.declared.body.Body.TheVariants as bodies
use Rattle.nd_table.proofs.UniqueKeys.{one_listing, one_shown}
use Rattle.nd_table.proofs.Unique.{one_list}
use Rattle.nd_neighbour.specs.GivingWay.{GivesWay}
use Rattle.nd_neighbour.specs.History.{RowKind}
use Rattle.nd_neighbour.specs.Shown as neighbours
use Rattle.nd_neighbour.proofs.Unique as neighbour_proofs
use Rattle.nd_nexthop.specs.NextHop.{NextHop, direct, via, no_route}
use Rattle.nd_slaac.specs.Shown as addresses
use Rattle.nd_slaac.specs.PrefixOption.{prefixes_in}
use Rattle.nd_slaac.specs.History.{Lifetimes}
use Rattle.nd_slaac.specs.State.{is_known}
use Rattle.nd_slaac.proofs.Unique.{one_fit, one_room, one_table}
use Rattle.nd_dns.specs.AnnouncedNames.{same_name}
use Rattle.nd_chronicle.specs.Start.{Start, link_local_key}
use Rattle.nd_chronicle.specs.Happening.{Chronicle, Heard, ClearedRedirects, RedirectMade, Sent, Shown, Limit, Neighbours, Refusal, Full, Passed, TooLate, last_moment}
use Rattle.nd_chronicle.specs.Histories.{neighbour_history, prefix_history, address_history, server_history, name_history, route_history, router_history}
use Rattle.nd_chronicle.specs.Message.{said, HasWay, PlaceFor, RoomBy, RoomFor, WayFor, failing_for, makes_way, releasing}
use Rattle.nd_chronicle.specs.RouterAdvertisement.{forming, then_advertised}
use Rattle.nd_chronicle.specs.ByHand.{FormsByHand, no_room, setting}
use Rattle.nd_chronicle.specs.Resolve.{PathAdds, ResolveAdds, Wants, WantsIfPlaced}
use Rattle.nd_chronicle.specs.NeighborSolicitation as asked
use Rattle.nd_chronicle.specs.NeighborSolicitation.{is_router}
use Rattle.nd_compose.specs.Frames.{answer_frame}
use Rattle.nd_chronicle.specs.OwnAddress.{is_own, refusal_unless_up, story_of}
use Rattle.nd_chronicle.specs.Packet.{no_place, Goes, GoesIfPlaced}
use Rattle.nd_chronicle.specs.Refused.{UnlessRefused, AtRouter}
use Rattle.nd_chronicle.specs.Hearing.{Verdict, hears, goes_up, goes_on, drops}
use Rattle.nd_chronicle.specs.Advertising.{planning, wants_answer, full_of_offers, full_of_routes}
use Rattle.nd_chronicle.specs.Forwarding.{better_hop_frame, frame_sent_on, Redirects, SendsOn, FateAdds, redirect_to}
use Rattle.nd_chronicle.specs.NeighborAdvertisement.{then_neighbor_advertised}
use Rattle.nd_chronicle.specs.Full.{needs, Placed, Fills}
use Rattle.nd_chronicle.specs.Parts.{Taken, TakenOfMessage, IsTakenInPart, as_placed, passed_over, ignoring}
use Rattle.nd_chronicle.specs.Shown as tables
use Rattle.nd_chronicle.specs.Shown.{Table, AreRows, neighbour_row, router_row, prefix_row, address_row, server_row, search_row}
use Rattle.nd_chronicle.specs.Event as events
use Rattle.nd_chronicle.specs.Event.{Event, Clearable, packet_bytes, HeardAdds, InPart, MessageAdds, PartAdds, VerdictAdds, FrameAdds, PacketAdds, HopAdds, SendAdds, packet_sent, refusal_of_packet, CarryAdds, refusal_of_carried, ClearAdds, clearing, all_leaving, EventAdds}
use Rattle.nd_routers.specs.History.{preference_of}
use Rattle.nd_routers.specs.Shown as routers_shown
use Rattle.nd_chronicle.specs.History.{Walk, Follows, Runs}
use Rattle.nd_chronicle.proofs.Places.{one_place, one_has_place, have_one_place, one_goes, one_wants}
use Rattle.nd_chronicle.proofs.Hops.{one_router_list, one_hop, one_heard}
use Rattle.nd_chronicle.proofs.Dues.{one_walk}

-- by a test, or by a refusal
pub by_test : (t : Bool) {A B A' B' : Type 0} {X : Type 0} → (A → A' → X) → (B → B' → X) → MatchBool t A B → MatchBool t A' B' → X
by_test true f g a b = f a b
by_test false f g a b = g a b

module _ (start : Start) (c : Chronicle) (now : ℕ) where
  unless_refused : (r : Option Refusal) (A : Chronicle → Type 0) (d e : Chronicle) → (A d → A e → d ≡ e) → UnlessRefused now r A c d → UnlessRefused now r A c e → d ≡ e
  unless_refused None A d e one h k = one h k
  unless_refused (Some refusal) A d e one h k = h ∙ sym k

  at_router : (role : Role) (A : Chronicle → Type 0) (d e : Chronicle) → (A d → A e → d ≡ e) → AtRouter now role A c d → AtRouter now role A c e → d ≡ e
  at_router Host A d e one h k = h ∙ sym k
  at_router Router A d e one h k = one h k

  one_place_for : (c : Chronicle) (news : Option (ℕ × RowKind)) (d e : Chronicle) → PlaceFor start c now news d → PlaceFor start c now news e → d ≡ e
  one_place_for c None d e h k = h ∙ sym k
  one_place_for c (Some news) d e h k = one_place start c now news.0 _ d e h k

  one_has_way : (key : ℕ) (enters a b : Bool) → HasWay start c now key enters a → HasWay start c now key enters b → a ≡ b
  one_has_way key enters true true h k = refl
  one_has_way key enters true false h k = absurd (h k.0 k.1)
  one_has_way key enters false true h k = absurd (k h.0 h.1)
  one_has_way key enters false false h k = refl

  pub one_placed : (way : Bool) (need : Option (ℕ × Bool)) (a b : Bool) → Placed start c now way need a → Placed start c now way need b → a ≡ b
  one_placed way None a b h k = h ∙ sym k
  one_placed true (Some need) a b h k = one_has_way need.0 need.1 a b h k
  one_placed false (Some need) a b h k = one_has_place start c now need.0 need.1 a b h k

  -- one neighbour gives way, or none
  one_way_by : (key : ℕ) (makes : Bool) (a b : Option ℕ) → MatchBool makes (GivesWay start.limits.neighbours now key (neighbour_history c) a) (a ≡ None)
      → MatchBool makes (GivesWay start.limits.neighbours now key (neighbour_history c) b) (b ≡ None) → a ≡ b
  one_way_by key true a b h k = neighbour_proofs.one_gives_way start.limits.neighbours now key (neighbour_history c) a b h k
  one_way_by key false a b h k = h ∙ sym k

  one_way : (news : Option (ℕ × RowKind)) (a b : Option ℕ) → WayFor start c now news a → WayFor start c now news b → a ≡ b
  one_way None a b h k = h ∙ sym k
  one_way (Some news) a b h k = one_way_by news.0 (makes_way start (Some news)) a b h k

  pub one_full : (source : Addr) (message : Parts) (body : Body) (a b : Option Limit) → Fills start c now source message body a → Fills start c now source message body b → a ≡ b
  one_full source message (bodies.Ra ra) a b h k =
      let e1 = one_placed (makes_way start (said c source message)) (needs c source message message.body) h.neighbours k.neighbours h.placed k.placed in
      let e2 = one_router_list c now h.routers k.routers h.those_routers k.those_routers in
      let e3 = one_listing same_prefix prefixes_tell (prefix_history c) now h.prefixes k.prefixes h.those_prefixes k.those_prefixes in
      let e4 = one_fit start.limits.addresses start.mac (address_history c) (prefixes_in message.options) h.forms k.forms h.those_addresses k.those_addresses in
      let e5 = one_listing same_addr addrs_tell (server_history c) now h.servers k.servers h.those_servers k.those_servers in
      let e6 = one_listing same_name bytes_tell (name_history c) now h.names k.names h.those_names k.those_names in
      let f = h.first in
      let g = k.first in
      cc
  one_full source message bodies.Rs a b h k = h.first ∙ ap no_place (one_placed (makes_way start (said c source message)) (needs c source message message.body) h.neighbours k.neighbours h.placed k.placed) ∙ sym k.first
  one_full source message (bodies.Ns ns) a b h k = h.first ∙ ap no_place (one_placed (makes_way start (said c source message)) (needs c source message message.body) h.neighbours k.neighbours h.placed k.placed) ∙ sym k.first
  one_full source message (bodies.Na na) a b h k = h.first ∙ ap no_place (one_placed (makes_way start (said c source message)) (needs c source message message.body) h.neighbours k.neighbours h.placed k.placed) ∙ sym k.first
  one_full source message (bodies.Redirect r) a b h k = h.first ∙ ap no_place (one_placed (makes_way start (said c source message)) (needs c source message message.body) h.neighbours k.neighbours h.placed k.placed) ∙ sym k.first

  module _ (source destination : Addr) (message : Parts) where
    -- the message behind the room for a neighbour, and behind it the failure of one that gave way
    abbrev heard_behind : Option ℕ → Chronicle → Chronicle
    heard_behind gone placed = failing_for now gone (neighbour_history c) ((now, Heard source destination message) ∷ placed)

    one_room_by : (news : Option (ℕ × RowKind)) (gone : Option ℕ) (d e : Chronicle) → RoomBy start c now news gone d → RoomBy start c now news gone e → d ≡ e
    one_room_by news None d e h k = one_place_for c news d e h k
    one_room_by news (Some gone) d e h k = h ∙ sym k

    -- there is one place, with one that gives way
    one_room_for : (then' : Option ℕ → Chronicle → Type 0) (news : Option (ℕ × RowKind)) (a b : Option ℕ) (d e : Chronicle) → RoomFor start c now news a d → RoomFor start c now news b e → then' a d → then' b e
    one_room_for then' news a b d e h k t =
        let gone : a ≡ b = one_way news a b h.way k.way in
        let place : RoomBy start c now news b d = subst (λ (o : Option ℕ). RoomBy start c now news o d) gone h.place in
        subst (λ (x : Chronicle). then' b x) (one_room_by news b d e place k.place) (subst (λ (o : Option ℕ). then' o d) gone t)

    abbrev answering : Addr → Chronicle → Option ℕ → Chronicle → Type 0
    answering target d gone placed =
        asked.Replies start now (number_of source.0) (answer_frame (is_router start.role) start.mac target source)
        (releasing now (said c source message) (neighbour_history placed) (heard_behind gone placed)) d

    one_reply : (known : Option ℕ) (key : ℕ) (packet : List ℕ) (b d e : Chronicle) → MatchOption known (Goes start b now key packet d) (λ mac. d ≡ (now, Sent (addressed (mac_at mac) packet)) ∷ b)
        → MatchOption known (Goes start b now key packet e) (λ mac. e ≡ (now, Sent (addressed (mac_at mac) packet)) ∷ b) → d ≡ e
    one_reply None key packet b d e h k = one_goes start b now key packet d e h k
    one_reply (Some mac) key packet b d e h k = h ∙ sym k

    one_answer : (target : Addr) (d e : Chronicle) → asked.Answers start now source destination target message c d → asked.Answers start now source destination target message c e → d ≡ e
    one_answer target d e h k =
        let b = releasing now (said c source message) (neighbour_history k.placed) (heard_behind k.gone k.placed) in
        one_reply (asked.sent_alone_to start now (number_of source.0) b) (number_of source.0) (answer_frame (is_router start.role) start.mac target source) b d e
        (one_room_for (λ gone placed. answering target d gone placed) (said c source message) h.gone k.gone h.placed k.placed h.room k.room h.answer) k.answer

    -- behind the room for a neighbour a function says the rest
    one_behind : (then' : Chronicle → Chronicle) (d e : Chronicle)
        → ((placed : Chronicle) × PlaceFor start c now (said c source message) placed × (d ≡ then' placed))
        → ((placed : Chronicle) × PlaceFor start c now (said c source message) placed × (e ≡ then' placed)) → d ≡ e
    one_behind then' d e h k = h.2 ∙ ap then' (one_place_for c (said c source message) h.0 k.0 h.1 k.1) ∙ sym k.2

    one_behind_room : (then' : Option ℕ → Chronicle → Chronicle) (d e : Chronicle)
        → ((gone : Option ℕ) × (placed : Chronicle) × RoomFor start c now (said c source message) gone placed × (d ≡ then' gone placed))
        → ((gone : Option ℕ) × (placed : Chronicle) × RoomFor start c now (said c source message) gone placed × (e ≡ then' gone placed)) → d ≡ e
    one_behind_room then' d e h k = one_room_for (λ gone placed. d ≡ then' gone placed) (said c source message) h.0 k.0 h.1 k.1 h.2 k.2 h.3 ∙ sym k.3

    one_message : (body : Body) (d e : Chronicle) → MessageAdds start now source destination message body c d → MessageAdds start now source destination message body c e → d ≡ e
    one_message (bodies.Ns ns) d e h k = by_test (bytes_eq source.0 unspecified_address) (λ x y. x ∙ sym y) (one_answer ns.target d e) h k
    one_message (bodies.Ra ra) d e h k = one_behind_room (λ gone placed. then_advertised start now source destination ra message true gone (neighbour_history c) placed) d e h k
    one_message (bodies.Na na) d e h k = one_behind (λ placed. then_neighbor_advertised start now source destination na.target message placed) d e h k
    one_message bodies.Rs d e h k =
        one_behind_room (λ gone placed. planning start now (wants_answer start c) (releasing now (said c source message) (neighbour_history placed) (heard_behind gone placed))) d e h k
    one_message (bodies.Redirect r) d e h k =
        one_behind_room (λ gone placed. releasing now (said c source message) (neighbour_history placed) (heard_behind gone placed)) d e h k

  -- ---- one message is taken in one way in part

  same_taken : (a b : Taken) → a.place ≡ b.place → a.message ≡ b.message → a.listed ≡ b.listed → a.ignored ≡ b.ignored → a ≡ b
  same_taken a b place message listed ignored =
      ap (λ (p : Bool). record { place = p; message = a.message; listed = a.listed; ignored = a.ignored }) place
      ∙ (ap (λ (m : Parts). record { place = b.place; message = m; listed = a.listed; ignored = a.ignored }) message
      ∙ (ap (λ (l : Bool). record { place = b.place; message = b.message; listed = l; ignored = a.ignored }) listed
      ∙ ap (λ (i : List Limit). record { place = b.place; message = b.message; listed = b.listed; ignored = i }) ignored))

  one_named : (source : Addr) (message : Parts) (a b : Taken) → TakenOfMessage start c now source message a → TakenOfMessage start c now source message b → a ≡ b
  one_named source message a b h k =
      let place = one_placed (makes_way start (said c source message)) (needs c source message message.body) a.place b.place h.placed k.placed in
      same_taken a b place
      (h.message_is ∙ (ap (λ (p : Bool). record { body = message.body; options = as_placed p message.options }) place ∙ sym k.message_is))
      (h.listed_is ∙ sym k.listed_is)
      (h.ignored_is ∙ (ap (λ (p : Bool). passed_over p Neighbours) place ∙ sym k.ignored_is))

  one_in_part : (source : Addr) (message : Parts) (body : Body) (a b : Taken) → IsTakenInPart start c now source message body a → IsTakenInPart start c now source message body b → a ≡ b
  one_in_part source message (bodies.Ra ra) a b h k =
      let e1 = one_placed (makes_way start (said c source message)) (needs c source message message.body) a.place b.place h.placed k.placed in
      let e2 = one_router_list c now h.routers k.routers h.those_routers k.those_routers in
      let e3 = one_listing same_prefix prefixes_tell (prefix_history c) now h.prefixes k.prefixes h.those_prefixes k.those_prefixes in
      let e4 = one_table (address_history c) h.known k.known h.those_addresses k.those_addresses in
      let e5 = one_listing same_addr addrs_tell (server_history c) now h.servers k.servers h.those_servers k.those_servers in
      let e6 = one_listing same_name bytes_tell (name_history c) now h.names k.names h.those_names k.those_names in
      let listed : a.listed ≡ b.listed = (let f = h.listed_is in let g = k.listed_is in cc) in
      let message_is : a.message ≡ b.message = (let f = h.message_is in let g = k.message_is in cc) in
      let ignored : a.ignored ≡ b.ignored = (let f = h.ignored_is in let g = k.ignored_is in cc) in
      same_taken a b e1 message_is listed ignored
  one_in_part source message bodies.Rs a b h k = one_named source message a b h k
  one_in_part source message (bodies.Ns ns) a b h k = one_named source message a b h k
  one_in_part source message (bodies.Na na) a b h k = one_named source message a b h k
  one_in_part source message (bodies.Redirect r) a b h k = one_named source message a b h k

  module _ (source destination : Addr) (message : Parts) (taken : Taken) where
    one_part : (body : Body) (d e : Chronicle) → PartAdds start now source destination message taken body c d → PartAdds start now source destination message taken body c e → d ≡ e
    one_part (bodies.Ns ns) d e h k = by_test taken.place (one_message source destination taken.message (bodies.Ns ns) d e) (λ x y. x ∙ sym y) h k
    one_part (bodies.Ra ra) d e h k =
        one_behind_room source destination taken.message (λ gone placed. then_advertised start now source destination ra taken.message taken.listed gone (neighbour_history c) placed) d e h k
    one_part (bodies.Na na) d e h k = one_message source destination taken.message (bodies.Na na) d e h k
    one_part bodies.Rs d e h k = one_message source destination taken.message bodies.Rs d e h k
    one_part (bodies.Redirect r) d e h k = one_message source destination taken.message (bodies.Redirect r) d e h k

  module _ (source destination : Addr) (message : Parts) where
    one_taken_in_part : (d e : Chronicle) → InPart start now source destination message c d → InPart start now source destination message c e → d ≡ e
    one_taken_in_part d e h k =
        let same : h.taken ≡ k.taken = one_in_part source message message.body h.taken k.taken h.is_taken k.is_taken in
        let told : h.told ≡ k.told = one_part source destination message k.taken message.body h.told k.told (subst (λ (t : Taken). PartAdds start now source destination message t message.body c h.told) same h.adds) k.adds in
        h.all ∙ (ap (λ (t : Taken). ignoring now t.ignored h.told) same ∙ (ap (λ (x : Chronicle). ignoring now k.taken.ignored x) told ∙ sym k.all))

    one_heard_message : (full : Option Limit) (d e : Chronicle) → HeardAdds start now full source destination message c d → HeardAdds start now full source destination message c e → d ≡ e
    one_heard_message None d e h k = one_message source destination message message.body d e h k
    one_heard_message (Some limit) d e h k = by_test start.policies.parts (one_taken_in_part d e) (λ x y. x ∙ sym y) h k

  one_if_placed : (key : ℕ) (packet : List ℕ) (d e : Chronicle) → GoesIfPlaced start now key packet c d → GoesIfPlaced start now key packet c e → d ≡ e
  one_if_placed key packet d e h k =
      let same : h.0 ≡ k.0 = one_has_place start c now key true h.0 k.0 h.1 k.1 in
      unless_refused (option_map Full (no_place k.0)) (Goes start c now key packet) d e (one_goes start c now key packet d e)
      (subst (λ (place : Bool). UnlessRefused now (option_map Full (no_place place)) (Goes start c now key packet) c d) same h.2) k.2

  module _ (packet : PacketParts) (bytes : List ℕ) where
    one_redirects : (target : Addr) (key : ℕ) (d e : Chronicle) → Redirects start now target packet bytes key c d → Redirects start now target packet bytes key c e → d ≡ e
    one_redirects target key d e h k =
        let same : h.told ≡ k.told = one_goes start ((now, RedirectMade) ∷ c) now (number_of packet.header.source.0) (better_hop_frame start now target packet bytes c) h.told k.told h.redirect k.redirect in
        one_goes start k.told now key (frame_sent_on start now packet) d e (subst (λ (x : Chronicle). Goes start x now key (frame_sent_on start now packet) d) same h.behind) k.behind

    one_sends_on : (target : Option Addr) (key : ℕ) (d e : Chronicle) → SendsOn start now target packet bytes key c d → SendsOn start now target packet bytes key c e → d ≡ e
    one_sends_on None key d e h k = one_if_placed key _ d e h k
    one_sends_on (Some target) key d e h k =
        let same : h.0 ≡ k.0 = have_one_place start c now (number_of packet.header.source.0) key h.0 k.0 h.1 k.1 in
        unless_refused (option_map Full (no_place k.0)) (Redirects start now target packet bytes key c) d e (one_redirects target key d e)
        (subst (λ (place : Bool). UnlessRefused now (option_map Full (no_place place)) (Redirects start now target packet bytes key c) c d) same h.2) k.2

    one_fate : (f : Fate) (d e : Chronicle) → FateAdds start now f packet bytes c d → FateAdds start now f packet bytes c e → d ≡ e
    one_fate lost_no_route d e h k = h ∙ sym k
    one_fate lost_hop_limit d e h k = h ∙ sym k
    one_fate (sent next) d e h k = one_sends_on (redirect_to start now packet c) _ d e h k

  one_verdict : (frame : List ℕ) (v : Verdict) (d e : Chronicle) → VerdictAdds start now frame v c d → VerdictAdds start now frame v c e → d ≡ e
  one_verdict frame (drops why) d e h k = h ∙ sym k
  one_verdict frame (goes_up packet) d e h k = h ∙ sym k
  one_verdict frame (goes_on packet) d e h k = one_fate packet (packet_bytes frame) (fate (is_own c) (routes (route_history c)) packet.header) d e h k
  one_verdict frame (hears source destination message) d e h k =
      let same : h.0 ≡ k.0 = one_full source message message.body h.0 k.0 h.1 k.1 in
      one_heard_message source destination message k.0 d e (subst (λ (full : Option Limit). HeardAdds start now full source destination message c d) same h.2) k.2

  pub one_frame : (frame : List ℕ) (d e : Chronicle) → FrameAdds start now frame c d → FrameAdds start now frame c e → d ≡ e
  one_frame frame d e h k =
      one_verdict frame k.verdict d e
      (subst (λ (v : Verdict). VerdictAdds start now frame v c d) (one_heard c now start frame h.verdict k.verdict h.heard k.heard) h.adds) k.adds

  module _ (packet : PacketParts) where
    one_packet : (next : NextHop) (d e : Chronicle) → PacketAdds start now next packet c d → PacketAdds start now next packet c e → d ≡ e
    one_packet no_route d e h k = h ∙ sym k
    one_packet direct d e h k = by_test (holds multicast_prefix packet.header.destination.0) (λ x y. x ∙ sym y) (one_if_placed _ _ d e) h k
    one_packet (via key) d e h k = one_if_placed key _ d e h k

    one_by_hop : (d e : Chronicle) → HopAdds start now packet c d → HopAdds start now packet c e → d ≡ e
    one_by_hop d e x y =
        let same : x.0 ≡ y.0 = one_hop c now start start.role packet.header.destination x.0 y.0 x.1 y.1 in
        one_packet y.0 d e (subst (λ (next : NextHop). PacketAdds start now next packet c d) same x.2) y.2

  one_send : (source destination : Addr) (next_header : ℕ) (payload : List ℕ) (d e : Chronicle) → SendAdds start now source destination next_header payload c d
      → SendAdds start now source destination next_header payload c e → d ≡ e
  one_send source destination next_header payload d e h k =
      unless_refused (refusal_of_packet start now source payload c) _ d e (one_by_hop (packet_sent start now source destination next_header payload c) d e) h k

  one_carry : (packet : PacketParts) (d e : Chronicle) → CarryAdds start now packet c d → CarryAdds start now packet c e → d ≡ e
  one_carry packet d e h k =
      unless_refused (refusal_of_carried start now packet c) _ d e (one_by_hop packet d e) h k

  module _ (destination : Addr) where
    one_if_wanted : (key : ℕ) (d e : Chronicle) → WantsIfPlaced start now destination key c d → WantsIfPlaced start now destination key c e → d ≡ e
    one_if_wanted key d e h k =
        let same : h.0 ≡ k.0 = one_has_place start c now key true h.0 k.0 h.1 k.1 in
        unless_refused (option_map Full (no_place k.0)) (Wants start destination c now key) d e (one_wants start c now key destination d e)
        (subst (λ (place : Bool). UnlessRefused now (option_map Full (no_place place)) (Wants start destination c now key) c d) same h.2) k.2

    one_path : (next : NextHop) (d e : Chronicle) → PathAdds start now next destination c d → PathAdds start now next destination c e → d ≡ e
    one_path no_route d e h k = h ∙ sym k
    one_path direct d e h k = by_test (holds multicast_prefix destination.0) (λ x y. x ∙ sym y) (one_if_wanted _ d e) h k
    one_path (via key) d e h k = one_if_wanted key d e h k

    one_resolve : (d e : Chronicle) → ResolveAdds start now destination c d → ResolveAdds start now destination c e → d ≡ e
    one_resolve d e h k = unless_refused (refusal_unless_up start c) _ d e
        (λ x y. one_path y.0 d e (subst (λ (next : NextHop). PathAdds start now next destination c d) (one_hop c now start start.role destination x.0 y.0 x.1 y.1) x.2) y.2) h k

  one_clear : (table : Clearable) (d e : Chronicle) → ClearAdds start now table c d → ClearAdds start now table c e → d ≡ e
  one_clear events.ClearNeighbours d e h k = h.2 ∙ ap (λ entries. clearing start now entries c) (neighbour_proofs.one_table (neighbour_history c) h.0 k.0 h.1 k.1) ∙ sym k.2
  one_clear events.ClearRouters d e h k = h.2 ∙ ap (λ es. (now, ClearedRedirects) ∷ all_leaving start now es c) (one_router_list c now h.0 k.0 h.1 k.1) ∙ sym k.2
  one_clear events.ClearPrefixes d e h k = h ∙ sym k
  one_clear events.ClearRedirects d e h k = h ∙ sym k
  one_clear events.ClearDns d e h k = h ∙ sym k

  pub one_rows : (table : Table) (a b : List (List ℕ)) → AreRows start c now table a → AreRows start c now table b → a ≡ b
  one_rows tables.NeighbourTable a b h k =
      h.2 ∙ ap (map neighbour_row) (one_list neighbours.seen_key h.0 k.0 h.1.order k.1.order (λ key. h.1.each key ∙ sym (k.1.each key))) ∙ sym k.2
  one_rows tables.RouterTable a b h k =
      let same : h.0 ≡ k.0 = h.1.2 ∙ ap (map (routers_shown.seen now (λ key. preference_of key (router_history c)))) (one_router_list c now h.1.0 k.1.0 h.1.1 k.1.1) ∙ sym k.1.2 in
      h.2 ∙ ap (map router_row) same ∙ sym k.2
  one_rows tables.PrefixTable a b h k = h.2 ∙ ap (map prefix_row) (one_shown same_prefix prefixes_tell (prefix_history c) now h.0 k.0 h.1 k.1) ∙ sym k.2
  one_rows tables.AddressTable a b h k =
      h.2 ∙ ap (map address_row) (one_list addresses.seen_key h.0 k.0 h.1.order k.1.order (λ key. h.1.each key ∙ sym (k.1.each key))) ∙ sym k.2
  one_rows tables.DnsTable a b h k =
      h.4
      ∙ ap (λ servers. map server_row servers ++ map search_row h.2) (one_shown same_addr addrs_tell (server_history c) now h.0 k.0 h.1 k.1)
      ∙ ap (λ names. map server_row k.0 ++ map search_row names) (one_shown same_name bytes_tell (name_history c) now h.2 k.2 h.3 k.3)
      ∙ sym k.4
  one_rows tables.RedirectTable a b h k = h ∙ sym k
  one_rows tables.ParameterTable a b h k = h ∙ sym k
  one_rows tables.AdvertiseTable a b h k = h ∙ sym k
  one_rows tables.RouteTable a b h k = h ∙ sym k

  one_set : (own known : Bool) (key : ℕ) (lifetimes : Lifetimes) (d e : Chronicle)
      → MatchBool own (d ≡ c) (MatchBool known (d ≡ setting start now key lifetimes c) (FormsByHand start now key lifetimes c d))
      → MatchBool own (e ≡ c) (MatchBool known (e ≡ setting start now key lifetimes c) (FormsByHand start now key lifetimes c e)) → d ≡ e
  one_set true known key lifetimes d e h k = h ∙ sym k
  one_set false true key lifetimes d e h k = h ∙ sym k
  one_set false false key lifetimes d e h k =
      let same : h.0 ≡ k.0 = one_room start.limits.addresses (address_history c) h.0 k.0 h.1 k.1 in
      unless_refused (option_map Full (no_room k.0)) _ d e (λ x y. x ∙ sym y)
      (subst (λ (room : Bool). UnlessRefused now (option_map Full (no_room room)) (λ x. x ≡ setting start now key lifetimes (forming start now false key lifetimes c)) c d) same h.2) k.2

  pub one_event : (event : Event) (d e : Chronicle) → EventAdds start now event c d → EventAdds start now event c e → d ≡ e
  one_event events.Passes d e h k = h ∙ sym k
  one_event (events.Receives frame) d e h k = one_frame frame d e h k
  one_event (events.Sends source destination next_header payload) d e h k = one_send source destination next_header payload d e h k
  one_event (events.Carries packet) d e h k = one_carry packet d e h k
  one_event (events.Resolves destination) d e h k = one_resolve destination d e h k
  one_event (events.Confirms neighbour) d e h k = h ∙ sym k
  one_event (events.Forgets neighbour) d e h k = h ∙ sym k
  one_event (events.Clears table) d e h k = one_clear table d e h k
  one_event (events.Shows table) d e h k = h.2 ∙ ap (λ rows. (now, Shown rows) ∷ c) (one_rows table h.0 k.0 h.1 k.1) ∙ sym k.2
  one_event (events.Advertises settings) d e h k = at_router start.role _ d e (λ x y. x ∙ sym y) h k
  one_event (events.Offers info) d e h k =
      at_router start.role _ d e (λ x y. unless_refused (option_map Full (full_of_offers start info.prefix c)) _ d e (λ u v. u ∙ sym v) x y) h k
  one_event (events.Routes prefix route) d e h k =
      at_router start.role _ d e (λ x y. unless_refused (option_map Full (full_of_routes start prefix c)) _ d e (λ u v. u ∙ sym v) x y) h k
  one_event events.Stops d e h k = at_router start.role _ d e (λ x y. x ∙ sym y) h k
  one_event (events.Sets own) d e h k =
      unless_refused (refusal_unless_up start c) _ d e
      (one_set (number_of own.address.0 == link_local_key start) (is_known (story_of c (number_of own.address.0))) (number_of own.address.0) own.lifetimes d e) h k
  one_event (events.Withdraws address) d e h k = h ∙ sym k

module _ (start : Start) where
  one_walked : (c : Chronicle) (now : ℕ) (event : Event) (d e : Chronicle)
      → ((x : Chronicle) × Walk start c (last_moment start.at c) now x × EventAdds start now event ((now, Passed) ∷ x) d)
      → ((x : Chronicle) × Walk start c (last_moment start.at c) now x × EventAdds start now event ((now, Passed) ∷ x) e) → d ≡ e
  one_walked c now event d e h k =
      let same : h.0 ≡ k.0 = one_walk start h.1 k.1 in
      one_event start ((now, Passed) ∷ k.0) now event d e (subst (λ (x : Chronicle). EventAdds start now event ((now, Passed) ∷ x) d) same h.2) k.2

  one_following : (c : Chronicle) (now : ℕ) (event : Event) (d e : Chronicle) → Follows start c now event d → Follows start c now event e → d ≡ e
  one_following c now event d e h k =
      by_test (nat_lt now (last_moment start.at c)) (λ (x : d ≡ (now, TooLate (last_moment start.at c)) ∷ c) (y : e ≡ (now, TooLate (last_moment start.at c)) ∷ c). x ∙ sym y)
      (one_walked c now event d e) h k

  pub one_run : (history : List (ℕ × Event)) (c d e : Chronicle) → Runs start c history d → Runs start c history e → d ≡ e
  one_run [] c d e h k = h ∙ sym k
  one_run (event ∷ history) c d e h k =
      let same : h.0 ≡ k.0 = one_following c event.0 event.1 h.0 k.0 h.1 k.1 in
      one_run history k.0 d e (subst (λ (x : Chronicle). Runs start x history d) same h.2) k.2
