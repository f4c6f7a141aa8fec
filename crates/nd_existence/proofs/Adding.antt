-- Each event adds something.
use Rattle.std.proofs.Common.{◌≡◌, ℕ, Bool, true, false, cond, eqb, List, [], ◌∷◌, ◌++◌, Option, Some, None, refl, sym, ◌∙◌, ap, subst}
use Rattle.std.specs.Prelude.{MatchBool, MatchOption, map, bytes_eq, if◌then◌else◌, length, nat_lt, ◌==◌}
use Rattle.std.proofs.lemmas.Bool.Decides.{eqb_tells}
use Rattle.std.proofs.lemmas.Bool.{cond-true, cond-false, eq-eqb, eqb-true, true≢false}
use Rattle.nd_addr.specs.declared.addr.Addr.{Addr}
use Rattle.nd_addr.specs.declared.mac.Mac.{Mac}
use Rattle.nd_addr.specs.declared.role.Role.{Role}
use Rattle.nd_addr.specs.declared.role.Role.TheVariants.{Host, Router}
use Rattle.nd_addr.specs.Ip6.{PacketParts}
use Rattle.nd_addr.specs.Kind.{multicast_prefix, unspecified_address}
use Rattle.nd_addr.specs.Prefix.{PrefixValue}
use Rattle.nd_addr.specs.Number.{mac_at, number_of, holds}
use Rattle.nd_addr.specs.Same.{same_addr, addrs_tell, same_prefix, prefixes_tell, bytes_tell}
use Rattle.nd_decode.specs.Message.{Parts}
use Rattle.nd_decode.specs.Option.{Said}
use Rattle.nd_decode.specs.declared.body.Body.{Body}
use Rattle.nd_decode.specs.declared.body.Body.TheVariants as bodies
use Rattle.nd_decode.specs.declared.neighbor_advertisement.NeighborAdvertisement.{NeighborAdvertisement}
use Rattle.nd_decode.specs.declared.neighbor_solicitation.NeighborSolicitation.{NeighborSolicitation}
use Rattle.nd_decode.specs.declared.router_advertisement.RouterAdvertisement.{RouterAdvertisement}
use Rattle.nd_dns.specs.AnnouncedNames.{same_name, names_told}
use Rattle.nd_dns.specs.AnnouncedServers.{servers_told}
use Rattle.nd_compose.specs.Frames.{answer_frame, multicast_mac, open_mac}
use Rattle.nd_table.specs.declared.lasting.Lasting.{Lasting}
use Rattle.nd_table.specs.Listing.{Lists, fits}
use Rattle.nd_table.specs.Shown as shown_lifetimes
use Rattle.nd_addr.specs.Frame.{addressed}
use Rattle.nd_neighbour.specs.GivingWay.{GivesWay}
use Rattle.nd_neighbour.specs.History as neighbours
use Rattle.nd_neighbour.specs.History.{RowKind, Row, story}
use Rattle.nd_neighbour.specs.Place.{WouldBeFull}
use Rattle.nd_neighbour.specs.ShownKept as shown_neighbours
use Rattle.nd_neighbour.specs.Story.{is_awaited, is_present, mac_of, waits_of}
use Rattle.nd_neighbour.specs.News.{released_by}
use Rattle.nd_neighbour.proofs.Forgetting as forgetting_proofs
use Rattle.nd_nexthop.specs.NextHop.{NextHop, direct, via, no_route}
use Rattle.nd_routers.specs.History.{announcements, preference_of}
use Rattle.nd_routers.specs.Shown as shown_routers
use Rattle.nd_routers.specs.OnLinkPrefixes.{prefixes_in}
use Rattle.nd_routers.specs.Routers.{same}
use Rattle.nd_forwarding.specs.Forward.{Fate, lost_no_route, lost_hop_limit, sent, fate}
use Rattle.nd_forwarding.specs.Routes.{routes}
use Rattle.nd_slaac.specs.AddressKept.{Address}
use Rattle.nd_slaac.specs.ByHand.{AddressByHand}
use Rattle.nd_slaac.specs.History.{Lifetimes}
use Rattle.nd_slaac.specs.PrefixOption as own_prefixes
use Rattle.nd_slaac.specs.Room.{HasRoomBy, fits_in}
use Rattle.nd_slaac.specs.ShownKept as shown_addresses
use Rattle.nd_slaac.specs.State.{is_known}
use Rattle.nd_slaac.specs.TableKept.{Stands, key_of}
use Rattle.nd_slaac.proofs.Showing as showing
use Rattle.nd_chronicle.specs.Start.{Start, link_local_key}
use Rattle.nd_chronicle.specs.Happening.{Chronicle, Heard, Dropped, Up, Neighbour, Configured, Offered, RoutePut, ClearedPrefixes, ClearedRedirects, ClearedDns, Sent, Lost, Path, WayTo, NoRoute, HopLimit, Unreachable, RedirectMade, Shown, Refused, Refusal, WrongRole, Full, Limit, Neighbours, Routers, Prefixes, Addresses, Servers, Names}
use Rattle.nd_chronicle.specs.Histories.{neighbour_history, router_history, prefix_history, address_history, server_history, name_history, route_history, given_or_marked, mark_of_target, said_of_source, then_neighbour}
use Rattle.nd_chronicle.specs.LinkLayerAddress.{first_slla}
use Rattle.nd_chronicle.specs.InForce.{reachable_time}
use Rattle.nd_chronicle.specs.OwnAddress.{is_own, refusal_unless_up, story_of}
use Rattle.nd_chronicle.specs.Packet.{sending, with_pushed, Goes, GoesIfPlaced, HavePlace, no_place}
use Rattle.nd_chronicle.specs.NextHop.{IsHopOf}
use Rattle.nd_chronicle.specs.Message.{said, failing_for, lets_enter, makes_way, PlaceFor, RoomFor, WayFor, sending_if_known, telling_if_known, releasing}
use Rattle.nd_chronicle.specs.RouterAdvertisement.{forming, then_advertised}
use Rattle.nd_chronicle.specs.ByHand.{no_room, setting, FormsByHand, AddressAdds, SetAdds, withdrawing}
use Rattle.nd_chronicle.specs.Resolve.{PathAdds, ResolveAdds, WantsIfPlaced}
use Rattle.nd_chronicle.specs.NeighborSolicitation as asked
use Rattle.nd_chronicle.specs.NeighborSolicitation.{is_router, then_answered, then_tried}
use Rattle.nd_chronicle.specs.NeighborAdvertisement.{then_neighbor_advertised}
use Rattle.nd_chronicle.specs.Full.{entering, asking, needs, Placed, first_full, AdvertisementFills, MessageFills, Fills}
use Rattle.nd_chronicle.specs.Refused.{UnlessRefused, UnlessFull, AtRouter}
use Rattle.nd_chronicle.specs.Advertising.{planning, wants_answer, ceasing, full_of_offers, full_of_routes}
use Rattle.nd_chronicle.specs.Forwarding.{key_of as hop_key, better_hop_frame, frame_as_it_came, frame_sent_on, SendsOn, redirect_to, FateAdds}
use Rattle.nd_chronicle.specs.Hearing.{Verdict, hears, goes_up, goes_on, drops}
use Rattle.nd_chronicle.specs.Shown as tables
use Rattle.nd_chronicle.specs.Shown.{Table, AreRows, neighbour_row, router_row, prefix_row, address_row, server_row, search_row}
use Rattle.nd_chronicle.specs.Event as events
use Rattle.nd_chronicle.specs.Event.{Event, Clearable, packet_bytes, HeardAdds, InPart, MessageAdds, PartAdds, VerdictAdds, FrameAdds, packet_sent, frame_with, PacketAdds, HopAdds, refusal_of_packet, SendAdds, CarryAdds, refusal_of_carried, forgetting, clearing, all_leaving, ClearAdds, EventAdds}
use Rattle.nd_chronicle.specs.Parts.{Filling, Taken, TakenOfAdvertisement, TakenOfMessage, IsTakenInPart, as_placed, ignoring, options_taken, passed_over}
use Rattle.nd_chronicle.proofs.Parts.{slla_stays}
use Rattle.nd_chronicle.proofs.Reading.{no_slla_placed, no_tlla_placed}
use Rattle.nd_existence.proofs.Tables.{nodes_of, nodes_stand, addresses_of, addresses_stand}
use Rattle.nd_existence.proofs.Listings.{listed}
use Rattle.nd_steps.proofs.Failing.{with_failed}
use Rattle.nd_existence.proofs.Placing.{gives_way, unless_full, place_told, second_told, place_made, packet_goes, goes_if_placed, wanted_if_placed, second_placed, way_told}
use Rattle.nd_existence.proofs.Walking.{losing_keeps}
use Rattle.nd_existence.proofs.Hopping.{hop_of, frame_heard}

-- a neighbour whose address was just given is there
given_not_full : (limit now key at mac : ℕ) (mark : Option Bool) (h : List Row) → WouldBeFull limit now key ((at, key, neighbours.Given mac mark) ∷ h) → ⊥
given_not_full limit now key at mac mark h full =
    true≢false (sym (ap is_present (cond-true (eqb key key) ((at, neighbours.Given mac mark) ∷ story key h) (story key h) (eq-eqb key key refl))) ∙ full.absent)

-- packets that are released are no rows of the neighbours, nor is what is reported to a caller
sending_rows : (at mac : ℕ) (packets : List (List ℕ)) (c : Chronicle) → neighbour_history (sending at mac packets c) ≡ neighbour_history c
sending_rows at mac [] c = refl
sending_rows at mac (packet ∷ packets) c = sending_rows at mac packets _

known_rows : (at : ℕ) (mac : Option ℕ) (packets : List (List ℕ)) (c : Chronicle) → neighbour_history (sending_if_known at mac packets c) ≡ neighbour_history c
known_rows at None packets c = refl
known_rows at (Some mac) packets c = sending_rows at mac packets c

told_rows : (at key : ℕ) (mac : Option ℕ) (awaited : Bool) (c : Chronicle) → neighbour_history (telling_if_known at key mac awaited c) ≡ neighbour_history c
told_rows at key None awaited c = refl
told_rows at key (Some mac) true c = refl
told_rows at key (Some mac) false c = refl

releasing_rows : (at : ℕ) (news : Option (ℕ × RowKind)) (h : List Row) (c : Chronicle) → neighbour_history (releasing at news h c) ≡ neighbour_history c
releasing_rows at None h c = refl
releasing_rows at (Some news) h c =
    told_rows at news.0 (mac_of ((at, news.1) ∷ story news.0 h)) (is_awaited (story news.0 h)) _
    ∙ known_rows at (mac_of ((at, news.1) ∷ story news.0 h)) (released_by at news.1 (story news.0 h)) c

-- the failure of one that gave way is a row of the neighbours
failing_rows : (at : ℕ) (gone : Option ℕ) (h : List Row) (c : Chronicle) → neighbour_history (failing_for at gone h c) ≡ with_failed at gone (neighbour_history c)
failing_rows at None h c = refl
failing_rows at (Some key) h c =
    sym (losing_keeps at (λ d. (at, key, neighbours.Forgot neighbours.Failed) ∷ neighbour_history c ≡ neighbour_history d) (λ why lost d e. e) Unreachable
    (waits_of (story key h)) ((at, Neighbour key (neighbours.Forgot neighbours.Failed)) ∷ c) refl)

-- and it isn't the one whose address was given
given_not_full_behind : (limit now key gone at mac : ℕ) (mark : Option Bool) (h : List Row) → (key ≡ gone → ⊥)
    → WouldBeFull limit now key ((at, gone, neighbours.Forgot neighbours.Failed) ∷ (at, key, neighbours.Given mac mark) ∷ h) → ⊥
given_not_full_behind limit now key gone at mac mark h other full = by (gone == key) refl full.absent
  where
    by : (b : Bool) → gone == key ≡ b → is_present (if b then [] else story key ((at, key, neighbours.Given mac mark) ∷ h)) ≡ false → ⊥
    by true same absent = other (sym (eqb-true gone key same))
    by false same absent =
        true≢false (sym (ap is_present (cond-true (eqb key key) ((at, neighbours.Given mac mark) ∷ story key h) (story key h) (eq-eqb key key refl))) ∙ absent)

module _ (start : Start) (c : Chronicle) (now : ℕ) where
  -- ---- room for a neighbour, for which another one may give way

  -- by what is said of it
  abbrev PlacedFor : Option (ℕ × RowKind) → Option (ℕ × Bool) → Bool → Type 0
  PlacedFor news need place = Placed start c now (makes_way start news) need place

  placed : (way : Bool) (need : Option (ℕ × Bool)) → (place : Bool) × Placed start c now way need place
  placed way None = (true, refl)
  placed true (Some need) = way_told start c now need.0 need.1
  placed false (Some need) = place_told start c now need.0 need.1

  -- none has to give way where there is room without
  none_needed : (key : ℕ) (enters way : Bool) (P : Type 0) → MatchBool way (GivesWay start.limits.neighbours now key (neighbour_history c) None) P → Placed start c now way (Some (key, enters)) true
      → enters ≡ true → WouldBeFull start.limits.neighbours now key (neighbour_history c) → ⊥
  none_needed key enters true P gives has enter full = has enter (record { full = full; none_incomplete = gives full })
  none_needed key enters false P gives has enter full = has enter full

  room_by : (news : ℕ × RowKind) (gone : Option ℕ) → WayFor start c now (Some news) gone → PlacedFor (Some news) (entering (Some news)) true
      → (gone' : Option ℕ) × (d : Chronicle) × RoomFor start c now (Some news) gone' d
  room_by news None way has =
      let f = place_made start c now news.0 (lets_enter news.1) (none_needed news.0 (lets_enter news.1) (makes_way start (Some news)) _ way has) in
      (None, f.0, record { way = way; place = f.1 })
  room_by news (Some gone) way has = (Some gone, with_pushed now (Some gone) c, record { way = way; place = refl })

  way_for : (key : ℕ) (way : Bool) → (gone : Option ℕ) × MatchBool way (GivesWay start.limits.neighbours now key (neighbour_history c) gone) (gone ≡ None)
  way_for key true = gives_way start.limits.neighbours now key (neighbour_history c)
  way_for key false = (None, refl)

  room_for : (news : Option (ℕ × RowKind)) → PlacedFor news (entering news) true → (gone : Option ℕ) × (d : Chronicle) × RoomFor start c now news gone d
  room_for None has = (None, c, record { way = refl; place = refl })
  room_for (Some news) has = let w = way_for news.0 (makes_way start (Some news)) in room_by news w.0 w.1 has

  -- an answer is a use, unless it is sent alone
  replied_by : (key : ℕ) (packet : List ℕ) (e : Chronicle) (alone : Option ℕ) → (WouldBeFull start.limits.neighbours now key (neighbour_history e) → ⊥)
      → (d : Chronicle) × MatchOption alone (Goes start e now key packet d) (λ mac. d ≡ (now, Sent (addressed (mac_at mac) packet)) ∷ e)
  replied_by key packet e None never = packet_goes start e now key packet never
  replied_by key packet e (Some mac) never = ((now, Sent (addressed (mac_at mac) packet)) ∷ e, refl)

  replied : (key : ℕ) (packet : List ℕ) (e : Chronicle) → (WouldBeFull start.limits.neighbours now key (neighbour_history e) → ⊥) → (d : Chronicle) × asked.Replies start now key packet e d
  replied key packet e never = replied_by key packet e (asked.sent_alone_to start now key e) never

  -- ---- what there is in each table

  routers_now : (es : List (Lasting ℕ)) × Lists same (announcements (router_history c)) now es
  routers_now = listed same eqb_tells (announcements (router_history c)) now

  prefixes_now : (es : List (Lasting PrefixValue)) × Lists same_prefix (prefix_history c) now es
  prefixes_now = listed same_prefix prefixes_tell (prefix_history c) now

  addresses_now : (known : List Address) × Stands known (address_history c)
  addresses_now = (addresses_of (address_history c), addresses_stand (address_history c))

  servers_now : (es : List (Lasting Addr)) × Lists same_addr (server_history c) now es
  servers_now = listed same_addr addrs_tell (server_history c) now

  names_now : (es : List (Lasting (List ℕ))) × Lists same_name (name_history c) now es
  names_now = listed same_name bytes_tell (name_history c) now

  -- ---- a message is heard

  abbrev message : List Said → Body → Parts
  message options body = record { body = body; options = options }

  module _ (source destination : Addr) (options : List Said) where
    -- behind the room for a neighbour of which an advertisement speaks, for which none gives way
    behind : (na : NeighborAdvertisement) (then' : Chronicle → Chronicle)
        → (d : Chronicle) × ((made : Chronicle) × PlaceFor start c now (said c source (message options (bodies.Na na))) made × (d ≡ then' made))
    behind na then' = let f = place_made start c now (number_of na.target.0) false (λ e. absurd (true≢false (sym e))) in (then' f.0, (f.0, f.1, refl))

    -- and behind the failure of one that gives way
    behind_room : (body : Body) (then' : Option ℕ → Chronicle → Chronicle) → PlacedFor (said c source (message options body)) (entering (said c source (message options body))) true
        → (d : Chronicle) × ((gone : Option ℕ) × (made : Chronicle) × RoomFor start c now (said c source (message options body)) gone made × (d ≡ then' gone made))
    behind_room body then' p = let f = room_for (said c source (message options body)) p in (then' f.0 f.1, (f.0, f.1, f.2, refl))

    -- ---- a Neighbor Solicitation

    module _ (target : Addr) where
      abbrev solicitation : Parts
      solicitation = message options (bodies.Ns (record { target = target }))

      abbrev heard_over : Chronicle → Chronicle
      heard_over made = (now, Heard source destination solicitation) ∷ made

      abbrev heard_behind : Option (ℕ × RowKind) → Option ℕ → Chronicle → Chronicle
      heard_behind news gone made = releasing now news (neighbour_history made) (failing_for now gone (neighbour_history c) (heard_over made))

      abbrev FollowsBy : Option (ℕ × RowKind) → Chronicle → Type 0
      FollowsBy news d = (gone : Option ℕ) × (made : Chronicle) × RoomFor start c now news gone made
          × asked.Replies start now (number_of source.0) (answer_frame (is_router start.role) start.mac target source) (heard_behind news gone made) d

      heard_rows : (made : Chronicle) (news : Option (ℕ × RowKind)) → said c source solicitation ≡ news → neighbour_history (heard_over made) ≡ then_neighbour now news (neighbour_history made)
      heard_rows made news e = ap (λ o. then_neighbour now o (neighbour_history made)) e

      -- what the neighbours are behind it
      rows_behind : (news : Option (ℕ × RowKind)) (gone : Option ℕ) (made : Chronicle) → said c source solicitation ≡ news
          → neighbour_history (heard_behind news gone made) ≡ with_failed now gone (then_neighbour now news (neighbour_history made))
      rows_behind news gone made e =
          releasing_rows now news (neighbour_history made) (failing_for now gone (neighbour_history c) (heard_over made))
          ∙ failing_rows now gone (neighbour_history c) (heard_over made)
          ∙ ap (λ (h : List Row). with_failed now gone h) (heard_rows made news e)

      -- the asker whose address is given is there
      asker_stays : (mac : ℕ) (gone : Option ℕ) (h : List Row) → WayFor start c now (Some (number_of source.0, neighbours.Given mac None)) gone
          → WouldBeFull start.limits.neighbours now (number_of source.0) (with_failed now gone ((now, number_of source.0, neighbours.Given mac None) ∷ h)) → ⊥
      asker_stays mac None h way full = given_not_full start.limits.neighbours now (number_of source.0) now mac None h full
      asker_stays mac (Some gone) h way full = by start.policies.speakers way
        where
          by : (b : Bool) → MatchBool b (GivesWay start.limits.neighbours now (number_of source.0) (neighbour_history c) (Some gone)) (Some gone ≡ None) → ⊥
          by true gives =
              given_not_full_behind start.limits.neighbours now (number_of source.0) gone now mac None h
              (λ same. true≢false (sym gives.1.incomplete.0 ∙ (sym (ap (λ k. is_present (story k (neighbour_history c))) same) ∙ gives.0.absent))) full
          by false none = let never : ⊥ = cc in never

      -- with the asker's link-layer address or without it
      answered_by : (mac : Option Mac) → said c source solicitation ≡ given_or_marked (number_of source.0) mac None
          → PlacedFor (given_or_marked (number_of source.0) mac None) (Some (number_of source.0, true)) true → (d : Chronicle) × FollowsBy (given_or_marked (number_of source.0) mac None) d
      answered_by None is has =
          let r = replied (number_of source.0) (answer_frame (is_router start.role) start.mac target source) (heard_behind None None c)
          (λ full. has refl (subst (λ (h : List Row). WouldBeFull start.limits.neighbours now (number_of source.0) h) (rows_behind None None c is) full)) in
          (r.0, (None, c, record { way = refl; place = refl }, r.1))
      answered_by (Some mac) is has =
          let news : Option (ℕ × RowKind) = Some (number_of source.0, neighbours.Given (number_of mac.0) None) in
          let f = room_for news has in
          let r = replied (number_of source.0) (answer_frame (is_router start.role) start.mac target source) (heard_behind news f.0 f.1)
          (λ full. asker_stays (number_of mac.0) f.0 (neighbour_history f.1) f.2.way
          (subst (λ (h : List Row). WouldBeFull start.limits.neighbours now (number_of source.0) h) (rows_behind news f.0 f.1 is) full)) in
          (r.0, (f.0, f.1, f.2, r.1))

      solicited : (t : Bool) → bytes_eq source.0 unspecified_address ≡ t → PlacedFor (said c source solicitation) (asking source) true
          → (d : Chronicle) × MatchBool t (d ≡ then_tried start now target (heard_over c)) (asked.Answers start now source destination target solicitation c d)
      solicited true is p = (then_tried start now target (heard_over c), refl)
      solicited false is p =
          let news : said c source solicitation ≡ given_or_marked (number_of source.0) (first_slla options) None =
          cond-false (bytes_eq source.0 unspecified_address) None (given_or_marked (number_of source.0) (first_slla options) None) is in
          let has = subst (λ (b : Bool). PlacedFor (said c source solicitation) (cond b None (Some (number_of source.0, true))) true) is p in
          let a = answered_by (first_slla options) news (subst (λ (o : Option (ℕ × RowKind)). PlacedFor o (Some (number_of source.0, true)) true) news has) in
          let b = subst (λ o. FollowsBy o a.0) (sym news) a.1 in
          (a.0, record { gone = b.0; placed = b.1; room = b.2; answer = b.3 })

    -- ---- any message for whose neighbour there is room

    abbrev Adds : Body → Chronicle → Type 0
    Adds body d = MessageAdds start now source destination (message options body) body c d

    whole : (body : Body) → PlacedFor (said c source (message options body)) (needs c source (message options body) body) true → (d : Chronicle) × Adds body d
    whole (bodies.Ra ra) p = behind_room (bodies.Ra ra) (λ gone made. then_advertised start now source destination ra (message options (bodies.Ra ra)) true gone (neighbour_history c) made) p
    whole (bodies.Ns ns) p = solicited ns.target (bytes_eq source.0 unspecified_address) refl p
    whole (bodies.Na na) p = behind na (λ made. then_neighbor_advertised start now source destination na.target (message options (bodies.Na na)) made)
    whole (bodies.Redirect r) p =
        behind_room (bodies.Redirect r) (λ gone made. releasing now (said c source (message options (bodies.Redirect r))) (neighbour_history made)
        (failing_for now gone (neighbour_history c) ((now, Heard source destination (message options (bodies.Redirect r))) ∷ made))) p
    whole bodies.Rs p =
        behind_room bodies.Rs (λ gone made. planning start now (wants_answer start c) (releasing now (said c source (message options bodies.Rs)) (neighbour_history made)
        (failing_for now gone (neighbour_history c) ((now, Heard source destination (message options bodies.Rs)) ∷ made)))) p

  -- ---- what is taken of a message in part, by the policy `parts`

  -- a message that gives no link-layer address lets no neighbour enter
  marks : (key : ℕ) (mark : Option Bool) → PlacedFor (given_or_marked key None mark) (entering (given_or_marked key None mark)) true
  marks key None = refl
  marks key (Some router) = λ e. absurd (true≢false (sym e))

  abbrev ToldPlaced : Option (ℕ × RowKind) → Bool → Type 0
  ToldPlaced news place = PlacedFor news (entering news) place

  marks_source : (source : Addr) (mark : Option Bool) (t : Bool) → ToldPlaced (cond t None (given_or_marked (number_of source.0) None mark)) true
  marks_source source mark true = refl
  marks_source source mark false = marks (number_of source.0) mark

  module _ (source : Addr) (options : List Said) where
    enters_nobody : (body : Body) → ToldPlaced (said c source (message (as_placed false options) body)) true
    enters_nobody (bodies.Ra ra) =
        subst (λ (o : Option Mac). ToldPlaced (given_or_marked (number_of source.0) o (Some true)) true) (sym (no_slla_placed options)) (marks (number_of source.0) (Some true))
    enters_nobody (bodies.Ns ns) =
        subst (λ (o : Option Mac). ToldPlaced (said_of_source source o None) true) (sym (no_slla_placed options))
        (marks_source source None (bytes_eq source.0 unspecified_address))
    enters_nobody bodies.Rs =
        subst (λ (o : Option Mac). ToldPlaced (said_of_source source o (Some false)) true) (sym (no_slla_placed options))
        (marks_source source (Some false) (bytes_eq source.0 unspecified_address))
    enters_nobody (bodies.Na na) = λ e. absurd (true≢false (sym e))
    enters_nobody (bodies.Redirect r) =
        subst (λ (o : Option Mac). ToldPlaced (given_or_marked (number_of r.target.0) o (mark_of_target r)) true) (sym (no_tlla_placed options))
        (marks (number_of r.target.0) (mark_of_target r))

    -- so there is room for the neighbour of what is taken
    room_in_part : (body : Body) (place : Bool) → ToldPlaced (said c source (message options body)) place → ToldPlaced (said c source (message (as_placed place options) body)) true
    room_in_part body true p = p
    room_in_part body false p = enters_nobody body

  module _ (source destination : Addr) (options : List Said) where
    abbrev TakenInPart : Body → Chronicle → Type 0
    TakenInPart body d = InPart start now source destination (message options body) c d

    in_part_by : (body : Body) (taken : Taken) → IsTakenInPart start c now source (message options body) body taken
        → (told : Chronicle) × PartAdds start now source destination (message options body) taken body c told → (d : Chronicle) × TakenInPart body d
    in_part_by body taken is told = (ignoring now taken.ignored told.0, record { taken = taken; is_taken = is; told = told.0; adds = told.1; all = refl })

    -- of a message that only names a neighbour
    abbrev named : Body → Bool → Taken
    named body place = record { place = place; message = message (as_placed place options) body; listed = true; ignored = passed_over place Neighbours }

    is_named : (body : Body) (place : Bool) → PlacedFor (said c source (message options body)) (needs c source (message options body) body) place → TakenOfMessage start c now source (message options body) (named body place)
    is_named body place p = record {
      placed = p;
      message_is = refl;
      listed_is = refl;
      ignored_is = refl;
    }

    -- an asker that gets no entry
    answers : (ns : NeighborSolicitation) (place : Bool) → PlacedFor (said c source (message options (bodies.Ns ns))) (asking source) place
        → (d : Chronicle) × PartAdds start now source destination (message options (bodies.Ns ns)) (named (bodies.Ns ns) place) (bodies.Ns ns) c d
    answers ns true p = whole source destination options (bodies.Ns ns) p
    answers ns false p = (then_answered start now source destination ns.target (message options (bodies.Ns ns)) (message (as_placed false options) (bodies.Ns ns)) c, refl)

    -- of a Router Advertisement
    module _ (ra : RouterAdvertisement) where
      abbrev whole_one : Parts
      whole_one = message options (bodies.Ra ra)

      advertised_in_part : (d : Chronicle) × TakenInPart (bodies.Ra ra) d
      advertised_in_part =
          let p = placed (makes_way start (said c source whole_one)) (entering (said c source whole_one)) in
          let filling : Filling = record { prefixes = prefixes_now.0; addresses = map key_of addresses_now.0; servers = servers_now.0; names = names_now.0 } in
          let read = options_taken start.limits start.mac now filling options in
          let is_listed = fits same start.limits.routers now ((number_of source.0, ra.router_lifetime) ∷ []) routers_now.0 in
          let taken : Taken = record {
            place = p.0;
            message = message (as_placed p.0 read) (bodies.Ra ra);
            listed = is_listed;
            ignored = passed_over p.0 Neighbours ++ passed_over is_listed Routers
                ++ passed_over (fits same_prefix start.limits.prefixes now (prefixes_in options) prefixes_now.0) Prefixes
                ++ passed_over (fits_in start.limits.addresses start.mac (map key_of addresses_now.0) (own_prefixes.prefixes_in options)) Addresses
                ++ passed_over (fits same_addr start.limits.servers now (servers_told options) servers_now.0) Servers
                ++ passed_over (fits same_name start.limits.names now (names_told options) names_now.0) Names;
          } in
          let is : TakenOfAdvertisement start c now source ra whole_one taken = record {
            placed = p.1;
            routers = routers_now.0;
            those_routers = routers_now.1;
            listed_is = refl;
            prefixes = prefixes_now.0;
            those_prefixes = prefixes_now.1;
            known = addresses_now.0;
            those_addresses = addresses_now.1;
            servers = servers_now.0;
            those_servers = servers_now.1;
            names = names_now.0;
            those_names = names_now.1;
            message_is = refl;
            ignored_is = refl;
          } in
          -- the options that are taken give the same link-layer address
          let same_place : ToldPlaced (said c source (message read (bodies.Ra ra))) p.0 =
          subst (λ (o : Option Mac). ToldPlaced (given_or_marked (number_of source.0) o (Some true)) p.0)
          (sym (slla_stays start.limits start.mac now filling options)) p.1 in
          in_part_by (bodies.Ra ra) taken is
          (behind_room source destination (as_placed p.0 read) (bodies.Ra ra)
          (λ gone made. then_advertised start now source destination ra (message (as_placed p.0 read) (bodies.Ra ra)) is_listed gone (neighbour_history c) made)
          (room_in_part source read (bodies.Ra ra) p.0 same_place))

    in_part : (body : Body) → (d : Chronicle) × TakenInPart body d
    in_part (bodies.Ra ra) = advertised_in_part ra
    in_part (bodies.Ns ns) =
        let p = placed (makes_way start (said c source (message options (bodies.Ns ns)))) (asking source) in in_part_by (bodies.Ns ns) (named (bodies.Ns ns) p.0) (is_named (bodies.Ns ns) p.0 p.1) (answers ns p.0 p.1)
    in_part (bodies.Na na) =
        let p = placed (makes_way start (said c source (message options (bodies.Na na)))) (entering (said c source (message options (bodies.Na na)))) in
        in_part_by (bodies.Na na) (named (bodies.Na na) p.0) (is_named (bodies.Na na) p.0 p.1) (whole source destination (as_placed p.0 options) (bodies.Na na) (room_in_part source options (bodies.Na na) p.0 p.1))
    in_part bodies.Rs =
        let p = placed (makes_way start (said c source (message options bodies.Rs))) (entering (said c source (message options bodies.Rs))) in
        in_part_by bodies.Rs (named bodies.Rs p.0) (is_named bodies.Rs p.0 p.1) (whole source destination (as_placed p.0 options) bodies.Rs (room_in_part source options bodies.Rs p.0 p.1))
    in_part (bodies.Redirect r) =
        let p = placed (makes_way start (said c source (message options (bodies.Redirect r)))) (entering (said c source (message options (bodies.Redirect r)))) in
        in_part_by (bodies.Redirect r) (named (bodies.Redirect r) p.0) (is_named (bodies.Redirect r) p.0 p.1) (whole source destination (as_placed p.0 options) (bodies.Redirect r) (room_in_part source options (bodies.Redirect r) p.0 p.1))

    -- ---- any message, which may have no room

    abbrev Filled : Body → Chronicle → Type 0
    Filled body d = (full : Option Limit) × Fills start c now source (message options body) body full × HeardAdds start now full source destination (message options body) c d

    -- it is taken in part, or refused
    unless_whole : (body : Body) (limit : Limit) (parts : Bool) → (d : Chronicle) × MatchBool parts (TakenInPart body d) (d ≡ (now, Refused (Full limit)) ∷ c)
    unless_whole body limit true = in_part body
    unless_whole body limit false = ((now, Refused (Full limit)) ∷ c, refl)

    heard_adds : (body : Body) (full : Option Limit) → (full ≡ None → (d : Chronicle) × Adds source destination options body d)
        → (d : Chronicle) × HeardAdds start now full source destination (message options body) c d
    heard_adds body None f = f refl
    heard_adds body (Some limit) f = unless_whole body limit start.policies.parts

    -- where there is room for its neighbour
    placed_if_none : (place : Bool) (rest : Option Limit) (news : Option (ℕ × RowKind)) (need : Option (ℕ × Bool)) → PlacedFor news need place → cond place rest (Some Neighbours) ≡ None → PlacedFor news need true
    placed_if_none true rest news need p none = p
    placed_if_none false rest news need p none = absurd (let never : ⊥ = cc in never)

    filled : (body : Body) (full : Option Limit) (place : Bool) (rest : Option Limit) → full ≡ cond place rest (Some Neighbours)
        → PlacedFor (said c source (message options body)) (needs c source (message options body) body) place → Fills start c now source (message options body) body full → (d : Chronicle) × Filled body d
    filled body full place rest is p fills =
        let d = heard_adds body full (λ none. whole source destination options body (placed_if_none place rest (said c source (message options body)) (needs c source (message options body) body) p (sym is ∙ none))) in
        (d.0, (full, fills, d.1))

    -- a Router Advertisement
    advertised : (ra : RouterAdvertisement) → (d : Chronicle) × Filled (bodies.Ra ra) d
    advertised ra =
        let p = placed (makes_way start (said c source (message options (bodies.Ra ra)))) (entering (said c source (message options (bodies.Ra ra)))) in
        let forms = fits_in start.limits.addresses start.mac (map key_of addresses_now.0) (own_prefixes.prefixes_in options) in
        let full = first_full p.0
        (fits same start.limits.routers now ((number_of source.0, ra.router_lifetime) ∷ []) routers_now.0)
        (fits same_prefix start.limits.prefixes now (prefixes_in options) prefixes_now.0)
        forms
        (fits same_addr start.limits.servers now (servers_told options) servers_now.0)
        (fits same_name start.limits.names now (names_told options) names_now.0) in
        let all : AdvertisementFills start c now source ra (message options (bodies.Ra ra)) full = record {
          neighbours = p.0;
          placed = p.1;
          routers = routers_now.0;
          those_routers = routers_now.1;
          prefixes = prefixes_now.0;
          those_prefixes = prefixes_now.1;
          forms = forms;
          those_addresses = record { known = addresses_now.0; those = addresses_now.1; fit_is = refl };
          servers = servers_now.0;
          those_servers = servers_now.1;
          names = names_now.0;
          those_names = names_now.1;
          first = refl;
        } in
        filled (bodies.Ra ra) full p.0 _ refl p.1 all

    -- any other message
    naming : (body : Body) (place : Bool) → PlacedFor (said c source (message options body)) (needs c source (message options body) body) place → MessageFills start c now source (message options body) (no_place place)
    naming body place p = record { neighbours = place; placed = p; first = refl }

    message_adds : (body : Body) → (d : Chronicle) × Filled body d
    message_adds (bodies.Ra ra) = advertised ra
    message_adds (bodies.Ns ns) = let p = placed (makes_way start (said c source (message options (bodies.Ns ns)))) (asking source) in filled (bodies.Ns ns) (no_place p.0) p.0 None refl p.1 (naming (bodies.Ns ns) p.0 p.1)
    message_adds (bodies.Na na) =
        let p = placed (makes_way start (said c source (message options (bodies.Na na)))) (entering (said c source (message options (bodies.Na na)))) in filled (bodies.Na na) (no_place p.0) p.0 None refl p.1 (naming (bodies.Na na) p.0 p.1)
    message_adds (bodies.Redirect r) =
        let p = placed (makes_way start (said c source (message options (bodies.Redirect r)))) (entering (said c source (message options (bodies.Redirect r)))) in filled (bodies.Redirect r) (no_place p.0) p.0 None refl p.1 (naming (bodies.Redirect r) p.0 p.1)
    message_adds bodies.Rs =
        let p = placed (makes_way start (said c source (message options bodies.Rs))) (entering (said c source (message options bodies.Rs))) in filled bodies.Rs (no_place p.0) p.0 None refl p.1 (naming bodies.Rs p.0 p.1)

  -- ---- a packet in transit

  module _ (packet : PacketParts) (bytes : List ℕ) (key : ℕ) (target : Addr) where
    both_go : (place : Bool) → HavePlace start c now (number_of packet.header.source.0) key place → (d : Chronicle) × SendsOn start now (Some target) packet bytes key c d
    both_go true room =
        let from = (now, RedirectMade) ∷ c in
        let told = packet_goes start from now (number_of packet.header.source.0) (better_hop_frame start now target packet bytes c) room.first in
        let behind_it = packet_goes start told.0 now key (frame_sent_on start now packet)
        (second_placed start from now (number_of packet.header.source.0) key (better_hop_frame start now target packet bytes c) told.0 room told.1) in
        (behind_it.0, (true, room, record { told = told.0; redirect = told.1; behind = behind_it.1 }))
    both_go false lacks = ((now, Refused (Full Neighbours)) ∷ c, (false, lacks, refl))

  sends_on : (target : Option Addr) (packet : PacketParts) (bytes : List ℕ) (key : ℕ) → (d : Chronicle) × SendsOn start now target packet bytes key c d
  sends_on None packet bytes key = goes_if_placed start c now key (frame_sent_on start now packet)
  sends_on (Some target) packet bytes key =
      let p = second_told start c now (number_of packet.header.source.0) key in both_go packet bytes key target p.0 p.1

  fate_adds : (f : Fate) (packet : PacketParts) (bytes : List ℕ) → (d : Chronicle) × FateAdds start now f packet bytes c d
  fate_adds lost_no_route packet bytes = ((now, Lost NoRoute (frame_as_it_came start now packet)) ∷ c, refl)
  fate_adds lost_hop_limit packet bytes = ((now, Lost HopLimit (frame_as_it_came start now packet)) ∷ c, refl)
  fate_adds (sent next) packet bytes = sends_on (redirect_to start now packet c) packet bytes (hop_key next packet.header.destination)

  -- ---- a frame

  verdict_adds : (frame : List ℕ) (verdict : Verdict) → (d : Chronicle) × VerdictAdds start now frame verdict c d
  verdict_adds frame (drops why) = ((now, Dropped why) ∷ c, refl)
  verdict_adds frame (goes_up packet) = ((now, Up (packet_bytes frame)) ∷ c, refl)
  verdict_adds frame (goes_on packet) = fate_adds (fate (is_own c) (routes (route_history c)) packet.header) packet (packet_bytes frame)
  verdict_adds frame (hears source destination message) = message_adds source destination message.options message.body

  frame_adds : (frame : List ℕ) → (d : Chronicle) × FrameAdds start now frame c d
  frame_adds frame =
      let v = frame_heard start c now frame in
      let d = verdict_adds frame v.0 in
      (d.0, record { verdict = v.0; heard = v.1; adds = d.1 })

  -- ---- a packet is to be sent

  unless_refused : (why : Option Refusal) (A : Chronicle → Type 0) → (d : Chronicle) × A d → (d : Chronicle) × UnlessRefused now why A c d
  unless_refused None A d = d
  unless_refused (Some refusal) A d = ((now, Refused refusal) ∷ c, refl)

  module _ (packet : PacketParts) where
    direct_adds : (t : Bool) → (d : Chronicle) × MatchBool t (d ≡ (now, Sent (frame_with start now packet (multicast_mac packet.header.destination))) ∷ c)
        (GoesIfPlaced start now (number_of packet.header.destination.0) (frame_with start now packet open_mac) c d)
    direct_adds true = (_, refl)
    direct_adds false = goes_if_placed start c now (number_of packet.header.destination.0) (frame_with start now packet open_mac)

    packet_adds : (next : NextHop) → (d : Chronicle) × PacketAdds start now next packet c d
    packet_adds no_route = (_, refl)
    packet_adds direct = direct_adds (holds multicast_prefix packet.header.destination.0)
    packet_adds (via key) = goes_if_placed start c now key (frame_with start now packet open_mac)

    hop_adds : (d : Chronicle) × HopAdds start now packet c d
    hop_adds =
        let next = hop_of start start.role c now packet.header.destination in
        let d = packet_adds next.0 in
        (d.0, (next.0, next.1, d.1))

  send_adds : (source destination : Addr) (next_header : ℕ) (payload : List ℕ) → (d : Chronicle) × SendAdds start now source destination next_header payload c d
  send_adds source destination next_header payload =
      let packet = packet_sent start now source destination next_header payload c in
      unless_refused (refusal_of_packet start now source payload c) (HopAdds start now packet c) (hop_adds packet)

  carry_adds : (packet : PacketParts) → (d : Chronicle) × CarryAdds start now packet c d
  carry_adds packet = unless_refused (refusal_of_carried start now packet c) (HopAdds start now packet c) (hop_adds packet)

  -- ---- a caller asks where packets go

  module _ (destination : Addr) where
    direct_path_adds : (t : Bool) → (d : Chronicle) × MatchBool t
        (d ≡ (now, Path destination (WayTo (number_of destination.0) (Some (number_of (multicast_mac destination).0)))) ∷ c)
        (WantsIfPlaced start now destination (number_of destination.0) c d)
    direct_path_adds true = (_, refl)
    direct_path_adds false = wanted_if_placed start c now (number_of destination.0) destination

    path_adds : (next : NextHop) → (d : Chronicle) × PathAdds start now next destination c d
    path_adds no_route = (_, refl)
    path_adds direct = direct_path_adds (holds multicast_prefix destination.0)
    path_adds (via key) = wanted_if_placed start c now key destination

    resolve_adds : (d : Chronicle) × ResolveAdds start now destination c d
    resolve_adds =
        let next = hop_of start start.role c now destination in
        let d = path_adds next.0 in
        unless_refused (refusal_unless_up start c)
        (λ e. (next : NextHop) × IsHopOf start start.role c now destination next × PathAdds start now next destination c e)
        (d.0, (next.0, next.1, d.1))

  -- ---- an address is given by hand

  -- there is room for one more, or there isn't
  room_told : (room : Bool) × HasRoomBy start.limits.addresses (address_history c) room
  room_told = (nat_lt (length addresses_now.0) start.limits.addresses, record { known = addresses_now.0; those = addresses_now.1; room_is = refl })

  forms_by_hand : (key : ℕ) (lifetimes : Lifetimes) → (d : Chronicle) × FormsByHand start now key lifetimes c d
  forms_by_hand key lifetimes =
      let formed = setting start now key lifetimes (forming start now false key lifetimes c) in
      let room = room_told in
      let d = unless_full now (no_room room.0) (λ e. e ≡ formed) c (λ none. (formed, refl)) in
      (d.0, (room.0, room.1, d.1))

  address_adds : (own known : Bool) (key : ℕ) (lifetimes : Lifetimes)
      → (d : Chronicle) × MatchBool own (d ≡ c) (MatchBool known (d ≡ setting start now key lifetimes c) (FormsByHand start now key lifetimes c d))
  address_adds true known key lifetimes = (c, refl)
  address_adds false true key lifetimes = (setting start now key lifetimes c, refl)
  address_adds false false key lifetimes = forms_by_hand key lifetimes

  set_adds : (own : AddressByHand) → (d : Chronicle) × SetAdds start now own c d
  set_adds own =
      let key = number_of own.address.0 in
      unless_refused (refusal_unless_up start c) (λ e. AddressAdds start now key own.lifetimes c e)
      (address_adds (key == link_local_key start) (is_known (story_of c key)) key own.lifetimes)

  -- ---- commands

  clear_adds : (table : Clearable) → (d : Chronicle) × ClearAdds start now table c d
  clear_adds events.ClearNeighbours = (clearing start now (nodes_of (neighbour_history c)) c, (nodes_of (neighbour_history c), nodes_stand (neighbour_history c), refl))
  clear_adds events.ClearRouters = ((now, ClearedRedirects) ∷ all_leaving start now routers_now.0 c, (routers_now.0, routers_now.1, refl))
  clear_adds events.ClearPrefixes = ((now, ClearedPrefixes) ∷ c, refl)
  clear_adds events.ClearRedirects = ((now, ClearedRedirects) ∷ c, refl)
  clear_adds events.ClearDns = ((now, ClearedDns) ∷ c, refl)

  -- each table has rows to be shown
  pub rows_of : (table : Table) → (rows : List (List ℕ)) × AreRows start c now table rows
  rows_of tables.NeighbourTable =
      let nodes = nodes_of (neighbour_history c) in
      let seen = map (shown_neighbours.seen now) nodes in
      (map neighbour_row seen, (seen, forgetting_proofs.lists_all now nodes (neighbour_history c) seen refl (nodes_stand (neighbour_history c)), refl))
  rows_of tables.RouterTable =
      let seen = map (shown_routers.seen now (λ key. preference_of key (router_history c))) routers_now.0 in
      (map router_row seen, (seen, (routers_now.0, routers_now.1, refl), refl))
  rows_of tables.PrefixTable =
      let seen = map (shown_lifetimes.seen now) prefixes_now.0 in
      (map prefix_row seen, (seen, (prefixes_now.0, prefixes_now.1, refl), refl))
  rows_of tables.AddressTable =
      let seen = map (shown_addresses.seen now) addresses_now.0 in
      (map address_row seen, (seen, showing.lists_all now addresses_now.0 (address_history c) seen refl addresses_now.1, refl))
  rows_of tables.DnsTable =
      let seen = map (shown_lifetimes.seen now) servers_now.0 in
      let shown_names = map (shown_lifetimes.seen now) names_now.0 in
      (map server_row seen ++ map search_row shown_names, (seen, (servers_now.0, servers_now.1, refl), shown_names, (names_now.0, names_now.1, refl), refl))
  rows_of tables.RedirectTable = (_, refl)
  rows_of tables.ParameterTable = (_, refl)
  rows_of tables.AdvertiseTable = (_, refl)
  rows_of tables.RouteTable = (_, refl)

  at_router : (role : Role) (A : Chronicle → Type 0) → (d : Chronicle) × A d → (d : Chronicle) × AtRouter now role A c d
  at_router Host A d = ((now, Refused WrongRole) ∷ c, refl)
  at_router Router A d = d

  -- ---- the event

  pub event_adds : (event : Event) → (d : Chronicle) × EventAdds start now event c d
  event_adds events.Passes = (c, refl)
  event_adds (events.Receives frame) = frame_adds frame
  event_adds (events.Sends source destination next_header payload) = send_adds source destination next_header payload
  event_adds (events.Carries packet) = carry_adds packet
  event_adds (events.Resolves destination) = resolve_adds destination
  event_adds (events.Confirms neighbour) = ((now, Neighbour (number_of neighbour.0) (neighbours.Confirmed (reachable_time c))) ∷ c, refl)
  event_adds (events.Forgets neighbour) = (forgetting start now (number_of neighbour.0) c, refl)
  event_adds (events.Clears table) = clear_adds table
  event_adds (events.Shows table) = let rows = rows_of table in ((now, Shown rows.0) ∷ c, (rows.0, rows.1, refl))
  event_adds (events.Advertises settings) = at_router start.role (λ e. e ≡ (now, Configured settings) ∷ c) ((now, Configured settings) ∷ c, refl)
  event_adds (events.Offers info) =
      at_router start.role (λ e. UnlessFull now (full_of_offers start info.prefix c) (λ x. x ≡ (now, Offered info) ∷ c) c e)
      (unless_full now (full_of_offers start info.prefix c) (λ x. x ≡ (now, Offered info) ∷ c) c (λ none. ((now, Offered info) ∷ c, refl)))
  event_adds (events.Routes prefix route) =
      at_router start.role (λ e. UnlessFull now (full_of_routes start prefix c) (λ x. x ≡ (now, RoutePut prefix route) ∷ c) c e)
      (unless_full now (full_of_routes start prefix c) (λ x. x ≡ (now, RoutePut prefix route) ∷ c) c (λ none. ((now, RoutePut prefix route) ∷ c, refl)))
  event_adds events.Stops = at_router start.role (λ e. e ≡ ceasing start now c) (ceasing start now c, refl)
  event_adds (events.Sets own) = set_adds own
  event_adds (events.Withdraws address) = (withdrawing start now (number_of address.0) c, refl)
