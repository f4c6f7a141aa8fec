-- What each row keeps that an event adds, the event keeps: every function of the definitions that adds rows is walked here, once.
use Rattle.std.proofs.Common.{◌≡◌, ℕ, Bool, true, false, cond, List, [], ◌∷◌, Option, Some, None, refl, sym, ◌∙◌, ap, subst}
use Rattle.std.proofs.lemmas.Bool.{true≢false}
use Rattle.std.proofs.lemmas.Slice.Eq.{bytes_eq-Decides}
use Rattle.std.specs.Prelude.{MatchBool, MatchOption, bytes_eq, ◌==◌, ◌&&◌, not, if◌then◌else◌}
use Rattle.std.specs.Option.{option_map, option_to_list}
use Rattle.nd_addr.specs.declared.addr.Addr.{Addr}
use Rattle.nd_addr.specs.declared.mac.Mac.{Mac}
use Rattle.nd_addr.specs.Kind.{multicast_prefix, unspecified_address}
use Rattle.nd_addr.specs.Ip6.{PacketParts}
use Rattle.nd_addr.specs.Frame.{addressed}
use Rattle.nd_addr.specs.Number.{mac_at, number_of, holds}
use Rattle.nd_addr.specs.declared.role.Role.{Role}
use Rattle.nd_addr.specs.declared.role.Role.TheVariants.{Host, Router}
use Rattle.nd_advertiser.specs.Advertising.{tells_its_end}
use Rattle.nd_advertiser.specs.Config.{Settings}
use Rattle.nd_advertiser.specs.Contents.{last_contents_of}
use Rattle.nd_forwarding.specs.Forward.{Fate, lost_no_route, lost_hop_limit, sent, fate}
use Rattle.nd_forwarding.specs.Routes.{routes}
use Rattle.nd_decode.specs.Message.{Parts}
use Rattle.nd_decode.specs.declared.body.Body.{Body}
use Rattle.nd_decode.specs.declared.neighbor_solicitation.NeighborSolicitation.{NeighborSolicitation}
use Rattle.nd_decode.specs.declared.body.Body.TheVariants as bodies
use Rattle.nd_decode.specs.declared.prefix_info.PrefixInfo.{PrefixInfo}
use Rattle.nd_decode.specs.declared.router_advertisement.RouterAdvertisement.{RouterAdvertisement}
use Rattle.nd_table.specs.declared.lasting.Lasting.{Lasting}
use Rattle.nd_params.specs.Params.{redraws}
use Rattle.nd_neighbour.specs.Due as neighbours_due
use Rattle.nd_neighbour.specs.EntryKept.{NeighbourEntry, waiting_in}
use Rattle.nd_neighbour.specs.History as neighbours
use Rattle.nd_neighbour.specs.History.{RowKind, story}
use Rattle.nd_neighbour.specs.News.{released_by}
use Rattle.nd_neighbour.specs.Sending.{Sending, Sends, Queues}
use Rattle.nd_neighbour.specs.Story.{is_awaited, mac_of, waits_of}
use Rattle.nd_neighbour.specs.Wanting.{Wanting, IsKnown, Awaits}
use Rattle.nd_nexthop.specs.NextHop.{NextHop, direct, via, no_route}
use Rattle.nd_slaac.specs.History as addresses
use Rattle.nd_slaac.specs.History.{Lifetimes, Story}
use Rattle.nd_slaac.specs.PrefixOption.{is_taken, prefixes_in, named_by, lifetimes_of}
use Rattle.nd_slaac.specs.State as states
use Rattle.nd_chronicle.specs.Start.{Start, link_local_key}
use Rattle.nd_chronicle.specs.Happening.{Chronicle, Happening, Address, Heard, Unlisted, Neighbour, Sent, Path, Refused, Ignored, Limit, Configured, Ceased, RedirectMade, Way, Forgotten, Loss, Unreachable, Refusal, WrongRole, Disabled, Tentative, Full}
use Rattle.nd_chronicle.specs.Histories.{neighbour_history, advertising_history, route_history}
use Rattle.nd_chronicle.specs.InForce.{base_reachable_time, retrans_timer}
use Rattle.nd_chronicle.specs.OwnAddress.{story_of, is_assigned, is_disabled, is_own, is_tentative, is_up, refusal_unless_up}
use Rattle.nd_chronicle.specs.Packet.{losing, sending, with_pushed, MakesPlace, then_packet, Goes, GoesIfPlaced}
use Rattle.nd_chronicle.specs.Refused.{UnlessRefused, AtRouter}
use Rattle.nd_chronicle.specs.Hearing.{Verdict, hears, goes_up, goes_on, drops, conflicts_with}
use Rattle.nd_chronicle.specs.Advertising.{advertising_by, planning, telling_end, wants_answer, full_of_offers, full_of_routes}
use Rattle.nd_chronicle.specs.Forwarding.{Redirects, SendsOn, FateAdds, redirect_to}
use Rattle.nd_chronicle.specs.Message.{said, makes_way, PlaceFor, RoomFor, failing_for, sending_if_known, telling_if_known, releasing, leaving}
use Rattle.nd_chronicle.specs.RouterAdvertisement.{heard_from, redrawing, with_delay, forming, naming, then_option, then_options, times_out, then_advertised}
use Rattle.nd_chronicle.specs.Full.{needs, Placed}
use Rattle.nd_chronicle.specs.LinkLayerAddress.{first_slla}
use Rattle.nd_chronicle.specs.Parts.{Taken, IsTakenInPart, ignoring}
use Rattle.nd_chronicle.specs.NeighborSolicitation as asked
use Rattle.nd_chronicle.specs.NeighborSolicitation.{then_tried}
use Rattle.nd_chronicle.specs.NeighborAdvertisement.{conflicting, ends_in_list}
use Rattle.nd_chronicle.specs.ByHand.{FormsByHand, no_room, setting}
use Rattle.nd_chronicle.specs.Resolve.{PathAdds, ResolveAdds, Wants, WantsIfPlaced, then_wanted, wanting_of}
use Rattle.nd_chronicle.specs.Event as events
use Rattle.nd_chronicle.specs.Event.{Event, Clearable, packet_bytes, HeardAdds, InPart, MessageAdds, PartAdds, VerdictAdds, PacketAdds, HopAdds, SendAdds, packet_sent, refusal_of_packet, CarryAdds, refusal_of_carried, ClearAdds, clearing, all_leaving, EventAdds}
use Rattle.nd_chronicle.specs.Due.{then_neighbour}

-- it is no row of one of the node's addresses, no message that was heard, no refusal and no settings of a router
abbrev pub is_plain : Happening → Bool
is_plain (Heard source destination message) = false
is_plain (Address key kind) = false
is_plain (Refused refusal) = false
is_plain (Configured settings) = false
is_plain _ = true

-- no address that is tentative has a conflict with the message
abbrev pub Rivalless : Chronicle → Addr → Body → Type 0
Rivalless c source body = (address : List ℕ) → is_tentative c address ≡ true → conflicts_with address source body ≡ false

-- the message has a conflict with no address but this one
abbrev pub Targets : Addr → Body → Addr → Type 0
Targets source body target = (address : List ℕ) → conflicts_with address source body ≡ true → target.0 ≡ address

bytes_eq_true : (a b : List ℕ) → bytes_eq a b ≡ true → a ≡ b
bytes_eq_true a b e = (bytes_eq-Decides a b).0 e

both_false : (a b : Bool) → b ≡ false → (a && b) ≡ false
both_false true b e = e
both_false false b e = refl

first_of : (a b : Bool) → (a && b) ≡ true → a ≡ true
first_of true b e = refl
first_of false b e = e

pub not_both : (known conflict assigned : Bool) → (known && not conflict && assigned) ≡ true → (known && not conflict && not assigned) ≡ true → ⊥
not_both false conflict assigned a t = let no : ⊥ = cc in no
not_both true true assigned a t = let no : ⊥ = cc in no
not_both true false true a t = let no : ⊥ = cc in no
not_both true false false a t = let no : ⊥ = cc in no

-- an address that is assigned isn't tentative
pub assigned_or_tentative : (s : Story) → states.is_assigned s ≡ true → states.is_tentative s ≡ true → ⊥
assigned_or_tentative s a t = not_both (states.is_known s) (states.has_conflict s) (states.was_assigned s) a t

pub false_unless : (b : Bool) → (b ≡ true → ⊥) → b ≡ false
false_unless true never = absurd (never refl)
false_unless false never = refl

module _ (start : Start) (at : ℕ) (Kept : Chronicle → Type 0) (plain : (what : Happening) (c : Chronicle) → is_plain what ≡ true → Kept c → Kept ((at, what) ∷ c)) where
  losing_keeps : (why : Loss) (packets : List (List ℕ)) (c : Chronicle) → Kept c → Kept (losing at why packets c)
  losing_keeps why [] c k = k
  losing_keeps why (packet ∷ packets) c k = losing_keeps why packets _ (plain _ c refl k)

  sending_keeps : (mac : ℕ) (packets : List (List ℕ)) (c : Chronicle) → Kept c → Kept (sending at mac packets c)
  sending_keeps mac [] c k = k
  sending_keeps mac (packet ∷ packets) c k = sending_keeps mac packets _ (plain _ c refl k)

  pushed_keeps : (pushed : Option ℕ) (c : Chronicle) → Kept c → Kept (with_pushed at pushed c)
  pushed_keeps None c k = k
  pushed_keeps (Some key) c k = plain _ c refl k

  known_keeps : (mac : Option ℕ) (packets : List (List ℕ)) (c : Chronicle) → Kept c → Kept (sending_if_known at mac packets c)
  known_keeps None packets c k = k
  known_keeps (Some mac) packets c k = sending_keeps mac packets c k

  told_keeps : (key : ℕ) (mac : Option ℕ) (awaited : Bool) (c : Chronicle) → Kept c → Kept (telling_if_known at key mac awaited c)
  told_keeps key None awaited c k = k
  told_keeps key (Some mac) true c k = plain _ c refl k
  told_keeps key (Some mac) false c k = k

  failing_keeps : (gone : Option ℕ) (history : List neighbours.Row) (c : Chronicle) → Kept c → Kept (failing_for at gone history c)
  failing_keeps None history c k = k
  failing_keeps (Some key) history c k = losing_keeps Unreachable (waits_of (story key history)) _ (plain _ c refl k)

  pub releasing_keeps : (news : Option (ℕ × RowKind)) (history : List neighbours.Row) (c : Chronicle) → Kept c → Kept (releasing at news history c)
  releasing_keeps None history c k = k
  releasing_keeps (Some news) history c k =
      told_keeps news.0 (mac_of ((at, news.1) ∷ story news.0 history)) (is_awaited (story news.0 history)) _
      (known_keeps (mac_of ((at, news.1) ∷ story news.0 history)) (released_by at news.1 (story news.0 history)) c k)

  pub leaving_keeps : (leaves : Bool) (key : ℕ) (c : Chronicle) → Kept c → Kept (leaving at leaves key c)
  leaving_keeps true key c k = plain _ c refl k
  leaving_keeps false key c k = k

  packet_keeps : (key retrans : ℕ) (packet : List ℕ) (s : Sending) (c : Chronicle) → Kept c → Kept (then_packet start at key retrans packet s c)
  packet_keeps key retrans packet (Sends mac frame) c k = plain _ _ refl (plain _ c refl k)
  packet_keeps key retrans packet (Queues true replaced) c k = plain _ _ refl (plain _ _ refl (plain _ c refl k))
  packet_keeps key retrans packet (Queues false replaced) c k = losing_keeps _ (option_to_list replaced) _ (plain _ c refl k)

  wanted_keeps : (key retrans : ℕ) (w : Wanting) (c : Chronicle) → Kept c → Kept (then_wanted start at key retrans w c)
  wanted_keeps key retrans (IsKnown mac) c k = plain _ c refl k
  wanted_keeps key retrans (Awaits true) c k = plain _ _ refl (plain _ _ refl (plain _ c refl k))
  wanted_keeps key retrans (Awaits false) c k = plain _ c refl k

  redrawing_keeps : (base : ℕ) (draws : Bool) (c : Chronicle) → Kept c → Kept (redrawing start at base draws c)
  redrawing_keeps base true c k = plain _ c refl k
  redrawing_keeps base false c k = k

  pub delay_keeps : (to_all : Bool) (c : Chronicle) → Kept c → Kept (with_delay start at to_all c)
  delay_keeps true c k = plain _ c refl k
  delay_keeps false c k = k

  pub neighbour_keeps : (falls : neighbours_due.Falls) (c : Chronicle) → Kept c → Kept (then_neighbour start at falls c)
  neighbour_keeps (neighbours_due.Multicasts key) c k = plain _ _ refl (plain _ c refl k)
  neighbour_keeps (neighbours_due.Unicasts key mac) c k = plain _ _ refl (plain _ c refl k)
  neighbour_keeps (neighbours_due.Fails key packets) c k = losing_keeps _ packets _ (plain _ c refl k)
  neighbour_keeps (neighbours_due.Ages key) c k = plain _ c refl k

  pub advertising_keeps : (settings : Option Settings) (c : Chronicle) → Kept c → Kept (advertising_by start at settings c)
  advertising_keeps None c k = k
  advertising_keeps (Some settings) c k = plain _ _ refl (plain _ _ refl (plain _ c refl k))

  planning_keeps : (wants : Bool) (c : Chronicle) → Kept c → Kept (planning start at wants c)
  planning_keeps true c k = plain _ _ refl (plain _ c refl k)
  planning_keeps false c k = k

  telling_keeps : (tells : Bool) (message : Option Parts) (c : Chronicle) → Kept c → Kept (telling_end start at tells message c)
  telling_keeps true (Some message) c k = plain _ c refl k
  telling_keeps true None c k = k
  telling_keeps false message c k = k

  clearing_keeps : (entries : List NeighbourEntry) (c : Chronicle) → Kept c → Kept (clearing start at entries c)
  clearing_keeps [] c k = k
  clearing_keeps (n ∷ entries) c k = clearing_keeps entries _ (losing_keeps _ (waiting_in n.stage) _ (plain _ c refl k))

  all_leaving_keeps : (entries : List (Lasting ℕ)) (c : Chronicle) → Kept c → Kept (all_leaving start at entries c)
  all_leaving_keeps [] c k = k
  all_leaving_keeps (e ∷ entries) c k = all_leaving_keeps entries _ (plain _ c refl k)

  kept_to : {c d : Chronicle} → d ≡ c → Kept c → Kept d
  kept_to same k = subst Kept (sym same) k

  place_keeps : (c : Chronicle) (key : ℕ) (enters : Bool) (d : Chronicle) → MakesPlace start c at key enters d → Kept c → Kept d
  place_keeps c key enters d m k = kept_to m.with_it (pushed_keeps m.pushed c k)

  place_for_keeps : (c : Chronicle) (news : Option (ℕ × RowKind)) (d : Chronicle) → PlaceFor start c at news d → Kept c → Kept d
  place_for_keeps c None d m k = kept_to m k
  place_for_keeps c (Some news) d m k = place_keeps c news.0 _ d m k

  room_keeps : (c : Chronicle) (news : Option (ℕ × RowKind)) (gone : Option ℕ) (d : Chronicle) → RoomFor start c at news gone d → Kept c → Kept d
  room_keeps c news None d m k = place_for_keeps c news d m.place k
  room_keeps c news (Some gone) d m k = kept_to m.place (pushed_keeps (Some gone) c k)

  goes_keeps : (c : Chronicle) (key : ℕ) (packet : List ℕ) (d : Chronicle) → Goes start c at key packet d → Kept c → Kept d
  goes_keeps c key packet d g k = kept_to g.goes (packet_keeps key _ packet _ g.placed (place_keeps c key true g.placed g.place k))

  wants_keep : (destination : Addr) (c : Chronicle) (key : ℕ) (d : Chronicle) → Wants start destination c at key d → Kept c → Kept d
  wants_keep destination c key d w k =
      kept_to w.wants (plain _ _ refl (wanted_keeps key _ (wanting_of (story key (neighbour_history c))) w.placed (place_keeps c key true w.placed w.place k)))

  module _
      (forms : (key delay : ℕ) (lifetimes : Lifetimes) (c : Chronicle) → Kept c → Kept ((at, Address key (addresses.Formed delay (retrans_timer c) (Some lifetimes))) ∷ c))
      (renews : (key : ℕ) (lifetimes : Lifetimes) (c : Chronicle) → Kept c → Kept ((at, Address key (addresses.Announced lifetimes)) ∷ c))
      (listens : (source destination : Addr) (message : Parts) (c : Chronicle) → Rivalless c source message.body → Kept c → Kept ((at, Heard source destination message) ∷ c))
      (yields : (source destination target : Addr) (message : Parts) (c : Chronicle) → Targets source message.body target → Kept c
      → Kept ((at, Address (number_of target.0) addresses.Conflict) ∷ (at, Heard source destination message) ∷ c)) where
    forming_keeps : (to_all : Bool) (key : ℕ) (lifetimes : Lifetimes) (c : Chronicle) → Kept c → Kept (forming start at to_all key lifetimes c)
    forming_keeps true key lifetimes c k = forms key _ lifetimes _ (delay_keeps true c k)
    forming_keeps false key lifetimes c k = forms key _ lifetimes _ (delay_keeps false c k)

    if_keeps : (t : Bool) (c d : Chronicle) → Kept c → Kept d → Kept (cond t c d)
    if_keeps true c d k l = k
    if_keeps false c d k l = l

    naming_keeps : (to_all hand known : Bool) (info : PrefixInfo) (c : Chronicle) → Kept c → Kept (naming start at to_all hand known info c)
    naming_keeps to_all true known info c k = k
    naming_keeps to_all false true info c k = renews (named_by start.mac info) (lifetimes_of info) c k
    naming_keeps to_all false false info c k = if_keeps (info.valid_lifetime == 0) c _ k (forming_keeps to_all _ _ c k)

    options_keep : (to_all : Bool) (infos : List PrefixInfo) (c : Chronicle) → Kept c → Kept (then_options start at to_all infos c)
    options_keep to_all [] c k = k
    options_keep to_all (info ∷ infos) c k =
        options_keep to_all infos (then_option start at to_all info c)
        (if_keeps (is_taken info) _ c (naming_keeps to_all (states.is_by_hand (story_of c (named_by start.mac info))) (states.is_known (story_of c (named_by start.mac info))) info c k) k)

    -- ---- a message is heard

    module _ (source destination : Addr) (message : Parts) where
      -- from ::, for one of the node's addresses
      tries : (target : Addr) → message.body ≡ bodies.Ns (record { target = target }) → (c : Chronicle) (assigned : Bool) → is_assigned c target.0 ≡ assigned → Kept c
          → (frame : List ℕ) → Kept (cond assigned ((at, Sent frame) ∷ (at, Heard source destination message) ∷ c) ((at, Address (number_of target.0) addresses.Conflict) ∷ (at, Heard source destination message) ∷ c))
      tries target body c true is k frame = plain _ _ refl (listens source destination message c rivalless k)
        where
          rivalless : Rivalless c source message.body
          rivalless address tentative = subst (λ (b : Body). conflicts_with address source b ≡ false) (sym body)
              (false_unless (bytes_eq target.0 address && bytes_eq source.0 unspecified_address)
              (λ conflict. assigned_or_tentative (story_of c (number_of address)) (subst (λ (a : List ℕ). is_assigned c a ≡ true) (bytes_eq_true target.0 address (first_of _ _ conflict)) is) tentative))
      tries target body c false is k frame = yields source destination target message c (λ address conflict.
          bytes_eq_true target.0 address (first_of _ (bytes_eq source.0 unspecified_address) (subst (λ (b : Body). conflicts_with address source b ≡ true) body conflict))) k

      answers_keep : (target : Addr) (c d : Chronicle) → message.body ≡ bodies.Ns (record { target = target }) → bytes_eq source.0 unspecified_address ≡ false
          → asked.Answers start at source destination target message c d → Kept c → Kept d
      answers_keep target c d body named h k =
          let heard : Chronicle = (at, Heard source destination message) ∷ h.placed in
          let behind : Chronicle = failing_for at h.gone (neighbour_history c) heard in
          let b : Chronicle = releasing at (said c source message) (neighbour_history h.placed) behind in
          replies_keep (asked.sent_alone_to start at (number_of source.0) b) _ _ b d h.answer
          (releasing_keeps (said c source message) (neighbour_history h.placed) behind
          (failing_keeps h.gone (neighbour_history c) heard
          (listens source destination message h.placed
          (λ address tentative. subst (λ (b : Body). conflicts_with address source b ≡ false) (sym body) (both_false (bytes_eq target.0 address) (bytes_eq source.0 unspecified_address) named))
          (room_keeps c (said c source message) h.gone h.placed h.room k))))
        where
          replies_keep : (known : Option ℕ) (key : ℕ) (packet : List ℕ) (b d : Chronicle)
              → MatchOption known (Goes start b at key packet d) (λ mac. d ≡ (at, Sent (addressed (mac_at mac) packet)) ∷ b) → Kept b → Kept d
          replies_keep None key packet b d h k = goes_keeps b key packet d h k
          replies_keep (Some mac) key packet b d h k = kept_to h (plain _ b refl k)

      solicited_keeps : (t : Bool) (target : Addr) (c d : Chronicle) → message.body ≡ bodies.Ns (record { target = target }) → bytes_eq source.0 unspecified_address ≡ t
          → MatchBool t (d ≡ then_tried start at target ((at, Heard source destination message) ∷ c)) (asked.Answers start at source destination target message c d) → Kept c → Kept d
      solicited_keeps true target c d body is h k = kept_to h (tries target body c (is_assigned c target.0) refl k _)
      solicited_keeps false target c d body is h k = answers_keep target c d body is h k

      -- what has no conflict with any address
      harmless : (body : Body) → message.body ≡ body → ((address : List ℕ) → conflicts_with address source body ≡ false) → (c : Chronicle) → Kept c → Kept ((at, Heard source destination message) ∷ c)
      harmless body is none c k = listens source destination message c (λ address tentative. subst (λ (b : Body). conflicts_with address source b ≡ false) (sym is) (none address)) k

      heard_from_keeps : (listed : Bool) (body : Body) → message.body ≡ body → ((address : List ℕ) → conflicts_with address source body ≡ false) → (c : Chronicle) → Kept c → Kept (heard_from start at source destination message listed c)
      heard_from_keeps true body is none c k = harmless body is none c k
      heard_from_keeps false body is none c k = plain (Unlisted (number_of source.0)) _ refl (harmless body is none c k)

      advertised_keeps : (ra : RouterAdvertisement) → message.body ≡ bodies.Ra ra → (listed : Bool) (gone : Option ℕ) (before : List neighbours.Row) (c : Chronicle) → Kept c
          → Kept (then_advertised start at source destination ra message listed gone before c)
      advertised_keeps ra body listed gone before c k =
          options_keep (holds multicast_prefix destination.0) (prefixes_in message.options) _
          (leaving_keeps (times_out start at c source ra) (number_of source.0) _
          (releasing_keeps (said c source message) (neighbour_history c) _
          (failing_keeps gone before _
          (redrawing_keeps ra.reachable_time (redraws (base_reachable_time c) ra.reachable_time) _
          (heard_from_keeps listed (bodies.Ra ra) body (λ address. refl) c k)))))

      -- an advertisement for a tentative address, or for another one
      conflicting_keeps : (body : Body) (target : Addr) → message.body ≡ body → ((address : List ℕ) → conflicts_with address source body ≡ bytes_eq target.0 address)
          → (c : Chronicle) (tentative : Bool) → is_tentative c target.0 ≡ tentative → Kept c
          → Kept (conflicting at tentative (number_of target.0) ((at, Heard source destination message) ∷ c))
      conflicting_keeps body target is by_target c true tentative k = yields source destination target message c (λ address conflict.
          bytes_eq_true target.0 address (sym (by_target address) ∙ subst (λ (b : Body). conflicts_with address source b ≡ true) is conflict)) k
      conflicting_keeps body target is by_target c false tentative k = listens source destination message c rivalless k
        where
          rivalless : Rivalless c source message.body
          rivalless address other = subst (λ (b : Body). conflicts_with address source b ≡ false) (sym is)
              (by_target address ∙ false_unless (bytes_eq target.0 address)
              (λ same. true≢false (sym other ∙ (sym (ap (λ (a : List ℕ). is_tentative c a) (bytes_eq_true target.0 address same)) ∙ tentative))))

      pub message_keeps : (body : Body) → message.body ≡ body → (c d : Chronicle) → MessageAdds start at source destination message body c d → Kept c → Kept d
      message_keeps (bodies.Ns ns) is c d h k = solicited_keeps (bytes_eq source.0 unspecified_address) ns.target c d is refl h k
      message_keeps (bodies.Ra ra) is c d h k = kept_to h.3 (advertised_keeps ra is true h.0 (neighbour_history c) h.1 (room_keeps c (said c source message) h.0 h.1 h.2 k))
      message_keeps (bodies.Na na) is c d h k =
          kept_to h.2 (leaving_keeps (ends_in_list start at h.0 (said h.0 source message)) (number_of na.target.0) _
          (releasing_keeps (said h.0 source message) (neighbour_history h.0) _
          (conflicting_keeps (bodies.Na na) na.target is (λ address. refl) h.0 (is_tentative h.0 na.target.0) refl
          (place_for_keeps c (said c source message) h.0 h.1 k))))
      message_keeps bodies.Rs is c d h k =
          kept_to h.3 (planning_keeps (wants_answer start c) _
          (releasing_keeps (said c source message) (neighbour_history h.1) _
          (failing_keeps h.0 (neighbour_history c) _ (harmless bodies.Rs is (λ address. refl) h.1 (room_keeps c (said c source message) h.0 h.1 h.2 k)))))
      message_keeps (bodies.Redirect r) is c d h k =
          kept_to h.3 (releasing_keeps (said c source message) (neighbour_history h.1) _
          (failing_keeps h.0 (neighbour_history c) _ (harmless (bodies.Redirect r) is (λ address. refl) h.1 (room_keeps c (said c source message) h.0 h.1 h.2 k))))

    -- what is taken of a message in part, and what is reported of the rest
    module _ (source destination : Addr) (message : Parts) (taken : Taken) (c : Chronicle) where
      answered_keeps : (mac : Option Mac) (packet : List ℕ) (c : Chronicle) → Kept c → Kept (asked.answered_at start at mac packet c)
      answered_keeps None packet c k = k
      answered_keeps (Some mac) packet c k = plain _ c refl k

      -- there is room for an asker that has no address
      named_by_place : (way unnamed : Bool) (key : ℕ) → Placed start c at way (if unnamed then None else Some (key, true)) false → unnamed ≡ false
      named_by_place way true key placed = absurd (let no : ⊥ = cc in no)
      named_by_place way false key placed = refl

      part_answer_keeps : (ns : NeighborSolicitation) → message.body ≡ bodies.Ns ns → taken.message.body ≡ bodies.Ns ns → (place : Bool)
          → Placed start c at (makes_way start (said c source message)) (needs c source message message.body) place → (d : Chronicle)
          → MatchBool place (MessageAdds start at source destination taken.message (bodies.Ns ns) c d) (d ≡ asked.then_answered start at source destination ns.target message taken.message c) → Kept c → Kept d
      part_answer_keeps ns body is true placed d h k = message_keeps source destination taken.message (bodies.Ns ns) is c d h k
      part_answer_keeps ns body is false placed d h k =
          let named : bytes_eq source.0 unspecified_address ≡ false =
          named_by_place (makes_way start (said c source message)) (bytes_eq source.0 unspecified_address) (number_of source.0)
          (subst (λ (b : Body). Placed start c at (makes_way start (said c source message)) (needs c source message b) false) body placed) in
          kept_to h (answered_keeps (asked.answer_address (first_slla message.options)) _ _
          (harmless source destination taken.message (bodies.Ns ns) is (λ address. both_false (bytes_eq ns.target.0 address) (bytes_eq source.0 unspecified_address) named) c k))

      part_keeps : (body : Body) → message.body ≡ body → IsTakenInPart start c at source message body taken → (d : Chronicle) → PartAdds start at source destination message taken body c d → Kept c → Kept d
      part_keeps (bodies.Ns ns) is t d h k = part_answer_keeps ns is (ap (λ (m : Parts). m.body) t.message_is ∙ is) taken.place t.placed d h k
      part_keeps (bodies.Ra ra) is t d h k =
          kept_to h.3 (advertised_keeps source destination taken.message ra (ap (λ (m : Parts). m.body) t.message_is ∙ is) taken.listed h.0 (neighbour_history c) h.1 (room_keeps c (said c source taken.message) h.0 h.1 h.2 k))
      part_keeps (bodies.Na na) is t d h k = message_keeps source destination taken.message (bodies.Na na) (ap (λ (m : Parts). m.body) t.message_is ∙ is) c d h k
      part_keeps bodies.Rs is t d h k = message_keeps source destination taken.message bodies.Rs (ap (λ (m : Parts). m.body) t.message_is ∙ is) c d h k
      part_keeps (bodies.Redirect r) is t d h k = message_keeps source destination taken.message (bodies.Redirect r) (ap (λ (m : Parts). m.body) t.message_is ∙ is) c d h k

    ignoring_keeps : (limits : List Limit) (c : Chronicle) → Kept c → Kept (ignoring at limits c)
    ignoring_keeps [] c k = k
    ignoring_keeps (limit ∷ limits) c k = ignoring_keeps limits _ (plain (Ignored limit) c refl k)

    pub in_part_keeps : (source destination : Addr) (message : Parts) (c d : Chronicle) → InPart start at source destination message c d → Kept c → Kept d
    in_part_keeps source destination message c d h k =
        kept_to h.all (ignoring_keeps h.taken.ignored h.told (part_keeps source destination message h.taken c message.body refl h.is_taken h.told h.adds k))

    -- ---- any event: an end is where its rows are kept, or its refusal comes alone

    module _ (c : Chronicle) (End : Chronicle → Type 0) (ends : (d : Chronicle) → Kept d → End d) (refused : (r : Refusal) → End ((at, Refused r) ∷ c))
        (sets : (key : ℕ) (lifetimes : Lifetimes) (c : Chronicle) → Kept c → Kept ((at, Address key (addresses.SetByHand lifetimes)) ∷ c))
        (withdraws : (key : ℕ) (c : Chronicle) → Kept c → Kept ((at, Address key addresses.Ended) ∷ c)) where
      end_at : {d e : Chronicle} → d ≡ e → Kept e → End d
      end_at {d = d} same k = ends d (kept_to same k)

      refused_at : {d : Chronicle} (r : Refusal) → d ≡ (at, Refused r) ∷ c → End d
      refused_at r same = subst End (sym same) (refused r)

      refused_keeps : (r : Option Refusal) (A : Chronicle → Type 0) (d : Chronicle) → (A d → End d) → UnlessRefused at r A c d → End d
      refused_keeps None A d g h = g h
      refused_keeps (Some refusal) A d g h = refused_at refusal h

      at_router_keeps : (role : Role) (A : Chronicle → Type 0) (d : Chronicle) → (A d → End d) → AtRouter at role A c d → End d
      at_router_keeps Host A d g h = refused_at WrongRole h
      at_router_keeps Router A d g h = g h

      placed_keeps : (key : ℕ) (packet : List ℕ) (d : Chronicle) → GoesIfPlaced start at key packet c d → Kept c → End d
      placed_keeps key packet d h k = refused_keeps _ (Goes start c at key packet) d (λ g. ends d (goes_keeps c key packet d g k)) h.2

      redirects_keep : (target : Addr) (packet : PacketParts) (bytes : List ℕ) (key : ℕ) (d : Chronicle) → Redirects start at target packet bytes key c d → Kept c → End d
      redirects_keep target packet bytes key d h k =
          ends d (goes_keeps h.told key _ d h.behind (goes_keeps ((at, RedirectMade) ∷ c) _ _ h.told h.redirect (plain RedirectMade c refl k)))

      sends_on_keeps : (target : Option Addr) (packet : PacketParts) (bytes : List ℕ) (key : ℕ) (d : Chronicle) → SendsOn start at target packet bytes key c d → Kept c → End d
      sends_on_keeps None packet bytes key d h k = placed_keeps key _ d h k
      sends_on_keeps (Some target) packet bytes key d h k =
          refused_keeps _ (Redirects start at target packet bytes key c) d (λ r. redirects_keep target packet bytes key d r k) h.2

      fate_keeps : (fate : Fate) (packet : PacketParts) (bytes : List ℕ) (d : Chronicle) → FateAdds start at fate packet bytes c d → Kept c → End d
      fate_keeps lost_no_route packet bytes d h k = end_at h (plain _ c refl k)
      fate_keeps lost_hop_limit packet bytes d h k = end_at h (plain _ c refl k)
      fate_keeps (sent next) packet bytes d h k = sends_on_keeps (redirect_to start at packet c) packet bytes _ d h k

      in_part_or_refused : (parts : Bool) (source destination : Addr) (message : Parts) (limit : Limit) (d : Chronicle)
          → MatchBool parts (InPart start at source destination message c d) (d ≡ (at, Refused (Full limit)) ∷ c) → Kept c → End d
      in_part_or_refused true source destination message limit d h k = ends d (in_part_keeps source destination message c d h k)
      in_part_or_refused false source destination message limit d h k = refused_at (Full limit) h

      heard_keeps : (source destination : Addr) (message : Parts) (full : Option Limit) (d : Chronicle) → HeardAdds start at full source destination message c d → Kept c → End d
      heard_keeps source destination message None d h k = ends d (message_keeps source destination message message.body refl c d h k)
      heard_keeps source destination message (Some limit) d h k = in_part_or_refused start.policies.parts source destination message limit d h k

      verdict_keeps : (frame : List ℕ) (v : Verdict) (d : Chronicle) → VerdictAdds start at frame v c d → Kept c → End d
      verdict_keeps frame (drops why) d h k = end_at h (plain _ c refl k)
      verdict_keeps frame (goes_up packet) d h k = end_at h (plain _ c refl k)
      verdict_keeps frame (goes_on packet) d h k = fate_keeps (fate (is_own c) (routes (route_history c)) packet.header) packet (packet_bytes frame) d h k
      verdict_keeps frame (hears source destination message) d h k =
          heard_keeps source destination message h.0 d h.2 k

      module _ (packet : PacketParts) where
        direct_keeps : (t : Bool) (what : List ℕ) (key : ℕ) (frame : List ℕ) (d : Chronicle)
            → MatchBool t (d ≡ (at, Sent what) ∷ c) (GoesIfPlaced start at key frame c d) → Kept c → End d
        direct_keeps true what key frame d h k = end_at h (plain _ c refl k)
        direct_keeps false what key frame d h k = placed_keeps key frame d h k

        next_keeps : (next : NextHop) (d : Chronicle) → PacketAdds start at next packet c d → Kept c → End d
        next_keeps no_route d h k = end_at h (plain _ c refl k)
        next_keeps direct d h k = direct_keeps (holds multicast_prefix packet.header.destination.0) _ _ _ d h k
        next_keeps (via key) d h k = placed_keeps key _ d h k

        hop_keeps : (d : Chronicle) → Kept c → HopAdds start at packet c d → End d
        hop_keeps d k x = next_keeps x.0 d x.2 k

      send_keeps : (source destination : Addr) (next_header : ℕ) (payload : List ℕ) (d : Chronicle) → SendAdds start at source destination next_header payload c d → Kept c → End d
      send_keeps source destination next_header payload d h k = refused_keeps (refusal_of_packet start at source payload c) _ d (hop_keeps (packet_sent start at source destination next_header payload c) d k) h

      carry_keeps : (packet : PacketParts) (d : Chronicle) → CarryAdds start at packet c d → Kept c → End d
      carry_keeps packet d h k = refused_keeps (refusal_of_carried start at packet c) _ d (hop_keeps packet d k) h

      module _ (destination : Addr) where
        wants_placed_keeps : (key : ℕ) (d : Chronicle) → WantsIfPlaced start at destination key c d → Kept c → End d
        wants_placed_keeps key d h k = refused_keeps _ (Wants start destination c at key) d (λ w. ends d (wants_keep destination c key d w k)) h.2

        direct_path_keeps : (t : Bool) (way : Way) (key : ℕ) (d : Chronicle)
            → MatchBool t (d ≡ (at, Path destination way) ∷ c) (WantsIfPlaced start at destination key c d) → Kept c → End d
        direct_path_keeps true way key d h k = end_at h (plain _ c refl k)
        direct_path_keeps false way key d h k = wants_placed_keeps key d h k

        path_keeps : (next : NextHop) (d : Chronicle) → PathAdds start at next destination c d → Kept c → End d
        path_keeps no_route d h k = end_at h (plain _ c refl k)
        path_keeps direct d h k = direct_path_keeps (holds multicast_prefix destination.0) _ _ d h k
        path_keeps (via key) d h k = wants_placed_keeps key d h k

        resolve_keeps : (d : Chronicle) → ResolveAdds start at destination c d → Kept c → End d
        resolve_keeps d h k = refused_keeps (refusal_unless_up start c) _ d (λ x. path_keeps x.0 d x.2 k) h

      clear_keeps : (table : Clearable) (d : Chronicle) → ClearAdds start at table c d → Kept c → End d
      clear_keeps events.ClearNeighbours d h k = end_at h.2 (clearing_keeps h.0 c k)
      clear_keeps events.ClearRouters d h k = end_at h.2 (plain _ _ refl (all_leaving_keeps h.0 c k))
      clear_keeps events.ClearPrefixes d h k = end_at h (plain _ c refl k)
      clear_keeps events.ClearRedirects d h k = end_at h (plain _ c refl k)
      clear_keeps events.ClearDns d h k = end_at h (plain _ c refl k)

      set_keeps : (disabled up own known : Bool) (key : ℕ) (lifetimes : Lifetimes) (d : Chronicle)
          → UnlessRefused at (cond disabled (Some Disabled) (cond up None (Some Tentative)))
          (λ e. MatchBool own (e ≡ c) (MatchBool known (e ≡ setting start at key lifetimes c) (FormsByHand start at key lifetimes c e))) c d → Kept c → End d
      set_keeps true up own known key lifetimes d h k = refused_at Disabled h
      set_keeps false false own known key lifetimes d h k = refused_at Tentative h
      set_keeps false true true known key lifetimes d h k = end_at h k
      set_keeps false true false true key lifetimes d h k = end_at h (sets key lifetimes c k)
      set_keeps false true false false key lifetimes d h k =
          refused_keeps (option_map Full (no_room h.0)) _ d (λ x. end_at x (sets key lifetimes _ (forms key 0 lifetimes c k))) h.2

      withdrawing_keeps : (t : Bool) (key : ℕ) (d : Chronicle) → d ≡ cond t ((at, Address key addresses.Ended) ∷ c) c → Kept c → End d
      withdrawing_keeps true key d h k = end_at h (withdraws key c k)
      withdrawing_keeps false key d h k = end_at h k

      pub event_keeps : (event : Event) (d : Chronicle) → ((settings : Settings) → event ≡ events.Advertises settings → Kept ((at, Configured settings) ∷ c)) → EventAdds start at event c d → Kept c → End d
      event_keeps events.Passes d settles h k = end_at h k
      event_keeps (events.Receives frame) d settles h k = verdict_keeps frame h.verdict d h.adds k
      event_keeps (events.Sends source destination next_header payload) d settles h k = send_keeps source destination next_header payload d h k
      event_keeps (events.Carries packet) d settles h k = carry_keeps packet d h k
      event_keeps (events.Resolves destination) d settles h k = resolve_keeps destination d h k
      event_keeps (events.Confirms neighbour) d settles h k = end_at h (plain _ c refl k)
      event_keeps (events.Forgets neighbour) d settles h k =
          end_at h (losing_keeps Forgotten (waits_of (story (number_of neighbour.0) (neighbour_history c))) _
          (plain (Neighbour (number_of neighbour.0) (neighbours.Forgot neighbours.Removed)) c refl k))
      event_keeps (events.Clears table) d settles h k = clear_keeps table d h k
      event_keeps (events.Shows table) d settles h k = end_at h.2 (plain _ c refl k)
      event_keeps (events.Advertises settings) d settles h k = at_router_keeps start.role _ d (λ x. end_at x (settles settings refl)) h
      event_keeps (events.Offers info) d settles h k =
          at_router_keeps start.role _ d (λ x. refused_keeps (option_map Full (full_of_offers start info.prefix c)) _ d (λ y. end_at y (plain _ c refl k)) x) h
      event_keeps (events.Routes prefix route) d settles h k =
          at_router_keeps start.role _ d (λ x. refused_keeps (option_map Full (full_of_routes start prefix c)) _ d (λ y. end_at y (plain _ c refl k)) x) h
      event_keeps events.Stops d settles h k =
          at_router_keeps start.role _ d (λ x. end_at x (telling_keeps (tells_its_end (advertising_history start c)) (last_contents_of start.mac (advertising_history start c)) _ (plain Ceased c refl k))) h
      event_keeps (events.Sets own) d settles h k =
          set_keeps (is_disabled start c) (is_up start c) (number_of own.address.0 == link_local_key start) (states.is_known (story_of c (number_of own.address.0))) (number_of own.address.0) own.lifetimes d h k
      event_keeps (events.Withdraws address) d settles h k =
          withdrawing_keeps (states.is_known (story_of c (number_of address.0)) && not (number_of address.0 == link_local_key start)) (number_of address.0) d h k
