-- A packet in transit, and the chronicle that a node stands for.
use Rattle.std.proofs.Common.{◌≡◌, ◌↔◌, ℕ, ◌+◌, ◌-◌, ◌<◌, ◌≤◌, Bool, true, false, List, [], ◌∷◌, append-nil, length, take, Option, Some, None, refl, sym, ◌∙◌, ap, subst, arith}
use Rattle.std.specs.Prelude.{if◌then◌else◌, is_some, ◌||◌}
use Rattle.std.specs.Cmp.{first_so}
use Rattle.std.proofs.lemmas.Bool.{cond-false}
use Rattle.rand_core.specs.Stream.{Stream}
use Rattle.nd_addr.specs.declared.addr.Addr.{Addr}
use Rattle.nd_addr.specs.declared.ip6.Ip6.{Ip6}
use Rattle.nd_addr.specs.declared.mac.Mac.{Mac}
use Rattle.nd_addr.specs.Frame.{written_frame}
use Rattle.nd_addr.specs.Bytes.{IsBytes}
use Rattle.nd_addr.specs.Ip6.{PacketParts, ipv6_header_length, payload_length_of}
use Rattle.nd_addr.specs.Places.{packet_in, parts_in}
use Rattle.nd_addr.specs.Number.{addr_at, number_of}
use Rattle.nd_compose.specs.Frames.{open_mac}
use Rattle.nd_neighbour.specs.EntryKept as neighbour_entries
use Rattle.nd_neighbour.specs.History as rows
use Rattle.nd_neighbour.specs.PlaceKept.{has_place}
use Rattle.nd_neighbour.specs.Room.{HasRoom}
use Rattle.nd_neighbour.specs.RoomKept.{LeavesRoom, has_first, has_room, has_second}
use Rattle.nd_neighbour.specs.TableKept as neighbours
use Rattle.nd_neighbour.specs.TableKept.{entry_in}
use Rattle.nd_nexthop.specs.NextHop.{NextHop}
use Rattle.nd_forwarding.specs.Forward.{Fate, lost_no_route, lost_hop_limit, sent, fate}
use Rattle.nd_forwarding.specs.History as route_rows
use Rattle.nd_forwarding.specs.Redirect.{last_redirect, redirect}
use Rattle.nd_forwarding.specs.Routes.{routes}
use Rattle.nd_forwarding.specs.Table as route_tables
use Rattle.nd_slaac.specs.PrefixOption.{link_local_of}
use Rattle.nd_chronicle.specs.Start.{Start, link_local}
use Rattle.nd_chronicle.specs.Happening.{Chronicle, Full, Loss, Lost, Neighbours, Passed, RedirectMade, Refused, NoRoute, HopLimit, last_moment}
use Rattle.nd_chronicle.specs.Histories.{neighbour_history, route_history}
use Rattle.nd_chronicle.specs.OwnAddress.{is_own}
use Rattle.nd_chronicle.specs.Event.{packet_bytes}
use Rattle.nd_chronicle.specs.Forwarding.{FateAdds, SendsOn, better_hop_frame, frame_as_it_came, key_of, redirect_to}
use Rattle.nd_chronicle.specs.Packet.{Goes, GoesIfPlaced}
use Rattle.nd_out.specs.declared.out.Out.{Out}
use Rattle.nd_steps.specs.Outputs.{Tells, happenings}
use Rattle.nd_steps.specs.declared.router_tables.RouterTables.{RouterTables}
use Rattle.nd_steps.proofs.Telling.{Tells-then}
use Rattle.nd_steps.proofs.InTransit.{as_it_came, payload_fits, sent_on}
use Rattle.nd_chronicle.specs.Answer as answers
use Rattle.nd_chronicle.proofs.Answering.{goes_done}
use Rattle.nd_node.specs.declared.node.Node.{Node}
use Rattle.nd_node.specs.Forwarding.{AddsForwarded, AddsLostInTransit, AddsOnward, AddsSentOn}
use Rattle.nd_node.specs.Frame.{AddsAlone}
use Rattle.nd_node.specs.Hearing.{Keeps}
use Rattle.nd_node.specs.NodeKept.{Stands, next_of}
use Rattle.nd_node.specs.OutgoingPacket.{AddsToNeighbour}
use Rattle.nd_node.specs.Packet.{PacketGoes}
use Rattle.nd_node.specs.Time.{Leads}
use Rattle.nd_node.proofs.Judging.{stays_keeps, up_to_payload}
use Rattle.nd_node.proofs.RouterRows.{Redirects, aside, stands_routes}
use Rattle.nd_node.proofs.Steps.{passed}

-- ---- room for two

placed_by : (found : Option neighbour_entries.NeighbourEntry) (place : Bool) → ((found ≡ None) × (place ≡ false) → ⊥) → (is_some found || place) ≡ true
placed_by (Some n) place never = refl
placed_by None true never = refl
placed_by None false never = absurd (never (refl, refl))

-- a second neighbour that had room before a packet to the first has room after it
pub place_left : (limit now key next : ℕ) (old new : List neighbour_entries.NeighbourEntry) → LeavesRoom limit now key old new → has_room limit now key (Some next) old ≡ true → has_room limit now next None new ≡ true
place_left limit now key next old new leaves room = placed_by (entry_in next new) (has_place limit now new) (λ none. leaves.has next room none)

-- and the first one has room
pub first_placed : (limit now key next : ℕ) (entries : List neighbour_entries.NeighbourEntry) → has_room limit now key (Some next) entries ≡ true → has_room limit now key None entries ≡ true
first_placed limit now key next entries room = first_so (has_first limit now key entries) (has_second limit now key next entries) room

-- and of two rings one is left for it
pub one_left : (found : Bool) (before after : ℕ) → 2 ≤ before → after ≡ (if found then before else before - 1) → 0 < after
one_left true before after two is = omega (arith, two, is)
one_left false before after two is = omega (arith, two, is)

-- what the room for two says of what happened
abbrev pub SaysRoom : {R A : Type 0} → Node R A → ℕ → ℕ → ℕ → Bool → Type 0
SaysRoom node now first second room =
    (history : List rows.Row) → neighbours.Stands node.neighbours.entries history → room ≡ true ↔ HasRoom node.neighbours.limit now first (Some second) history

-- ---- it is lost, or sent alone

module _ {R A : Type 0} (stream : R → Stream) (old new : Node R A) (x y : List (ℕ × Out A)) (now : ℕ) (packet : PacketParts) where
  pub lost_as_it_came : (why : Loss) (frame : List ℕ) → frame ≡ written_frame open_mac old.mac packet.header packet.payload → AddsAlone stream old new x y now (Lost why frame)
      → AddsLostInTransit stream old new x y now why packet
  lost_as_it_came why frame is adds = record {
    each = λ start c s le.
        subst (λ (f : List ℕ). Stands stream start new ((now, Lost why f) ∷ (now, Passed) ∷ c) × Tells c ((now, Lost why f) ∷ (now, Passed) ∷ c) x y)
        (as_it_came start now old.mac packet frame (sym s.mac) is) (adds.each start c s le);
  }

  module _ (key : ℕ) (bytes frame : List ℕ) where
    pub sent_alone : {answer : answers.Answer} → frame ≡ written_frame open_mac old.mac (record packet.header { hop_limit = packet.header.hop_limit - 1 }) packet.payload → AddsToNeighbour stream old new x y now key frame answer
        → AddsSentOn stream old new x y now key None packet bytes answer
    sent_alone {answer} is adds = record {
      each = λ start c s le.
          let a = adds.each start c s le in (
            a.0,
            subst (λ (f : List ℕ). GoesIfPlaced start now key f ((now, Passed) ∷ c) a.0) (sent_on start now old.mac packet frame (sym s.mac) is) a.1,
            a.2,
            a.3,
            a.4 false,
          );
    }

    -- ---- a Redirect and it are refused

    pub both_refused : (target : Addr) (room : Bool) → SaysRoom old now (number_of packet.header.source.0) key room → room ≡ false → AddsAlone stream old new x y now (Refused (Full Neighbours))
        → AddsSentOn stream old new x y now key (Some target) packet bytes (answers.Refused (Full Neighbours))
    both_refused target room says is adds = record {
      each = λ start c s le.
          let a = adds.each start c s le in
          let no_room : HasRoom start.limits.neighbours now (number_of packet.header.source.0) (Some key) (neighbour_history c) → ⊥ =
          λ has. let yes' : room ≡ true = (says (neighbour_history c) s.neighbours).1 (subst (λ (limit : ℕ). HasRoom limit now (number_of packet.header.source.0) (Some key) (neighbour_history c)) (sym s.limits.neighbours) has) in
          let never : ⊥ = cc in never in (
            (now, Refused (Full Neighbours)) ∷ (now, Passed) ∷ c,
            (false, no_room, refl),
            a.0,
            a.1,
            refl,
          );
    }

-- ---- a Redirect goes, and then it

module _ {R A : Type 0} (stream : R → Stream) (old mid made sent new : Node R A) (x w v y : List (ℕ × Out A)) (now key : ℕ) (target own : Addr) (packet : PacketParts) (bytes redirecting frame : List ℕ)
    (settled : now < next_of old) where
  pub both_go : (room : Bool) → SaysRoom old now (number_of packet.header.source.0) key room → room ≡ true
      → Keeps (record old { last = now }) mid → w ≡ x
      → (tables : RouterTables A) → made ≡ record mid { router = tables } → tables.advertiser ≡ mid.router.advertiser
      → route_tables.GainsRow mid.router.routes tables.routes (route_rows.RedirectMade now) → tables.routes.limit ≡ mid.router.routes.limit
      → own ≡ addr_at (link_local_of old.addresses.mac)
      → ((start : Start) (moment : ℕ) (c : Chronicle) → neighbours.Stands old.neighbours.entries (neighbour_history c) → start.mac ≡ old.mac → own ≡ link_local start
      → redirecting ≡ better_hop_frame start moment target packet bytes c)
      → frame ≡ written_frame open_mac old.mac (record packet.header { hop_limit = packet.header.hop_limit - 1 }) packet.payload
      → Leads stream made sent w v (PacketGoes now (number_of packet.header.source.0) redirecting) → Leads stream sent new v y (PacketGoes now key frame)
      → AddsSentOn stream old new x y now key (Some target) packet bytes answers.Done
  both_go room says is keeps same tables made_is advertiser gains limit own_is redirecting_is frame_is redirect_goes goes = record {
    each = λ start c s le.
        let first : ℕ = number_of packet.header.source.0 in
        let later : Chronicle = (now, Passed) ∷ c in
        let redirected : Chronicle = (now, RedirectMade) ∷ later in
        let base : Node R A = record old { last = now } in
        let stands_mid : Stands stream start mid later = (stays_keeps stream base mid keeps).each start later (passed stream start old base c now s le settled refl) in
        let stands_made : Stands stream start made redirected =
        rw made_is (stands_routes stream start mid later redirected (aside Redirects now start.at later refl) stands_mid tables (route_rows.RedirectMade now) advertiser gains limit refl refl refl) in
        let r = redirect_goes.each start redirected stands_made in
        let told : Chronicle = r.0 in
        let g = goes.each start told r.2 in
        let d : Chronicle = g.0 in
        let own_is' : own ≡ link_local start = own_is ∙ ap (λ (m : Mac). addr_at (link_local_of m)) s.address_mac in
        let has : HasRoom start.limits.neighbours now first (Some key) (neighbour_history c) =
        subst (λ (limit : ℕ). HasRoom limit now first (Some key) (neighbour_history c)) s.limits.neighbours ((says (neighbour_history c) s.neighbours).0 is) in
        let nothing : Tells c redirected x w = record { newer = []; told = append-nil _; outs = ap happenings same ∙ sym (append-nil _) } in (
          d,
          (
            true,
            has,
            record {
              told = told;
              redirect = subst (λ (f : List ℕ). Goes start redirected now first f told) (redirecting_is start now later s.neighbours (sym s.mac) own_is') r.1;
              behind = subst (λ (f : List ℕ). Goes start told now key f d) (sent_on start now old.mac packet frame (sym s.mac) frame_is) g.1;
            },
          ),
          g.2,
          Tells-then c redirected d x w y nothing (Tells-then redirected told d w v y r.3 g.3),
          sym (goes_done start told now key frame d false g.1),
        );
  }

-- ---- to whom a Redirect goes

none_either : (b : Bool) (x : Option Addr) → x ≡ None → (if b then None else x) ≡ None
none_either true x is = refl
none_either false x is = is

module _ (start : Start) (now : ℕ) (packet : PacketParts) (header : Ip6) (header_is : packet.header ≡ header) (c : Chronicle) where
  abbrev by_routes : Ip6 → Option Addr
  by_routes h = redirect (is_own c) (routes (route_history c)) (last_redirect (route_history c)) now h

  pub redirects_none : None ≡ by_routes header → None ≡ redirect_to start now packet c
  redirects_none says = sym (none_either (is_own c packet.header.source.0) (by_routes packet.header) (sym (says ∙ ap by_routes (sym header_is))))

  pub redirects_another : (target : Addr) → false ≡ is_own c header.source.0 → Some target ≡ by_routes header → Some target ≡ redirect_to start now packet c
  redirects_another target another says =
      says ∙ (ap by_routes (sym header_is) ∙ sym (cond-false (is_own c packet.header.source.0) None (by_routes packet.header) (ap (λ (h : Ip6). is_own c h.source.0) header_is ∙ sym another)))

-- ---- by its fate

module _ {R A : Type 0} (stream : R → Stream) (old new : Node R A) (x y : List (ℕ × Out A)) (now : ℕ) (packet : PacketParts) (bytes : List ℕ) (own : Bool) where
  -- what the node says of a Redirect
  abbrev pub SaysRedirect : Option Addr → Type 0
  SaysRedirect target = (start : Start) (c : Chronicle) → Stands stream start old c → is_own c packet.header.destination.0 ≡ own → target ≡ redirect_to start now packet c

  pub onward : (key : ℕ) (target : Option Addr) {answer : answers.Answer} → SaysRedirect target → AddsSentOn stream old new x y now key target packet bytes answer → AddsOnward stream old new x y now key own packet bytes answer
  onward key target {answer} says adds = record {
    each = λ start c s le mine.
        let a = adds.each start c s le in
        let later : Chronicle = (now, Passed) ∷ c in (
          a.0,
          subst (λ (t : Option Addr). SendsOn start now t packet bytes key later a.0) (says start c s mine) a.1,
          a.2,
          a.3,
          a.4,
        );
  }

  -- what the routes say of its fate, and the addresses of its destination
  abbrev pub SaysFate : Fate → Type 0
  SaysFate f = (is_mine : List ℕ → Bool) → is_mine packet.header.destination.0 ≡ own → (history : List route_rows.Row) → route_tables.Stands old.router.routes history
      → f ≡ fate is_mine (routes history) packet.header

  abbrev pub SaysOwn : Type 0
  SaysOwn = (start : Start) (c : Chronicle) → Stands stream start old c → is_own c packet.header.destination.0 ≡ own

  -- what it adds by its fate
  abbrev pub AddsFate : Fate → answers.Answer → Type 0
  AddsFate f answer = (start : Start) (c : Chronicle) → Stands stream start old c → last_moment start.at c ≤ now → is_own c packet.header.destination.0 ≡ own
      → (d : Chronicle) × FateAdds start now f packet bytes ((now, Passed) ∷ c) d × Stands stream start new d × Tells c d x y × (answer ≡ answers.answer_after d false)

  pub forwarded : (f : Fate) {answer : answers.Answer} → SaysFate f → SaysOwn → AddsFate f answer → AddsForwarded stream old new x y now packet bytes answer
  forwarded f {answer} says owns adds = record {
    each = λ start c s le.
        let mine = owns start c s in
        let a = adds start c s le mine in
        let later : Chronicle = (now, Passed) ∷ c in (
          a.0,
          subst (λ (f' : Fate). FateAdds start now f' packet bytes later a.0) (says (is_own c) mine (route_history c) s.router.routes) a.1,
          a.2,
          a.3,
          a.4,
        );
  }

  pub no_route : AddsLostInTransit stream old new x y now NoRoute packet → AddsFate lost_no_route answers.Done
  no_route adds = λ start c s le mine. let a = adds.each start c s le in ((now, Lost NoRoute (frame_as_it_came start now packet)) ∷ (now, Passed) ∷ c, refl, a.0, a.1, refl)

  pub spent : AddsLostInTransit stream old new x y now HopLimit packet → AddsFate lost_hop_limit answers.Done
  spent adds = λ start c s le mine. let a = adds.each start c s le in ((now, Lost HopLimit (frame_as_it_came start now packet)) ∷ (now, Passed) ∷ c, refl, a.0, a.1, refl)

  pub goes_on_to : (next : NextHop) (those : List ℕ) {answer : answers.Answer} → those ≡ bytes → AddsOnward stream old new x y now (key_of next packet.header.destination) own packet those answer → AddsFate (sent next) answer
  goes_on_to next those {answer} is adds = λ start c s le mine.
      let a = adds.each start c s le mine in
      let later : Chronicle = (now, Passed) ∷ c in (
        a.0,
        subst (λ (b : List ℕ). SendsOn start now (redirect_to start now packet c) packet b (key_of next packet.header.destination) later a.0) is a.1,
        a.2,
        a.3,
        a.4,
      )

-- ---- the bytes of a frame

pub short_payload : (frame : List ℕ) (packet : PacketParts) → packet ≡ parts_in frame → IsBytes frame → length packet.payload ≤ 65535
short_payload frame packet is h = rw is (payload_fits frame h)

pub bytes_are : (frame taken : List ℕ) (packet : PacketParts) → packet ≡ parts_in frame → taken ≡ take (ipv6_header_length + length packet.payload) (packet_in frame) → taken ≡ packet_bytes frame
bytes_are frame taken packet is taken_is =
    taken_is ∙ (ap (λ (p : PacketParts). take (ipv6_header_length + length p.payload) (packet_in frame)) is ∙ up_to_payload (packet_in frame) (payload_length_of (packet_in frame)))
