-- A solicitation from an address for one of the node's own, and the chronicle that a node stands for.
use Rattle.std.proofs.Common.{◌≡◌, ℕ, ◌<◌, ◌≤◌, Bool, true, false, ◌||◌, List, [], ◌∷◌, ◌++◌, Option, Some, None, refl, sym, ◌∙◌, ap, subst, arith}
use Rattle.std.specs.Prelude.{◌↔◌, bytes_eq, if◌then◌else◌, is_some, MatchBool, MatchOption}
use Rattle.std.specs.Option.{option_map}
use Rattle.rand_core.specs.Stream.{Stream}
use Rattle.nd_addr.specs.declared.addr.Addr.{Addr}
use Rattle.nd_addr.specs.declared.mac.Mac.{Mac}
use Rattle.nd_addr.specs.Kind.{unspecified_address}
use Rattle.nd_addr.specs.Frame.{addressed}
use Rattle.nd_addr.specs.Number.{mac_at, number_of}
use Rattle.nd_decode.specs.Message.{Parts}
use Rattle.nd_decode.specs.Option.{Said}
use Rattle.nd_decode.specs.declared.body.Body.TheVariants as bodies
use Rattle.nd_decode.specs.declared.neighbor_solicitation.NeighborSolicitation.{NeighborSolicitation}
use Rattle.nd_neighbour.specs.declared.news.News.{News}
use Rattle.nd_neighbour.specs.declared.news.News.TheVariants as news
use Rattle.nd_neighbour.specs.declared.news.Times.{Times}
use Rattle.nd_neighbour.specs.EntryKept as neighbour_entries
use Rattle.nd_neighbour.specs.History as rows
use Rattle.nd_neighbour.specs.News.{news_key}
use Rattle.nd_neighbour.specs.Place.{WouldBeFull}
use Rattle.nd_neighbour.specs.PlaceKept.{NoPlace, has_place}
use Rattle.nd_neighbour.specs.RoomKept.{has_room}
use Rattle.nd_neighbour.specs.TableKept as neighbours
use Rattle.nd_neighbour.specs.TableKept.{entry_in}
use Rattle.nd_compose.specs.Frames.{answer_frame}
use Rattle.nd_chronicle.specs.Start.{Policies, Start}
use Rattle.nd_chronicle.specs.Happening.{Chronicle, Passed, Heard, Refused, Sent, Full, Neighbours, last_moment}
use Rattle.nd_chronicle.specs.Histories.{neighbour_history, given_or_marked, said_of_neighbour}
use Rattle.nd_chronicle.specs.LinkLayerAddress.{first_slla}
use Rattle.nd_chronicle.specs.Message.{said, failing_for, makes_way, releasing}
use Rattle.nd_chronicle.specs.NeighborSolicitation.{is_router, sent_alone_to, then_tried, Answers, Replies}
use Rattle.nd_chronicle.specs.Full as full
use Rattle.nd_chronicle.specs.Packet.{Goes}
use Rattle.nd_chronicle.specs.Packet as packets
use Rattle.nd_chronicle.specs.Event.{VerdictAdds}
use Rattle.nd_chronicle.specs.Hearing.{hears}
use Rattle.nd_chronicle.specs.Told.{items_at, items}
use Rattle.nd_out.specs.declared.out.Out.{Out}
use Rattle.nd_out.specs.Out.{happening}
use Rattle.nd_steps.specs.NeighbourCache.{said_by}
use Rattle.nd_steps.proofs.Placing.{enters}
use Rattle.nd_steps.proofs.Telling.{one, one_told, Tells-then}
use Rattle.nd_chronicle.specs.Answer as answers
use Rattle.nd_chronicle.proofs.Answering.{goes_done}
use Rattle.nd_node.specs.declared.node.Node.{Node}
use Rattle.nd_node.specs.NodeKept.{Stands, next_of}
use Rattle.nd_node.specs.Asker.{IsOfAsker}
use Rattle.nd_node.specs.Packet.{PacketGoes, ReplyGoes}
use Rattle.nd_node.specs.Time.{Leads}
use Rattle.nd_node.specs.Hearing.{AddsMessage}
use Rattle.nd_node.specs.Frame.{AddsAlone}
use Rattle.nd_steps.specs.DestinationCache.{Keeps}
use Rattle.nd_node.proofs.Beside.{Same, beside_sent, stands_neighbours}
use Rattle.nd_node.specs.Asker.{solicitation}
use Rattle.nd_node.proofs.Givers.{TakesGiver, said_is}
use Rattle.nd_node.proofs.PlainMessages.{passed_placed}
use Rattle.nd_node.proofs.Standing.{Apart}
use Rattle.nd_node.proofs.Turns.{neighbours_before}

-- ---- place for the asker

-- laws of the neighbours
abbrev pub RoomIsPlace : Type 0
RoomIsPlace = (limit now key : ℕ) (second : Option ℕ) (entries : List neighbour_entries.NeighbourEntry) → has_room limit now key second entries ≡ true → NoPlace limit now key entries → ⊥

abbrev pub FullByHistory : Type 0
FullByHistory = (limit now key : ℕ) (entries : List neighbour_entries.NeighbourEntry) (history : List rows.Row) → neighbours.Stands entries history → NoPlace limit now key entries ↔ WouldBeFull limit now key history

no_room : (found : Option neighbour_entries.NeighbourEntry) (place : Bool) → (is_some found || place) ≡ false → (found ≡ None) × (place ≡ false)
no_room None place e = (refl, e)
no_room (Some n) place e = let no : ⊥ = cc in absurd no

said_of_asker : (times : Times) (key : ℕ) (news : Option News) (slla : Option Mac) (unspecified : Bool)
    → option_map (said_by times) news ≡ (if unspecified then None else given_or_marked key slla None) → IsOfAsker key news
said_of_asker times key None slla unspecified e = tt
said_of_asker times key (Some n) slla true e = let no : ⊥ = cc in absurd no
said_of_asker times key (Some n) None false e = let no : ⊥ = cc in absurd no
said_of_asker times key (Some (news.Given addr mac mark)) (Some slla) false e =
    let pair : said_by times (news.Given addr mac mark) ≡ (key, rows.Given (number_of slla.0) None) = cc in
    (ap (λ (p : ℕ × rows.RowKind). p.0) pair, refl)
said_of_asker times key (Some (news.Advert addr flags mac)) (Some slla) false e =
    let pair : said_by times (news.Advert addr flags mac) ≡ (key, rows.Given (number_of slla.0) None) = cc in
    let kind : rows.Advertised flags (option_map (λ m. number_of m.0) mac) times.reachable ≡ rows.Given (number_of slla.0) None = ap (λ (p : ℕ × rows.RowKind). p.1) pair in
    let no : ⊥ = cc in
    absurd no
said_of_asker times key (Some (news.Marked addr router)) (Some slla) false e =
    let pair : said_by times (news.Marked addr router) ≡ (key, rows.Given (number_of slla.0) None) = cc in
    let kind : rows.Marked router ≡ rows.Given (number_of slla.0) None = ap (λ (p : ℕ × rows.RowKind). p.1) pair in
    let no : ⊥ = cc in
    absurd no

module _ (times : Times) (source : Addr) (ns : NeighborSolicitation) (options : List Said) (news : Option News)
    (is : option_map (said_by times) news ≡ said_of_neighbour source (bodies.Ns ns) options times.reachable) where
  pub of_asker : IsOfAsker (number_of source.0) news
  of_asker = said_of_asker times (number_of source.0) news (first_slla options) (bytes_eq source.0 unspecified_address) is

-- a neighbour has no room
pub would_be_full : {R A : Type 0} (stream : R → Stream) (start : Start) (node : Node R A) (c : Chronicle) (now key : ℕ) → FullByHistory → Stands stream start node c
    → has_room node.neighbours.limit now key None node.neighbours.entries ≡ false → WouldBeFull start.limits.neighbours now key (neighbour_history c)
would_be_full stream start node c now key law s room =
    let none : NoPlace node.neighbours.limit now key node.neighbours.entries = no_room (entry_in key node.neighbours.entries) (has_place node.neighbours.limit now node.neighbours.entries) room in
    subst (λ (limit : ℕ). WouldBeFull limit now key (neighbour_history c)) s.limits.neighbours ((law node.neighbours.limit now key node.neighbours.entries (neighbour_history c) s.neighbours).0 none)

-- a neighbour has room
pub has_place_for : {R A : Type 0} (stream : R → Stream) (start : Start) (node : Node R A) (c : Chronicle) (now key : ℕ) → RoomIsPlace → FullByHistory → Stands stream start node c
    → has_room node.neighbours.limit now key None node.neighbours.entries ≡ true → packets.HasPlace start ((now, Passed) ∷ c) now key true true
has_place_for stream start node c now key room_is_place full_by_history s has = λ enters would.
    room_is_place node.neighbours.limit now key None node.neighbours.entries has
    ((full_by_history node.neighbours.limit now key node.neighbours.entries (neighbour_history c) s.neighbours).1 (subst (λ (limit : ℕ). WouldBeFull limit now key (neighbour_history c)) (sym s.limits.neighbours) would))

-- the asker has room where the neighbour of the news has
pub asker_placed : (start : Start) (c : Chronicle) (now key : ℕ) (way : Bool) (n : News) (times : Times) (place : Bool) → IsOfAsker key (Some n)
    → full.Placed start c now way (full.entering (Some (said_by times n))) place → full.Placed start c now way (Some (key, true)) place
asker_placed start c now key way n times place of h =
    subst (λ (k : ℕ). full.Placed start c now way (Some (k, true)) place) of.0
    (subst (λ (b : Bool). full.Placed start c now way (Some (news_key n, b)) place) (enters n times ∙ of.1) h)

-- ---- an answer

reply_by : (start : Start) (now key : ℕ) (packet : List ℕ) (known : Option ℕ) (c d : Chronicle) → MatchOption known (Goes start c now key packet d) (λ mac. d ≡ (now, Sent (addressed (mac_at mac) packet)) ∷ c)
    → answers.answer_after d false ≡ answers.Done
reply_by start now key packet None c d g = goes_done start c now key packet d false g
reply_by start now key packet (Some mac) c d is = ap (λ (e : Chronicle). answers.answer_after e false) is

reply_done : (start : Start) (now key : ℕ) (packet : List ℕ) (c d : Chronicle) → Replies start now key packet c d → answers.answer_after d false ≡ answers.Done
reply_done start now key packet c d r = reply_by start now key packet (sent_alone_to start now key c) c d r

-- it goes as any packet where it isn't sent alone
pub replies_as_packet : {R A : Type 0} (stream : R → Stream) (old new : Node R A) (x y : List (ℕ × Out A)) (now : ℕ) (to : Addr) (packet : List ℕ)
    → ((start : Start) (at : ℕ) (c : Chronicle) → Stands stream start old c → None ≡ option_map mac_at (sent_alone_to start at (number_of to.0) c))
    → Leads stream old new x y (PacketGoes now (number_of to.0) packet) → Leads stream old new x y (ReplyGoes now (number_of to.0) packet)
replies_as_packet stream old new x y now to packet none leads = record {
  each = λ start c s.
      let g = leads.each start c s in (g.0, by start (sent_alone_to start now (number_of to.0) c) c g.0 (none start now c s) g.1, g.2, g.3);
}
  where
    by : (start : Start) (known : Option ℕ) (c d : Chronicle) → None ≡ option_map mac_at known → Goes start c now (number_of to.0) packet d
        → MatchOption known (Goes start c now (number_of to.0) packet d) (λ mac. d ≡ (now, Sent (addressed (mac_at mac) packet)) ∷ c)
    by start None c d is g = g
    by start (Some mac) c d is g = let no : ⊥ = cc in absurd no

-- and else its frame is all that is added
pub replies_alone : {R A : Type 0} (stream : R → Stream) (node : Node R A) (x y : List (ℕ × Out A)) (now : ℕ) (to : Addr) (packet : List ℕ) (mac : Mac) (out : Out A)
    → node.last ≡ now → ((start : Start) (at : ℕ) (c : Chronicle) → Stands stream start node c → Some mac ≡ option_map mac_at (sent_alone_to start at (number_of to.0) c))
    → y ≡ x ++ (now, out) ∷ [] → happening out ≡ Sent (addressed mac packet) → Leads stream node node x y (ReplyGoes now (number_of to.0) packet)
replies_alone stream node x y now to packet mac out last known is out_is = record {
  each = λ start c s.
      let frame : List ℕ = addressed mac packet in
      let d : Chronicle = (now, Sent frame) ∷ c in
      let at : last_moment start.at c ≡ now = sym s.last ∙ last in
      let same : Same node node = record { role = refl; mac = refl; chosen = refl; policies = refl; generator = refl; last = refl; params = refl; routers = refl; prefixes = refl; dns = refl; redirects = refl; solicitations = refl; router = refl; address_mac = refl; address_transmits = refl; address_limit = refl; neighbour_limit = refl; waiting = refl } in
      let not_past : now ≤ next_of node = omega (arith, s.in_time, at) in (
        d,
        by start (sent_alone_to start now (number_of to.0) c) c (known start now c s),
        stands_neighbours stream start node node c d now same (beside_sent now frame c) s at refl refl refl s.neighbours (neighbours_before node now not_past) (Keeps refl (λ history s key. refl)),
        record {
          newer = (now, Sent frame) ∷ [];
          told = one (items c) (items_at (now, Sent frame));
          outs = one_told x y now out (Sent frame) is out_is;
        },
      );
}
  where
    by : (start : Start) (o : Option ℕ) (c : Chronicle) → Some mac ≡ option_map mac_at o
        → MatchOption o (Goes start c now (number_of to.0) packet ((now, Sent (addressed mac packet)) ∷ c)) (λ k. (now, Sent (addressed mac packet)) ∷ c ≡ (now, Sent (addressed (mac_at k) packet)) ∷ c)
    by start None c same = let no : ⊥ = cc in absurd no
    by start (Some k) c same = let e : mac ≡ mac_at k = cc in ap (λ (m : Mac). (now, Sent (addressed m packet)) ∷ c) e

-- the solicitation itself is news of a neighbour alone
pub solicitation_apart : (at : ℕ) (source destination : Addr) (ns : NeighborSolicitation) (options : List Said) (c : Chronicle) → Apart c ((at, Heard source destination (solicitation ns options)) ∷ c)
solicitation_apart at source destination ns options c = record { parameters = refl; prefixes = refl; servers = refl; names = refl; assigned = λ k. refl; solicited = refl; router = λ start'. refl; stream = λ start. refl }

-- ---- what it adds

module _ (start : Start) (now : ℕ) (source destination : Addr) (ns : NeighborSolicitation) (options : List Said) (c d : Chronicle) (from : bytes_eq source.0 unspecified_address ≡ false) where
  abbrev way : Bool
  way = makes_way start (said c source (solicitation ns options))

  pub asked : (place : Bool) → full.Placed start c now way (Some (number_of source.0, true)) place → full.Placed start c now way (full.asking source) place
  asked place h = subst (λ (b : Bool). full.Placed start c now way (if b then None else Some (number_of source.0, true)) place) (sym from) h

  adds_answer : full.Placed start c now way (Some (number_of source.0, true)) true → Answers start now source destination ns.target (solicitation ns options) c d
      → VerdictAdds start now [] (hears source destination (solicitation ns options)) c d
  adds_answer place answers = (
    None,
    record { neighbours = true; placed = asked true place; first = refl },
    subst (λ (b : Bool). MatchBool b (d ≡ then_tried start now ns.target ((now, Heard source destination (solicitation ns options)) ∷ c)) (Answers start now source destination ns.target (solicitation ns options) c d)) (sym from) answers,
  )

  adds_refusal : start.policies.parts ≡ false → full.Placed start c now way (Some (number_of source.0, true)) false → d ≡ (now, Refused (Full Neighbours)) ∷ c
      → VerdictAdds start now [] (hears source destination (solicitation ns options)) c d
  adds_refusal whole place is = (Some Neighbours, record { neighbours = false; placed = asked false place; first = refl }, rw whole is)

module _ {R A : Type 0} (stream : R → Stream) (old : Node R A) (now : ℕ) (source destination : Addr) (ns : NeighborSolicitation) (options : List Said)
    (from : bytes_eq source.0 unspecified_address ≡ false) (settled : now < next_of old) (times : Times) (news : Option News)
    (news_is : option_map (said_by times) news ≡ said_of_neighbour source (bodies.Ns ns) options times.reachable) (reachable_is : times.reachable ≡ old.params.reachable_time) where
  -- whether the asker has room, once time has passed
  pub place_later : (start : Start) (c : Chronicle) (place : Bool) → Stands stream start old c
      → full.Placed start c now (makes_way start (option_map (said_by times) news)) (Some (number_of source.0, true)) place
      → full.Placed start ((now, Passed) ∷ c) now (makes_way start (said ((now, Passed) ∷ c) source (solicitation ns options))) (Some (number_of source.0, true)) place
  place_later start c place s h =
      subst (λ (o : Option (ℕ × rows.RowKind)). full.Placed start ((now, Passed) ∷ c) now (makes_way start o) (Some (number_of source.0, true)) place)
      (said_is stream old now source destination (bodies.Ns ns) options settled times news news_is reachable_is start c s)
      (passed_placed start c now (makes_way start (option_map (said_by times) news)) (Some (number_of source.0, true)) place h)

  -- ---- there is no room

  pub refused : old.policies.parts ≡ false → (new : Node R A) (x y : List (ℕ × Out A))
      → ((start : Start) (c : Chronicle) → Stands stream start old c → full.Placed start c now (makes_way start (option_map (said_by times) news)) (Some (number_of source.0, true)) false)
      → AddsAlone stream old new x y now (Refused (Full Neighbours)) → AddsMessage stream old new x y now source destination (solicitation ns options) (answers.Refused (Full Neighbours))
  refused whole new x y placed adds = record {
    each = λ start c s le takes.
        let a = adds.each start c s le in
        let later : Chronicle = (now, Passed) ∷ c in
        let d : Chronicle = (now, Refused (Full Neighbours)) ∷ later in (
          d,
          adds_refusal start now source destination ns options later d from (ap (λ (p : Policies). p.parts) (sym s.policies) ∙ whole) (place_later start c false s (placed start c s)) refl,
          a.0,
          a.1,
          refl,
        );
  }

  -- ---- there is room: the answer goes to the asker behind what the solicitation says

  pub answered : (mid new : Node R A) (gone : Option ℕ) (x z w : List (ℕ × Out A))
      → ((start : Start) (c : Chronicle) → Stands stream start old c → full.Placed start c now (makes_way start (option_map (said_by times) news)) (Some (number_of source.0, true)) true)
      → ((start : Start) (c : Chronicle) → Stands stream start old c → last_moment start.at c ≤ now → TakesGiver stream old now source destination (bodies.Ns ns) options settled times news news_is reachable_is mid gone x z start c)
      → (router : Bool) → router ≡ is_router old.role → (packet : List ℕ) → packet ≡ answer_frame router old.mac ns.target source
      → Leads stream mid new z w (ReplyGoes now (number_of source.0) packet)
      → AddsMessage stream old new x w now source destination (solicitation ns options) answers.Done
  answered mid new gone x z w placed takes router router_is packet packet_is goes = record {
    each = λ start c s le heard.
        let key : ℕ = number_of source.0 in
        let later : Chronicle = (now, Passed) ∷ c in
        let message : Parts = solicitation ns options in
        let t = takes start c s le in
        let after : Chronicle = releasing now (said later source message) (neighbour_history t.placed) (failing_for now gone (neighbour_history c) ((now, Heard source destination message) ∷ t.placed)) in
        let g = goes.each start after t.stands in
        let frame : List ℕ = answer_frame (is_router start.role) start.mac ns.target source in
        let frame_is : packet ≡ frame =
        packet_is ∙ (ap (λ (b : Bool). answer_frame b old.mac ns.target source) (router_is ∙ ap is_router s.role) ∙ ap (λ (m : Mac). answer_frame (is_router start.role) m ns.target source) s.mac) in (
          g.0,
          adds_answer start now source destination ns options later g.0 from (place_later start c true s (placed start c s))
              (record { gone = gone; placed = t.placed; room = t.room; answer = subst (λ (f : List ℕ). Replies start now key f after g.0) frame_is g.1 }),
          g.2,
          Tells-then c after g.0 x z w t.tells g.3,
          sym (reply_done start now key packet after g.0 g.1),
        );
  }
