-- A packet to a neighbour, and the chronicle that a node stands for.
use Rattle.std.proofs.Common.{◌≡◌, ℕ, Bool, true, false, List, [], ◌∷◌, ◌++◌, append-nil, Option, Some, None, refl, sym, ◌∙◌, ap, subst, arith}
use Rattle.std.specs.Prelude.{◌≤◌}
use Rattle.std.specs.List.{flat_map}
use Rattle.std.specs.Option.{option_to_list}
use Rattle.rand_core.specs.Stream.{Stream}
use Rattle.nd_addr.specs.declared.addr.Addr.{Addr}
use Rattle.nd_addr.specs.declared.mac.Mac.{Mac}
use Rattle.nd_addr.specs.Frame.{addressed}
use Rattle.nd_addr.specs.Number.{addr_at, mac_at}
use Rattle.nd_neighbour.specs.History as rows
use Rattle.nd_neighbour.specs.History.{story}
use Rattle.nd_neighbour.specs.AddressResolution.{resolution_of, room_in, waiting_of}
use Rattle.nd_neighbour.specs.Story.{is_present, mac_of}
use Rattle.nd_neighbour.specs.TableKept as neighbours
use Rattle.nd_neighbour.specs.Due.{NoneOverdue}
use Rattle.nd_neighbour.specs.DueKept.{NoneBefore}
use Rattle.nd_neighbour.specs.Place.{Prepares, pushing}
use Rattle.nd_neighbour.specs.Sending as sendings
use Rattle.nd_neighbour.specs.Sending.{Sending, Sends, Queues, sending_by, sending_of_story}
use Rattle.nd_neighbour.specs.SendingKept.{GainsPacket}
use Rattle.nd_packet.specs.Waiting.{replaced}
use Rattle.nd_slaac.specs.PrefixOption.{link_local_of}
use Rattle.nd_compose.specs.Frames.{resolution_frame}
use Rattle.nd_chronicle.specs.Start.{Start, link_local}
use Rattle.nd_chronicle.specs.Happening.{Chronicle, Neighbour, Sent, Lost, Replaced, last_moment}
use Rattle.nd_chronicle.specs.Histories.{neighbour_history, address_history}
use Rattle.nd_chronicle.specs.InForce.{retrans_timer}
use Rattle.nd_chronicle.specs.Packet.{losing, with_pushed, then_packet}
use Rattle.nd_chronicle.specs.Told.{items_at, items}
use Rattle.nd_out.specs.declared.out.Out.{Out}
use Rattle.nd_steps.specs.DestinationCache.{MayRemember}
use Rattle.nd_steps.specs.NeighbourCache.{told_of_packet}
use Rattle.nd_steps.specs.Outputs.{at_moment, happenings}
use Rattle.nd_steps.proofs.Quiet.{losing_is_quiet}
use Rattle.nd_steps.proofs.Saying.{NoneOverdueStill, OneGoes, OverdueByTable, pushed_history}
use Rattle.nd_steps.proofs.Telling.{one}
use Rattle.nd_node.specs.declared.node.Node.{Node}
use Rattle.nd_node.specs.NodeKept.{Stands, next_of}
use Rattle.nd_node.specs.Packet.{PacketGoes}
use Rattle.nd_node.specs.Time.{Leads}
use Rattle.nd_node.proofs.Beside.{Beside, Same, beside_neighbour, beside_quiet, beside_sent, beside_then, stands_neighbours}
use Rattle.nd_node.proofs.Turns.{neighbours_before}

-- ---- a neighbour that is evicted

pub pushed_addresses : (at : ℕ) (pushed : Option ℕ) (c : Chronicle) → address_history (with_pushed at pushed c) ≡ address_history c
pushed_addresses at None c = refl
pushed_addresses at (Some key) c = refl

pub pushed_beside : (at : ℕ) (pushed : Option ℕ) (c : Chronicle) → Beside c (with_pushed at pushed c)
pushed_beside at None c = record { parameters = refl; routers = refl; prefixes = refl; servers = refl; names = refl; redirects = refl; assigned = λ k. refl; solicited = refl; router = λ start'. refl; stream = λ start. refl }
pushed_beside at (Some key) c = beside_neighbour at key (rows.Forgot rows.PushedOut) c (λ h. refl) (λ h. refl)

-- nothing is reported of it
pub pushed_items : (at : ℕ) (pushed : Option ℕ) (c : Chronicle) → items (with_pushed at pushed c) ≡ items c
pushed_items at None c = refl
pushed_items at (Some key) c = append-nil (items c)

pub pushed_later : NoneOverdueStill → (at : ℕ) (pushed : Option ℕ) (history : List rows.Row) → NoneOverdue history at → NoneOverdue (pushing at pushed history) at
pushed_later still at None history none = none
pushed_later still at (Some key) history none = still history at key (rows.Forgot rows.PushedOut) none

-- ---- what is reported

-- a row that is reported, and rows that aren't around it
below_silent : {A : Type 0} (t u row : List A) → u ≡ t → (u ++ row) ++ [] ≡ t ++ (row ++ [])
below_silent t u row same = append-nil (u ++ row) ∙ (ap (λ l. l ++ row) same ∙ one t row)

pub above_silent : {A : Type 0} (t u row : List A) → u ≡ t → (u ++ []) ++ row ≡ t ++ (row ++ [])
above_silent t u row same = ap (λ l. l ++ row) (append-nil u ∙ same) ∙ one t row

among_silent : {A : Type 0} (t u row : List A) → u ≡ t → ((u ++ []) ++ row) ++ [] ≡ t ++ (row ++ [])
among_silent t u row same = append-nil ((u ++ []) ++ row) ∙ above_silent t u row same

packet_items : (start : Start) (c placed : Chronicle) (at key retrans : ℕ) (packet : List ℕ) (sending : Sending) → items placed ≡ items c
    → items (then_packet start at key retrans packet sending placed) ≡ items c ++ flat_map items_at (at_moment at (told_of_packet start.mac (link_local start) key sending))
packet_items start c placed at key retrans packet (Sends to sent) same =
    below_silent (items c) (items placed) (items_at (at, Sent (addressed (mac_at to) sent))) same
packet_items start c placed at key retrans packet (Queues true replaced) same =
    among_silent (items c) (items placed) (items_at (at, Sent (resolution_frame start.mac (link_local start) (addr_at key)))) same
packet_items start c placed at key retrans packet (Queues false None) same = append-nil (items placed) ∙ (same ∙ sym (append-nil (items c)))
packet_items start c placed at key retrans packet (Queues false (Some oldest)) same =
    above_silent (items c) (items placed) (items_at (at, Lost Replaced oldest)) same

-- ---- the tables

module _ {R A : Type 0} (stream : R → Stream) (start : Start) (old new : Node R A) (c placed : Chronicle) (now : ℕ) (still : NoneOverdueStill) (table : OverdueByTable)
    (same : Same old new) (is : new.addresses ≡ old.addresses) (s : Stands stream start old c) (at : last_moment start.at c ≡ now)
    (b : Beside c placed) (own : address_history placed ≡ address_history c) (none : NoneOverdue (neighbour_history placed) now)
    (may : MayRemember old.choice new.choice old.neighbours.entries new.neighbours.entries) where
  later : (history : List rows.Row) → neighbours.Stands new.neighbours.entries history → NoneOverdue history now → NoneBefore new.neighbours.entries now
  later history n o = (table new.neighbours.entries history now n).1 o

  packet_stands : (present : Bool) (known : Option ℕ) (room : ℕ) (waiting : List (List ℕ)) (key retrans : ℕ) (packet : List ℕ)
      → neighbours.Stands new.neighbours.entries (sendings.then_packet present known now key retrans start.limits.waiting packet (neighbour_history placed))
      → Stands stream start new (then_packet start now key retrans packet (sending_by present known room waiting packet) placed)
  packet_stands false known room waiting key retrans packet n =
      let asked : Chronicle = (now, Neighbour key (rows.Asked retrans start.limits.waiting)) ∷ placed in
      let frame : List ℕ = resolution_frame start.mac (link_local start) (addr_at key) in
      let sent : Chronicle = (now, Sent frame) ∷ asked in
      let waits : Chronicle = (now, Neighbour key (rows.Waits packet)) ∷ sent in
      let b1 = beside_then c placed asked b (beside_neighbour now key (rows.Asked retrans start.limits.waiting) placed (λ h. refl) (λ h. refl)) in
      let b2 = beside_then c asked sent b1 (beside_sent now frame asked) in
      let b3 = beside_then c sent waits b2 (beside_neighbour now key (rows.Waits packet) sent (λ h. refl) (λ h. refl)) in
      let o = still _ now key (rows.Waits packet) (still _ now key (rows.Asked retrans start.limits.waiting) none) in
      stands_neighbours stream start old new c waits now same b3 s at refl is own n (later _ n o) may
  packet_stands true None room waiting key retrans packet n =
      let waits : Chronicle = (now, Neighbour key (rows.Waits packet)) ∷ placed in
      let oldest : List (List ℕ) = option_to_list (replaced room waiting packet) in
      let lost : Chronicle = losing now Replaced oldest waits in
      let q = losing_is_quiet now Replaced oldest waits (λ a. refl) in
      let b1 = beside_then c placed waits b (beside_neighbour now key (rows.Waits packet) placed (λ h. refl) (λ h. refl)) in
      let b2 = beside_then c waits lost b1 (beside_quiet waits lost q) in
      let n' = subst (λ (h : List rows.Row). neighbours.Stands new.neighbours.entries h) (sym q.neighbours) n in
      let o = subst (λ (h : List rows.Row). NoneOverdue h now) (sym q.neighbours) (still _ now key (rows.Waits packet) none) in
      stands_neighbours stream start old new c lost now same b2 s at (q.last start.at) is (q.addresses ∙ own) n' (later _ n' o) may
  packet_stands true (Some mac) room waiting key retrans packet n =
      let frame : List ℕ = addressed (mac_at mac) packet in
      let sent : Chronicle = (now, Sent frame) ∷ placed in
      let used : Chronicle = (now, Neighbour key (rows.Used retrans)) ∷ sent in
      let b1 = beside_then c placed sent b (beside_sent now frame placed) in
      let b2 = beside_then c sent used b1 (beside_neighbour now key (rows.Used retrans) sent (λ h. refl) (λ h. refl)) in
      stands_neighbours stream start old new c used now same b2 s at refl is own n (later _ n (still _ now key (rows.Used retrans) none)) may

-- ---- the packet

module _ {R A : Type 0} (stream : R → Stream) (old new : Node R A) (x y : List (ℕ × Out A)) (now key retrans room : ℕ) (packet : List ℕ) (still : NoneOverdueStill) (table : OverdueByTable) (one_is_pushed : OneGoes)
    (last : old.last ≡ now) (same : Same old new) (is : new.addresses ≡ old.addresses) (may : MayRemember old.choice new.choice old.neighbours.entries new.neighbours.entries) where
  -- the packet goes, and is reported
  pub packet_leads : retrans ≡ old.params.retrans_timer → room ≡ old.neighbours.waiting
      → GainsPacket old.neighbours.limit now key retrans room packet old.neighbours.entries new.neighbours.entries
      → (mac : Mac) → mac ≡ old.mac → (own : Addr) → own ≡ addr_at (link_local_of old.addresses.mac)
      → (sending : Sending) → ((history : List rows.Row) → neighbours.Stands old.neighbours.entries history → sending ≡ sending_of_story (story key history) packet)
      → happenings y ≡ happenings x ++ at_moment now (told_of_packet mac own key sending)
      → Leads stream old new x y (PacketGoes now key packet)
  packet_leads retrans_is room_is gains mac mac_is own own_is sending sending_is told = record {
    each = λ start c s.
        let at : last_moment start.at c ≡ now = sym s.last ∙ last in
        let not_past : now ≤ next_of old = omega (arith, s.in_time, at) in
        let history : List rows.Row = neighbour_history c in
        let this : rows.Story = story key history in
        let h = gains.stands history s.neighbours in
        let up = one_is_pushed old.neighbours.limit now key true history h.0 h.1 in
        let placed : Chronicle = with_pushed now up.0 c in
        let sent : Sending = sending_of_story this packet in
        let timer : ℕ = retrans_timer c in
        let in_force : retrans ≡ timer = retrans_is ∙ s.params.retrans_timer in
        let made_is : h.0 ≡ neighbour_history placed = up.1 ∙ sym (pushed_history now up.0 c) in
        let n : neighbours.Stands new.neighbours.entries (sendings.then_packet (is_present this) (mac_of this) now key timer start.limits.waiting packet (neighbour_history placed)) =
        subst (λ (r : ℕ). neighbours.Stands new.neighbours.entries (sendings.then_packet (is_present this) (mac_of this) now key timer r packet (neighbour_history placed))) (room_is ∙ s.limits.waiting)
        (subst (λ (r : ℕ). neighbours.Stands new.neighbours.entries (sendings.then_packet (is_present this) (mac_of this) now key r room packet (neighbour_history placed))) in_force
        (subst (λ (made : List rows.Row). neighbours.Stands new.neighbours.entries (sendings.then_packet (is_present this) (mac_of this) now key retrans room packet made)) made_is h.2)) in
        let before : NoneOverdue history now = (table old.neighbours.entries history now s.neighbours).0 (neighbours_before old now not_past) in
        let none : NoneOverdue (neighbour_history placed) now =
        subst (λ (l : List rows.Row). NoneOverdue l now) (sym (pushed_history now up.0 c)) (pushed_later still now up.0 history before) in
        let place : Prepares start.limits.neighbours now true key history (pushing now up.0 history) =
        subst (λ (limit : ℕ). Prepares limit now true key history (pushing now up.0 history)) s.limits.neighbours
        (subst (λ (made : List rows.Row). Prepares old.neighbours.limit now true key history made) up.1 h.1) in
        let mac_is' : mac ≡ start.mac = mac_is ∙ s.mac in
        let own_is' : own ≡ link_local start = own_is ∙ ap (λ (m : Mac). addr_at (link_local_of m)) s.address_mac in (
          then_packet start now key timer packet sent placed,
          record { placed = placed; place = record { pushed = up.0; place = place; with_it = refl }; goes = refl },
          packet_stands stream start old new c placed now still table same is s at (pushed_beside now up.0 c) (pushed_addresses now up.0 c) none may
              (is_present this) (mac_of this) (room_in (resolution_of this)) (waiting_of this) key timer packet n,
          record {
            newer = at_moment now (told_of_packet start.mac (link_local start) key sent);
            told = packet_items start c placed now key timer packet sent (pushed_items now up.0 c);
            outs = told ∙ (ap (λ (m : Mac). happenings x ++ at_moment now (told_of_packet m own key sending)) mac_is'
                ∙ (ap (λ (a : Addr). happenings x ++ at_moment now (told_of_packet start.mac a key sending)) own_is'
                ∙ ap (λ (w : Sending). happenings x ++ at_moment now (told_of_packet start.mac (link_local start) key w)) (sending_is history s.neighbours)));
          },
        );
  }
