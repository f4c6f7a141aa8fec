-- The wish for a neighbour's link-layer address, the path of a destination, and the chronicle that a node stands for.
use Rattle.std.proofs.Common.{Ok, Err, ◌≡◌, ℕ, ◌<◌, ◌≤◌, Bool, true, false, List, [], ◌∷◌, ◌++◌, append-nil, append_assoc, Option, Some, None, refl, sym, ◌∙◌, ap, subst, arith}
use Rattle.std.specs.Prelude.{IfOk, MatchBool, Result}
use Rattle.std.specs.List.{flat_map}
use Rattle.rand_core.specs.Stream.{Stream}
use Rattle.nd_addr.specs.declared.addr.Addr.{Addr}
use Rattle.nd_addr.specs.declared.mac.Mac.{Mac}
use Rattle.nd_addr.specs.Kind.{multicast_prefix}
use Rattle.nd_addr.specs.Number.{addr_at, holds, number_of}
use Rattle.nd_compose.specs.Frames.{multicast_mac, resolution_frame}
use Rattle.nd_neighbour.specs.History as rows
use Rattle.nd_neighbour.specs.History.{story}
use Rattle.nd_neighbour.specs.Story.{is_present, mac_of}
use Rattle.nd_neighbour.specs.TableKept as neighbours
use Rattle.nd_neighbour.specs.Due.{NoneOverdue}
use Rattle.nd_neighbour.specs.DueKept.{NoneBefore}
use Rattle.nd_neighbour.specs.Place.{Prepares, WouldBeFull, pushing}
use Rattle.nd_neighbour.specs.RoomKept.{has_room}
use Rattle.nd_neighbour.specs.Wanting as wishes
use Rattle.nd_neighbour.specs.Wanting.{Awaits, IsKnown, Wanting, mac_in, wanting_by}
use Rattle.nd_neighbour.specs.WantingKept.{GainsWish}
use Rattle.nd_nexthop.specs.NextHop.{NextHop, direct, no_route, via}
use Rattle.nd_slaac.specs.PrefixOption.{link_local_of}
use Rattle.nd_chronicle.specs.Answer as answers
use Rattle.nd_chronicle.specs.Answer.{answer_after}
use Rattle.nd_chronicle.specs.Event as events
use Rattle.nd_chronicle.specs.Start.{Start, link_local}
use Rattle.nd_chronicle.specs.Happening.{Chronicle, Full, Happening, Neighbour, Neighbours, NoWay, Passed, Path, Refusal, Refused, Sent, Way, WayTo, last_moment}
use Rattle.nd_chronicle.specs.Histories.{address_history, neighbour_history}
use Rattle.nd_chronicle.specs.InForce.{retrans_timer}
use Rattle.nd_chronicle.specs.NextHop.{IsHopOf}
use Rattle.nd_chronicle.specs.OwnAddress.{refusal_unless_up}
use Rattle.nd_chronicle.specs.Packet.{with_pushed}
use Rattle.nd_chronicle.specs.Refused.{UnlessRefused}
use Rattle.nd_chronicle.specs.Resolve.{PathAdds, Wants, WantsIfPlaced, then_wanted}
use Rattle.nd_chronicle.specs.Told.{items_at, items}
use Rattle.nd_out.specs.declared.out.Out.{Out}
use Rattle.nd_out.specs.Out.{happening, refusal_of, way_of}
use Rattle.nd_steps.specs.DestinationCache.{MayRemember}
use Rattle.nd_steps.specs.NeighbourCache.{told_of_wish}
use Rattle.nd_steps.specs.Outputs.{Tells, at_moment, happenings}
use Rattle.nd_steps.proofs.Saying.{NoneOverdueStill, OneGoes, OverdueByTable, pushed_history}
use Rattle.nd_steps.proofs.Telling.{Tells-then, one_told}
use Rattle.std.proofs.lemmas.List.{map-append}
use Rattle.nd_node.specs.declared.node.Node.{Node}
use Rattle.nd_node.specs.EventKept.{AddsEvent}
use Rattle.nd_node.specs.Frame.{AddsAlone}
use Rattle.nd_node.specs.Hearing.{Keeps}
use Rattle.nd_node.specs.NodeKept.{Stands, next_of}
use Rattle.nd_node.specs.declared.resolve.Resolution.{Resolution}
use Rattle.nd_node.specs.declared.resolve.Resolution.TheVariants as resolutions
use Rattle.nd_node.specs.Resolve.{AddsPath, AddsWish, WishTold, answer_row, with_answer}
use Rattle.nd_node.specs.Time.{Leads}
use Rattle.nd_node.proofs.Asking.{FullByHistory, RoomIsPlace, has_place_for, would_be_full}
use Rattle.nd_node.proofs.Beside.{Beside, Same, beside_neighbour, beside_quiet, beside_sent, beside_then, stands_neighbours}
use Rattle.nd_node.proofs.Judging.{IsQuiet, alone, stays_keeps}
use Rattle.nd_node.proofs.OutgoingPackets.{hop_later}
use Rattle.nd_node.proofs.Packets.{above_silent, pushed_addresses, pushed_beside, pushed_items, pushed_later}
use Rattle.nd_node.proofs.Quiet.{refused_is_quiet}
use Rattle.nd_node.proofs.Steps.{passed}
use Rattle.nd_node.proofs.Turns.{neighbours_before}

-- a path that is reported concerns no table
pub path_is_quiet : (now : ℕ) (destination : Addr) (way : Way) → IsQuiet now (Path destination way)
path_is_quiet now destination way c is = record {
  parameters = refl;
  neighbours = refl;
  routers = refl;
  prefixes = refl;
  addresses = refl;
  servers = refl;
  names = refl;
  redirects = refl;
  solicited = refl;
  router = λ start. refl;
  stream = λ start. refl;
  last = λ start. sym (is start);
}

-- ---- what is reported

-- two rows that are reported, and rows that aren't around the first
two_told : {A : Type 0} (t u a b : List A) → u ≡ t → (((u ++ []) ++ a) ++ []) ++ b ≡ t ++ (a ++ (b ++ []))
two_told t u a b same =
    ap (λ l. l ++ b) (append-nil ((u ++ []) ++ a) ∙ ap (λ l. l ++ a) (append-nil u ∙ same))
    ∙ (append_assoc t a b ∙ ap (λ l. t ++ (a ++ l)) (sym (append-nil b)))

-- the rows that tell of it: the solicitation, and the path behind it
abbrev pub wish_rows : Mac → Addr → Addr → ℕ → Wanting → List Happening
wish_rows mac own destination key want = told_of_wish mac own key want ++ Path destination (WayTo key (mac_in want)) ∷ []

-- the wish, and the path behind it
abbrev told_behind : Start → Addr → ℕ → ℕ → ℕ → Wanting → Chronicle → Chronicle
told_behind start destination at key retrans want c = (at, Path destination (WayTo key (mac_in want))) ∷ then_wanted start at key retrans want c

wish_items : (start : Start) (destination : Addr) (c placed : Chronicle) (at key retrans : ℕ) (want : Wanting) → items placed ≡ items c
    → items (told_behind start destination at key retrans want placed) ≡ items c ++ flat_map items_at (at_moment at (wish_rows start.mac (link_local start) destination key want))
wish_items start destination c placed at key retrans (IsKnown mac) same = above_silent (items c) (items placed) (items_at (at, Path destination (WayTo key (Some mac)))) same
wish_items start destination c placed at key retrans (Awaits true) same =
    two_told (items c) (items placed) (items_at (at, Sent (resolution_frame start.mac (link_local start) (addr_at key)))) (items_at (at, Path destination (WayTo key None))) same
wish_items start destination c placed at key retrans (Awaits false) same = above_silent (items c) (items placed) (items_at (at, Path destination (WayTo key None))) same

-- ---- the tables

module _ {R A : Type 0} (stream : R → Stream) (start : Start) (destination : Addr) (old new : Node R A) (c placed : Chronicle) (now : ℕ) (still : NoneOverdueStill) (table : OverdueByTable)
    (same : Same old new) (is : new.addresses ≡ old.addresses) (s : Stands stream start old c) (at : last_moment start.at c ≡ now)
    (b : Beside c placed) (own : address_history placed ≡ address_history c) (none : NoneOverdue (neighbour_history placed) now)
    (may : MayRemember old.choice new.choice old.neighbours.entries new.neighbours.entries) where
  later : (history : List rows.Row) → neighbours.Stands new.neighbours.entries history → NoneOverdue history now → NoneBefore new.neighbours.entries now
  later history n o = (table new.neighbours.entries history now n).1 o

  -- with the path on top
  path_beside : (d : Chronicle) (way : Way) → last_moment start.at d ≡ now → ((a : ℕ) → last_moment a d ≡ now) → Beside c d → Beside c ((now, Path destination way) ∷ d)
  path_beside d way last at_now b' = beside_then c d ((now, Path destination way) ∷ d) b' (beside_quiet d ((now, Path destination way) ∷ d) (path_is_quiet now destination way d at_now))

  wish_stands : (present : Bool) (known : Option ℕ) (key retrans : ℕ)
      → neighbours.Stands new.neighbours.entries (wishes.then_wanted present known now key retrans start.limits.waiting (neighbour_history placed))
      → Stands stream start new (told_behind start destination now key retrans (wanting_by present known) placed)
  wish_stands false known key retrans n =
      let asked : Chronicle = (now, Neighbour key (rows.Asked retrans start.limits.waiting)) ∷ placed in
      let frame : List ℕ = resolution_frame start.mac (link_local start) (addr_at key) in
      let sent : Chronicle = (now, Sent frame) ∷ asked in
      let wanted : Chronicle = (now, Neighbour key rows.Wanted) ∷ sent in
      let b1 = beside_then c placed asked b (beside_neighbour now key (rows.Asked retrans start.limits.waiting) placed (λ h. refl) (λ h. refl)) in
      let b2 = beside_then c asked sent b1 (beside_sent now frame asked) in
      let b3 = beside_then c sent wanted b2 (beside_neighbour now key rows.Wanted sent (λ h. refl) (λ h. refl)) in
      let b4 = path_beside wanted (WayTo key None) refl (λ a. refl) b3 in
      let o = still _ now key rows.Wanted (still _ now key (rows.Asked retrans start.limits.waiting) none) in
      stands_neighbours stream start old new c ((now, Path destination (WayTo key None)) ∷ wanted) now same b4 s at refl is own n (later _ n o) may
  wish_stands true None key retrans n =
      let wanted : Chronicle = (now, Neighbour key rows.Wanted) ∷ placed in
      let b1 = beside_then c placed wanted b (beside_neighbour now key rows.Wanted placed (λ h. refl) (λ h. refl)) in
      let b2 = path_beside wanted (WayTo key None) refl (λ a. refl) b1 in
      stands_neighbours stream start old new c ((now, Path destination (WayTo key None)) ∷ wanted) now same b2 s at refl is own n (later _ n (still _ now key rows.Wanted none)) may
  wish_stands true (Some mac) key retrans n =
      let used : Chronicle = (now, Neighbour key (rows.Used retrans)) ∷ placed in
      let b1 = beside_then c placed used b (beside_neighbour now key (rows.Used retrans) placed (λ h. refl) (λ h. refl)) in
      let b2 = path_beside used (WayTo key (Some mac)) refl (λ a. refl) b1 in
      stands_neighbours stream start old new c ((now, Path destination (WayTo key (Some mac))) ∷ used) now same b2 s at refl is own n (later _ n (still _ now key (rows.Used retrans) none)) may

-- ---- the wish

module _ {R A : Type 0} (stream : R → Stream) (old new : Node R A) (x y : List (ℕ × Out A)) (now : ℕ) (destination : Addr) (key retrans room : ℕ) (still : NoneOverdueStill) (table : OverdueByTable) (one_is_pushed : OneGoes)
    (last : old.last ≡ now) (same : Same old new) (is : new.addresses ≡ old.addresses) (may : MayRemember old.choice new.choice old.neighbours.entries new.neighbours.entries) where
  -- the neighbour is wanted, and the path is reported
  pub wish_leads : retrans ≡ old.params.retrans_timer → room ≡ old.neighbours.waiting
      → GainsWish old.neighbours.limit now key retrans room old.neighbours.entries new.neighbours.entries
      → (mac : Mac) → mac ≡ old.mac → (own : Addr) → own ≡ addr_at (link_local_of old.addresses.mac)
      → (want : Wanting) → ((history : List rows.Row) → neighbours.Stands old.neighbours.entries history → want ≡ wanting_by (is_present (story key history)) (mac_of (story key history)))
      → happenings y ≡ happenings x ++ at_moment now (wish_rows mac own destination key want)
      → Leads stream old new x y (WishTold now destination key)
  wish_leads retrans_is room_is gains mac mac_is own own_is want want_is told = record {
    each = λ start c s.
        let at : last_moment start.at c ≡ now = sym s.last ∙ last in
        let not_past : now ≤ next_of old = omega (arith, s.in_time, at) in
        let history : List rows.Row = neighbour_history c in
        let this : rows.Story = story key history in
        let h = gains.stands history s.neighbours in
        let up = one_is_pushed old.neighbours.limit now key true history h.0 h.1 in
        let placed : Chronicle = with_pushed now up.0 c in
        let wanting : Wanting = wanting_by (is_present this) (mac_of this) in
        let timer : ℕ = retrans_timer c in
        let in_force : retrans ≡ timer = retrans_is ∙ s.params.retrans_timer in
        let made_is : h.0 ≡ neighbour_history placed = up.1 ∙ sym (pushed_history now up.0 c) in
        let n : neighbours.Stands new.neighbours.entries (wishes.then_wanted (is_present this) (mac_of this) now key timer start.limits.waiting (neighbour_history placed)) =
        subst (λ (r : ℕ). neighbours.Stands new.neighbours.entries (wishes.then_wanted (is_present this) (mac_of this) now key timer r (neighbour_history placed))) (room_is ∙ s.limits.waiting)
        (subst (λ (r : ℕ). neighbours.Stands new.neighbours.entries (wishes.then_wanted (is_present this) (mac_of this) now key r room (neighbour_history placed))) in_force
        (subst (λ (made : List rows.Row). neighbours.Stands new.neighbours.entries (wishes.then_wanted (is_present this) (mac_of this) now key retrans room made)) made_is h.2)) in
        let before : NoneOverdue history now = (table old.neighbours.entries history now s.neighbours).0 (neighbours_before old now not_past) in
        let none : NoneOverdue (neighbour_history placed) now =
        subst (λ (l : List rows.Row). NoneOverdue l now) (sym (pushed_history now up.0 c)) (pushed_later still now up.0 history before) in
        let place : Prepares start.limits.neighbours now true key history (pushing now up.0 history) =
        subst (λ (limit : ℕ). Prepares limit now true key history (pushing now up.0 history)) s.limits.neighbours
        (subst (λ (made : List rows.Row). Prepares old.neighbours.limit now true key history made) up.1 h.1) in
        let mac_is' : mac ≡ start.mac = mac_is ∙ s.mac in
        let own_is' : own ≡ link_local start = own_is ∙ ap (λ (m : Mac). addr_at (link_local_of m)) s.address_mac in (
          told_behind start destination now key timer wanting placed,
          record { placed = placed; place = record { pushed = up.0; place = place; with_it = refl }; wants = refl },
          wish_stands stream start destination old new c placed now still table same is s at (pushed_beside now up.0 c) (pushed_addresses now up.0 c) none may (is_present this) (mac_of this) key timer n,
          record {
            newer = at_moment now (wish_rows start.mac (link_local start) destination key wanting);
            told = wish_items start destination c placed now key timer wanting (pushed_items now up.0 c);
            outs = told ∙ (ap (λ (m : Mac). happenings x ++ at_moment now (wish_rows m own destination key want)) mac_is'
                ∙ (ap (λ (a : Addr). happenings x ++ at_moment now (wish_rows start.mac a destination key want)) own_is'
                ∙ ap (λ (w : Wanting). happenings x ++ at_moment now (wish_rows start.mac (link_local start) destination key w)) (want_is history s.neighbours)));
          },
        );
  }

-- the answer is reported behind what the wish reports
pub answered_behind : {A : Type 0} (x y : List (ℕ × Out A)) (now : ℕ) (mac : Mac) (own destination : Addr) (key : ℕ) (want : Wanting) (out : Out A) → happening out ≡ Path destination (WayTo key (mac_in want))
    → happenings y ≡ happenings x ++ at_moment now (told_of_wish mac own key want) → happenings (y ++ (now, out) ∷ []) ≡ happenings x ++ at_moment now (wish_rows mac own destination key want)
answered_behind x y now mac own destination key want out is told =
    one_told y (y ++ (now, out) ∷ []) now out (Path destination (WayTo key (mac_in want))) refl is
    ∙ (ap (λ l. l ++ (now, Path destination (WayTo key (mac_in want))) ∷ []) told
    ∙ (append_assoc (happenings x) (at_moment now (told_of_wish mac own key want)) ((now, Path destination (WayTo key (mac_in want))) ∷ [])
    ∙ ap (λ l. happenings x ++ l) (sym (map-append (λ h. (now, h)) (told_of_wish mac own key want) (Path destination (WayTo key (mac_in want)) ∷ [])))))

-- a wish that was taken is done
wish_done : (start : Start) (destination : Addr) (c : Chronicle) (at key : ℕ) (d : Chronicle) → Wants start destination c at key d → answer_after d false ≡ answers.Done
wish_done start destination c at key d w = ap (λ (e : Chronicle). answer_after e false) w.wants

-- ---- an answer that is all that is added

-- what is answered, and what is known of it
pub answered_with : {E : Type 0} (r : Result Resolution E) (resolution : Resolution) (P S : Resolution → Type 0) → (P resolution → S resolution) → IfOk r P → IfOk r (λ a. a ≡ resolution) → IfOk r S
answered_with (Ok a) resolution P S f p is = subst S (sym is) (f (subst P is p))
answered_with (Err e) resolution P S f p is = tt

pub answer_alone : {R A : Type 0} (stream : R → Stream) (old new : Node R A) (x y : List (ℕ × Out A)) (now : ℕ) (destination : Addr) (resolution : Resolution) → now < next_of old → new ≡ record old { last = now } → y ≡ x
    → AddsAlone stream old new x (with_answer y now destination resolution) now (answer_row destination resolution)
answer_alone stream old new x y now destination (resolutions.Path way) settled is same =
    alone stream old new x (with_answer y now destination (resolutions.Path way)) now _ settled is (ap (λ l. with_answer l now destination (resolutions.Path way)) same) (Path destination (way_of way)) (path_is_quiet now destination (way_of way)) refl
answer_alone stream old new x y now destination (resolutions.Refused refusal) settled is same =
    alone stream old new x (with_answer y now destination (resolutions.Refused refusal)) now _ settled is (ap (λ l. with_answer l now destination (resolutions.Refused refusal)) same) (Refused (refusal_of refusal)) (refused_is_quiet now (refusal_of refusal)) refl

-- ---- of a neighbour

module _ {R A : Type 0} (stream : R → Stream) (old new : Node R A) (x y : List (ℕ × Out A)) (now : ℕ) (destination : Addr) (key : ℕ) (settled : now < next_of old) where
  -- it has no room
  pub wish_refused_full : FullByHistory → has_room old.neighbours.limit now key None old.neighbours.entries ≡ false → AddsAlone stream old new x y now (Refused (Full Neighbours))
      → AddsWish stream old new x y now destination key (answers.Refused (Full Neighbours))
  wish_refused_full law room adds = record {
    each = λ start c s le.
        let a = adds.each start c s le in
        let would : WouldBeFull start.limits.neighbours now key (neighbour_history c) = would_be_full stream start old c now key law s room in (
          (now, Refused (Full Neighbours)) ∷ (now, Passed) ∷ c,
          (false, (refl, would), refl),
          a.0,
          a.1,
          refl,
        );
  }

  -- it has room
  pub wish_taken : (mid : Node R A) (room : List (ℕ × Out A)) → Keeps (record old { last = now }) mid → room ≡ x → RoomIsPlace → FullByHistory
      → has_room old.neighbours.limit now key None old.neighbours.entries ≡ true → Leads stream mid new room y (WishTold now destination key)
      → AddsWish stream old new x y now destination key answers.Done
  wish_taken mid room keeps same room_is_place full_by_history has takes = record {
    each = λ start c s le.
        let later : Chronicle = (now, Passed) ∷ c in
        let base : Node R A = record old { last = now } in
        let kept = stays_keeps stream base mid keeps in
        let g = takes.each start later (kept.each start later (passed stream start old base c now s le settled refl)) in
        let nothing : Tells c later x room = record { newer = []; told = refl; outs = ap happenings same ∙ sym (append-nil _) } in (
          g.0,
          (true, has_place_for stream start old c now key room_is_place full_by_history s has, g.1),
          g.2,
          Tells-then c later g.0 x room y nothing g.3,
          sym (wish_done start destination later now key g.0 g.1),
        );
  }

-- ---- by the next hop

module _ {R A : Type 0} (stream : R → Stream) (old new : Node R A) (x y : List (ℕ × Out A)) (now : ℕ) (destination : Addr) where
  -- there is none
  pub path_of_none : AddsAlone stream old new x y now (Path destination NoWay) → AddsPath stream old new x y now no_route destination answers.Done
  path_of_none adds = record {
    each = λ start c s le. let a = adds.each start c s le in ((now, Path destination NoWay) ∷ (now, Passed) ∷ c, refl, a.0, a.1, refl);
  }

  -- the destination is multicast
  pub path_to_all : (key mac : ℕ) → key ≡ number_of destination.0 → mac ≡ number_of (multicast_mac destination).0 → holds multicast_prefix destination.0 ≡ true
      → AddsAlone stream old new x y now (Path destination (WayTo key (Some mac))) → AddsPath stream old new x y now direct destination answers.Done
  path_to_all key mac key_is mac_is multicast adds = record {
    each = λ start c s le.
        let a = adds.each start c s le in
        let later : Chronicle = (now, Passed) ∷ c in
        let d : Chronicle = (now, Path destination (WayTo key (Some mac))) ∷ later in
        let told : d ≡ (now, Path destination (WayTo (number_of destination.0) (Some (number_of (multicast_mac destination).0)))) ∷ later =
        ap (λ (k : ℕ). (now, Path destination (WayTo k (Some mac))) ∷ later) key_is ∙ ap (λ (m : ℕ). (now, Path destination (WayTo (number_of destination.0) (Some m))) ∷ later) mac_is in (
          d,
          subst (λ (b : Bool). MatchBool b
              (d ≡ (now, Path destination (WayTo (number_of destination.0) (Some (number_of (multicast_mac destination).0)))) ∷ later)
              (WantsIfPlaced start now destination (number_of destination.0) later d))
              (sym multicast) told,
          a.0,
          a.1,
          refl,
        );
  }

  -- it isn't
  pub path_to_one : {answer : answers.Answer} → holds multicast_prefix destination.0 ≡ false → AddsWish stream old new x y now destination (number_of destination.0) answer
      → AddsPath stream old new x y now direct destination answer
  path_to_one single adds = record {
    each = λ start c s le.
        let a = adds.each start c s le in
        let later : Chronicle = (now, Passed) ∷ c in
        let d : Chronicle = a.0 in (
          d,
          subst (λ (b : Bool). MatchBool b
              (d ≡ (now, Path destination (WayTo (number_of destination.0) (Some (number_of (multicast_mac destination).0)))) ∷ later)
              (WantsIfPlaced start now destination (number_of destination.0) later d))
              (sym single) a.1,
          a.2,
          a.3,
          a.4,
        );
  }

  -- it goes by a router
  pub path_by_router : (key : ℕ) {answer : answers.Answer} → AddsWish stream old new x y now destination key answer → AddsPath stream old new x y now (via key) destination answer
  path_by_router key adds = record { each = adds.each }

  -- ---- the event

  -- it is refused
  pub not_resolved : (refusal : Refusal) → ((start : Start) (c : Chronicle) → Stands stream start old c → Some refusal ≡ refusal_unless_up start c)
      → AddsAlone stream old new x y now (Refused refusal) → AddsEvent stream old new x y now (events.Resolves destination) (answers.Refused refusal)
  not_resolved refusal says adds = record {
    each = λ start c s le.
        let a = adds.each start c s le in
        let later : Chronicle = (now, Passed) ∷ c in
        let d : Chronicle = (now, Refused refusal) ∷ later in (
          d,
          subst (λ (o : Option Refusal). UnlessRefused now o (λ e. (next : NextHop) × IsHopOf start start.role later now destination next × PathAdds start now next destination later e) later d) (says start c s) refl,
          a.0,
          a.1,
          refl,
        );
  }

  -- it is answered by the next hop
  pub resolved : (mid : Node R A) (hop : NextHop) {answer : answers.Answer} → ((start : Start) (c : Chronicle) → Stands stream start old c → None ≡ refusal_unless_up start c)
      → ((start : Start) (c : Chronicle) → Stands stream start old c → Stands stream start mid c)
      → ((start : Start) (c : Chronicle) → Stands stream start old c → last_moment start.at c ≤ now → IsHopOf start start.role c now destination hop)
      → AddsPath stream mid new x y now hop destination answer → AddsEvent stream old new x y now (events.Resolves destination) answer
  resolved mid hop {answer} says stands next adds = record {
    each = λ start c s le.
        let a = adds.each start c (stands start c s) le in
        let later : Chronicle = (now, Passed) ∷ c in
        let d : Chronicle = a.0 in (
          d,
          subst (λ (o : Option Refusal). UnlessRefused now o (λ e. (next' : NextHop) × IsHopOf start start.role later now destination next' × PathAdds start now next' destination later e) later d) (says start c s)
              (hop, hop_later start start.role c now destination hop (next start c s le), a.1),
          a.2,
          a.3,
          a.4,
        );
  }
