-- A node in a lease: a question where packets go changes nothing.
use Rattle.std.proofs.Common.{◌≡◌, ◌<◌, ◌≤◌, ◌+◌, ℕ, Bool, true, false, List, append-nil, Option, Some, None, refl, sym, ◌∙◌, ap, subst, arith, inl, inr}
use Rattle.std.specs.Prelude.{◌&&◌, not}
use Rattle.std.specs.Option.{option_map}
use Rattle.std.proofs.lemmas.Bool.{cases_Bool, cond-false, cond-true}
use Rattle.rand_core.specs.Stream.{Stream}
use Rattle.nd_addr.specs.declared.addr.Addr.{Addr}
use Rattle.nd_addr.specs.declared.mac.Mac.{Mac}
use Rattle.nd_addr.specs.declared.role.Role.{Role}
use Rattle.nd_addr.specs.declared.role.Role.TheVariants.{Host, Router}
use Rattle.nd_addr.specs.Kind.{multicast_prefix}
use Rattle.nd_addr.specs.Number.{addr_at, holds, number_of}
use Rattle.nd_compose.specs.Frames.{multicast_mac}
use Rattle.nd_table.specs.Listing.{open_at}
use Rattle.nd_neighbour.specs.EntryKept.{NeighbourEntry, known_mac}
use Rattle.nd_neighbour.specs.Shown.{Seen, is_leased}
use Rattle.nd_neighbour.specs.ShownKept.{left_in, seen, state_in}
use Rattle.nd_neighbour.specs.TableKept.{entry_in}
use Rattle.nd_neighbour.specs.RoomKept.{has_room}
use Rattle.nd_neighbour.specs.Wanting.{IsKnown}
use Rattle.nd_neighbour.proofs.Leases.{leased_wish, wish_known}
use Rattle.nd_neighbour.proofs.Overdue.{by_table, still_none, to_table}
use Rattle.nd_neighbour.proofs.Pushing.{pushed_out}
use Rattle.nd_neighbour.proofs.Second.{room_has_place}
use Rattle.nd_neighbour.proofs.Unique.{full_by_history}
use Rattle.nd_neighbour.proofs.Dues as neighbour_dues
use Rattle.nd_slaac.specs.declared.destination.Counted.TheVariants.{Assigned}
use Rattle.nd_slaac.specs.Destination.{counted_in}
use Rattle.nd_slaac.specs.History.{Story}
use Rattle.nd_slaac.specs.PrefixOption.{link_local_of}
use Rattle.nd_slaac.specs.State as states
use Rattle.nd_slaac.specs.TableKept.{address_in}
use Rattle.nd_slaac.proofs.Destinations.{counted_by_history}
use Rattle.nd_slaac.proofs.Dues as address_dues
use Rattle.nd_routers.proofs.Dues as router_dues
use Rattle.nd_nexthop.specs.NextHop.{NextHop, direct, no_route, via}
use Rattle.nd_nexthop.proofs.Recalled.{by_history_of}
use Rattle.nd_chronicle.specs.Answer as answers
use Rattle.nd_chronicle.specs.Event as events
use Rattle.nd_chronicle.specs.Start.{Start, link_local_key}
use Rattle.nd_chronicle.specs.Happening.{Chronicle, Disabled, Tentative, last_moment}
use Rattle.nd_chronicle.specs.Histories.{address_history, neighbour_history, redirect_history, router_history}
use Rattle.nd_chronicle.specs.NextHop.{IsHopOf}
use Rattle.nd_chronicle.specs.OwnAddress.{is_up, refusal_unless_up, story_of}
use Rattle.nd_out.specs.declared.out.Out.{Out}
use Rattle.nd_out.specs.declared.out.Out.TheVariants as reports
use Rattle.nd_out.specs.declared.out.Way.TheVariants as ways
use Rattle.nd_steps.specs.DestinationCache.{Keeps, linked_by, own_in}
use Rattle.nd_steps.specs.NextHop.{candidates_in}
use Rattle.nd_steps.specs.Outputs.{happenings}
use Rattle.nd_node.specs.declared.node.Node.{Node}
use Rattle.nd_node.specs.declared.resolve.Resolution.TheVariants as resolutions
use Rattle.nd_node.specs.EventKept.{AddsEvent}
use Rattle.nd_node.specs.Moments.{earlier}
use Rattle.nd_node.specs.Node.{NextDue}
use Rattle.nd_node.specs.NodeKept.{Stands, next_of}
use Rattle.nd_node.specs.Path.{IsPath, Lasts, PathSeen, first_end, lease, path_by, path_to_all}
use Rattle.nd_node.specs.PathKept.{InLease, hop_kept, path_by_hop, path_kept, towards, up_kept}
use Rattle.nd_node.specs.Resolve.{AddsPath, AddsWish, WishTold, with_answer}
use Rattle.nd_node.specs.Time.{Leads}
use Rattle.nd_node.proofs.Lasting.{kept_goes_on}
use Rattle.nd_node.proofs.Moments.{before_second}
use Rattle.nd_node.proofs.NextHops.{hop_of_host, hop_of_router, next_hop_is}
use Rattle.nd_node.proofs.Paths.{next_of_path, path_by_router, path_of_all, path_of_none, path_to_one}
use Rattle.nd_node.proofs.Turns.{next_due_at}
use Rattle.nd_node.proofs.Wishes as wishes
use Rattle.nd_node.proofs.Wishes.{answer_alone, answered_behind, resolved, wish_leads, wish_taken}

-- ---- by the chronicle

-- an assigned address is no duplicate
assigned_is_none : (s : Story) → states.is_assigned s ≡ true → states.is_duplicate s ≡ false
assigned_is_none s = by (states.is_known s) (states.has_conflict s) (states.was_assigned s)
  where
    by : (k c a : Bool) → (k && not c && a) ≡ true → (k && c) ≡ false
    by true true a h = absurd (let never : false ≡ true = h in cc)
    by true false a h = refl
    by false c a h = refl

module _ {R A : Type 0} (stream : R → Stream) (start : Start) (node : Node R A) (c : Chronicle) (s : Stands stream start node c) where
  up_is : up_kept node ≡ is_up start c
  up_is =
      ap (λ (k : ℕ). counted_in Assigned (address_in k node.addresses.addresses)) (ap (λ (m : Mac). link_local_of m) s.address_mac)
      ∙ counted_by_history Assigned (link_local_key start) node.addresses.addresses (address_history c) s.addresses

  -- a node whose link-local address is assigned refuses nothing
  up_refuses_none : up_kept node ≡ true → None ≡ refusal_unless_up start c
  up_refuses_none up =
      let assigned : is_up start c ≡ true = sym up_is ∙ up in
      sym (cond-false (states.is_duplicate (story_of c (link_local_key start))) (Some Disabled) _ (assigned_is_none (story_of c (link_local_key start)) assigned)
      ∙ cond-true (is_up start c) None (Some Tentative) assigned)

  pub due_is : NextDue start c (next_of node)
  due_is =
      next_due_at stream start node c s _ _ _ refl refl refl (router_dues.next_is_due node.routers.entries (router_history c) s.routers.routers _ refl)
      (address_dues.next_is_due node.addresses.transmits node.addresses.addresses (address_history c) s.addresses _ refl)
      (neighbour_dues.next_is_due node.neighbours.entries (neighbour_history c) s.neighbours _ refl) (next_of node) refl

  module _ (now : ℕ) (destination : Addr) (le : last_moment start.at c ≤ now) (settled : now < next_of node) where
    -- the next hop by the tables is that of the chronicle
    by_role : (role : Role) → node.role ≡ role → IsHopOf start start.role c now destination (hop_kept role node now destination)
    by_role Host is =
        hop_of_host start node.role s.role is c now destination (hop_kept Host node now destination)
        (next_hop_is stream start node c now s le settled destination (hop_kept Host node now destination)
        (by_history_of (own_in node.addresses.addresses) (linked_by (open_at now node.prefixes.entries)) (candidates_in node.neighbours.entries node.routers) node.choice destination (hop_kept Host node now destination) refl (redirect_history c) s.redirects))
    by_role Router is =
        hop_of_router stream start node c now s is destination (own_in node.addresses.addresses destination.0) (hop_kept Router node now destination) refl
        (λ own own_is history r. rw (own_is, r.entries_are) refl)

    pub kept_hop : IsHopOf start start.role c now destination (hop_kept node.role node now destination)
    kept_hop = by_role node.role refl

    -- and so is the path
    by_next : (next : NextHop) → hop_kept node.role node now destination ≡ next → (p : PathSeen)
        → p ≡ path_by_hop (up_kept node) now (next_of node) (first_end node.role (open_at now node.prefixes.entries)) node.neighbours.entries destination next → IsPath start c now destination p
    by_next no_route goes p is =
        subst (λ (q : PathSeen). IsPath start c now destination q) (sym is) (path_of_none stream start node c now (next_of node) destination s le due_is (subst (λ (h : NextHop). IsHopOf start start.role c now destination h) goes kept_hop))
    by_next (via key) goes p is =
        path_by_router stream start node c now (next_of node) destination s le due_is p (up_kept node) up_is key (subst (λ (h : NextHop). IsHopOf start start.role c now destination h) goes kept_hop) is
    by_next direct goes p is = elim (cases_Bool (holds multicast_prefix destination.0)) [
      | inl multicast ↦ path_of_all stream start node c now (next_of node) destination s le due_is p (up_kept node) up_is multicast
          (subst (λ (h : NextHop). IsHopOf start start.role c now destination h) goes kept_hop) (is ∙ cond-true (holds multicast_prefix destination.0) _ _ multicast)
      | inr single ↦ path_to_one stream start node c now (next_of node) destination s le due_is p (up_kept node) up_is single
          (subst (λ (h : NextHop). IsHopOf start start.role c now destination h) goes kept_hop) (is ∙ cond-false (holds multicast_prefix destination.0) _ _ single)
    ]

    pub kept_is_path : IsPath start c now destination (path_kept node now destination)
    kept_is_path = by_next (hop_kept node.role node now destination) refl (path_kept node now destination) refl

-- ---- the answer

module _ {R A : Type 0} (stream : R → Stream) (old : Node R A) (x : List (ℕ × Out A)) (now : ℕ) (destination to : Addr) (mac : Mac) where
  abbrev later : Node R A
  later = record old { last = now }

  abbrev told : List (ℕ × Out A)
  told = with_answer x now destination (resolutions.Path (ways.To to (Some mac)))

  abbrev Answers : Type 0
  Answers = AddsEvent stream old later x told now (events.Resolves destination) answers.Done

  -- by a next hop, where the link-local address is assigned
  by_path : now < next_of old → up_kept old ≡ true → AddsPath stream old later x told now (hop_kept old.role old now destination) destination answers.Done → Answers
  by_path settled up adds =
      resolved stream old later x told now destination old (hop_kept old.role old now destination) (λ start c s. up_refuses_none stream start old c s up) (λ start c s. s)
      (λ start c s le. kept_hop stream start old c s now destination le settled) adds

  -- of a neighbour
  wished : (n : NeighbourEntry) → now < next_of old → entry_in (number_of to.0) old.neighbours.entries ≡ Some n → is_leased (state_in n.stage now) ≡ true → known_mac n.stage ≡ Some (number_of mac.0)
      → AddsWish stream old later x told now destination (number_of to.0) answers.Done
  wished n settled found leased known =
      let entries = old.neighbours.entries in
      let key = number_of to.0 in
      let leads : Leads stream (record old { last = now }) (record old { last = now }) x (with_answer x now destination (resolutions.Path (ways.To to (Some mac)))) (WishTold now destination key) =
      wish_leads stream (record old { last = now }) (record old { last = now }) x (with_answer x now destination (resolutions.Path (ways.To to (Some mac)))) now destination key old.params.retrans_timer old.neighbours.waiting
      still_none (λ es h m st. (by_table es h st m, to_table es h st m)) pushed_out refl
      (record { role = refl; mac = refl; chosen = refl; policies = refl; generator = refl; last = refl; params = refl; routers = refl; prefixes = refl; dns = refl; redirects = refl; solicitations = refl; router = refl; address_mac = refl; address_transmits = refl; address_limit = refl; neighbour_limit = refl; waiting = refl })
      refl (Keeps refl (λ history st k. refl)) refl refl (leased_wish entries now key old.params.retrans_timer old.neighbours.waiting n found leased old.neighbours.limit) old.mac refl (addr_at (link_local_of old.addresses.mac)) refl
      (IsKnown (number_of mac.0)) (wish_known entries now key old.params.retrans_timer old.neighbours.waiting n found (number_of mac.0) known)
      (answered_behind x x now old.mac (addr_at (link_local_of old.addresses.mac)) destination key (IsKnown (number_of mac.0)) (reports.Path destination (ways.To to (Some mac))) refl (sym (append-nil (happenings x)))) in
      let has : has_room old.neighbours.limit now key None entries ≡ true = rw found refl in
      wish_taken stream old (record old { last = now }) x (with_answer x now destination (resolutions.Path (ways.To to (Some mac)))) now destination key settled (record old { last = now }) x
      (record { role = refl; mac = refl; chosen = refl; policies = refl; generator = refl; last = refl; params = refl; routers = refl; prefixes = refl; addresses = refl; entries = refl; limit = refl; waiting = refl; dns = refl; choice = refl; solicitations = refl; router = refl })
      refl room_has_place full_by_history has leads

  -- what the lease says, by the entry of the neighbour
  both : (u l : Bool) → (u && l) ≡ true → (u ≡ true) × (l ≡ true)
  both true l h = (refl, h)
  both false l h = absurd (let never : false ≡ true = h in cc)

  by_entry : (h : NextHop) (key : ℕ) (end : Option ℕ) → key ≡ number_of to.0 → (o : Option NeighbourEntry) → entry_in key old.neighbours.entries ≡ o
      → now < (path_by (up_kept old) now (next_of old) end h (option_map (seen now) o)).until → (path_by (up_kept old) now (next_of old) end h (option_map (seen now) o)).mac ≡ Some (number_of mac.0)
      → (now < next_of old) × (up_kept old ≡ true) × AddsWish stream old later x told now destination key answers.Done
  by_entry h key end key_is None found holds' known = absurd (let never : ⊥ = omega (arith, holds') in never)
  by_entry h key end key_is (Some n) found holds' known = by (up_kept old && is_leased (state_in n.stage now)) refl
    where
      by : (b : Bool) → (up_kept old && is_leased (state_in n.stage now)) ≡ b → (now < next_of old) × (up_kept old ≡ true) × AddsWish stream old later x told now destination key answers.Done
      by false e =
          let ended : (path_by (up_kept old) now (next_of old) end h (Some (seen now n))).until ≡ now = cond-false (up_kept old && is_leased (state_in n.stage now)) _ now e in
          let never : ⊥ = omega (arith, subst (λ (u : ℕ). now < u) ended holds') in absurd never
      by true e =
          let until_is : (path_by (up_kept old) now (next_of old) end h (Some (seen now n))).until ≡ earlier end (earlier (option_map (λ left. now + left) (left_in n.stage now)) (next_of old)) =
          cond-true (up_kept old && is_leased (state_in n.stage now)) _ now e in
          let lt : now < earlier end (earlier (option_map (λ left. now + left) (left_in n.stage now)) (next_of old)) = subst (λ (u : ℕ). now < u) until_is holds' in
          let settled = before_second now (option_map (λ left. now + left) (left_in n.stage now)) (next_of old) (before_second now end (earlier (option_map (λ left. now + left) (left_in n.stage now)) (next_of old)) lt) in
          let parts = both (up_kept old) (is_leased (state_in n.stage now)) e in (
            settled,
            parts.0,
            subst (λ (k : ℕ). AddsWish stream old later x told now destination k answers.Done) (sym key_is)
                (wished n settled (subst (λ (k : ℕ). entry_in k old.neighbours.entries ≡ Some n) key_is found) parts.1 known),
          )

  -- to all of a group
  by_group : hop_kept old.role old now destination ≡ direct → holds multicast_prefix destination.0 ≡ true → number_of destination.0 ≡ number_of to.0 → Some (number_of (multicast_mac destination).0) ≡ Some (number_of mac.0)
      → (u : Bool) → up_kept old ≡ u → now < (path_to_all u now (next_of old) destination).until → Answers
  by_group goes multicast to_is mac_is false e holds' = absurd (let never : ⊥ = omega (arith, holds') in never)
  by_group goes multicast to_is mac_is true e holds' =
      let same : number_of (multicast_mac destination).0 ≡ number_of mac.0 = cc in
      let alone = answer_alone stream old (record old { last = now }) x x now destination (resolutions.Path (ways.To to (Some mac))) holds' refl refl in
      by_path holds' e (subst (λ (h : NextHop). AddsPath stream old (record old { last = now }) x (with_answer x now destination (resolutions.Path (ways.To to (Some mac)))) now h destination answers.Done) (sym goes)
      (wishes.path_to_all stream old (record old { last = now }) x (with_answer x now destination (resolutions.Path (ways.To to (Some mac)))) now destination (number_of to.0) (number_of mac.0) (sym to_is) (sym same) multicast alone))

  by_hop : (h : NextHop) → hop_kept old.role old now destination ≡ h → (end : Option ℕ)
      → now < (path_by_hop (up_kept old) now (next_of old) end old.neighbours.entries destination h).until
      → towards (path_by_hop (up_kept old) now (next_of old) end old.neighbours.entries destination h).next destination ≡ number_of to.0
      → (path_by_hop (up_kept old) now (next_of old) end old.neighbours.entries destination h).mac ≡ Some (number_of mac.0) → Answers
  by_hop no_route goes end holds' to_is mac_is = absurd (let never : ⊥ = omega (arith, holds') in never)
  by_hop (via key) goes end holds' to_is mac_is =
      let path = path_by (up_kept old) now (next_of old) end (via key) (option_map (seen now) (entry_in key old.neighbours.entries)) in
      let key_is : key ≡ number_of to.0 = ap (λ (h : NextHop). towards h destination) (sym (next_of_path (up_kept old) now (next_of old) end (via key) (option_map (seen now) (entry_in key old.neighbours.entries)))) ∙ to_is in
      let a = by_entry (via key) key end key_is (entry_in key old.neighbours.entries) refl holds' mac_is in
      by_path a.0 a.1 (subst (λ (h : NextHop). AddsPath stream old later x told now h destination answers.Done) (sym goes) (wishes.path_by_router stream old later x told now destination key a.2))
  by_hop direct goes end holds' to_is mac_is = elim (cases_Bool (holds multicast_prefix destination.0)) [
    | inl multicast ↦
        let is = cond-true (holds multicast_prefix destination.0) (path_to_all (up_kept old) now (next_of old) destination)
        (path_by (up_kept old) now (next_of old) end direct (option_map (seen now) (entry_in (number_of destination.0) old.neighbours.entries))) multicast in
        by_group goes multicast (subst (λ (p : PathSeen). towards p.next destination ≡ number_of to.0) is to_is) (subst (λ (p : PathSeen). p.mac ≡ Some (number_of mac.0)) is mac_is) (up_kept old) refl
        (subst (λ (p : PathSeen). now < p.until) is holds')
    | inr single ↦
        let is = cond-false (holds multicast_prefix destination.0) (path_to_all (up_kept old) now (next_of old) destination)
        (path_by (up_kept old) now (next_of old) end direct (option_map (seen now) (entry_in (number_of destination.0) old.neighbours.entries))) single in
        let key_is : number_of destination.0 ≡ number_of to.0 =
        ap (λ (h : NextHop). towards h destination) (sym (next_of_path (up_kept old) now (next_of old) end direct (option_map (seen now) (entry_in (number_of destination.0) old.neighbours.entries))))
        ∙ subst (λ (p : PathSeen). towards p.next destination ≡ number_of to.0) is to_is in
        let a = by_entry direct (number_of destination.0) end key_is (entry_in (number_of destination.0) old.neighbours.entries) refl (subst (λ (p : PathSeen). now < p.until) is holds')
        (subst (λ (p : PathSeen). p.mac ≡ Some (number_of mac.0)) is mac_is) in
        by_path a.0 a.1 (subst (λ (h : NextHop). AddsPath stream old later x told now h destination answers.Done) (sym goes) (wishes.path_to_one stream old later x told now destination single a.2))
  ]

  -- in a lease the answer is the event
  pub leased_answer : InLease old now destination to mac → Answers
  leased_answer l = by_hop (hop_kept old.role old now destination) refl (first_end old.role (open_at now old.prefixes.entries)) l.holds l.to_is l.mac_is

-- ---- a lease ends where something is due

lease_due : (b : Bool) (now x due : ℕ) (over end : Option ℕ) → now ≤ x → x < lease b now (earlier over due) end → x < due
lease_due false now x due over end from lt = absurd (let never : ⊥ = omega (arith, from, lt) in never)
lease_due true now x due over end from lt = before_second x over due (before_second x end (earlier over due) lt)

path_by_due : (up : Bool) (now x due : ℕ) (end : Option ℕ) (h : NextHop) (o : Option Seen) → now ≤ x → x < (path_by up now due end h o).until → x < due
path_by_due up now x due end h None from lt = absurd (let never : ⊥ = omega (arith, from, lt) in never)
path_by_due up now x due end h (Some n) from lt = lease_due (up && is_leased n.state) now x due (option_map (λ left. now + left) n.left) end from lt

module _ {R A : Type 0} (node : Node R A) (now x : ℕ) (destination : Addr) (from : now ≤ x) where
  hop_due : (h : NextHop) (end : Option ℕ) → x < (path_by_hop (up_kept node) now (next_of node) end node.neighbours.entries destination h).until → x < next_of node
  hop_due no_route end lt = absurd (let never : ⊥ = omega (arith, from, lt) in never)
  hop_due (via key) end lt = path_by_due (up_kept node) now x (next_of node) end (via key) (option_map (seen now) (entry_in key node.neighbours.entries)) from lt
  hop_due direct end lt = elim (cases_Bool (holds multicast_prefix destination.0)) [
    | inl multicast ↦ lease_due (up_kept node) now x (next_of node) None None from
        (subst (λ (p : PathSeen). x < p.until) (cond-true (holds multicast_prefix destination.0) (path_to_all (up_kept node) now (next_of node) destination)
        (path_by (up_kept node) now (next_of node) end direct (option_map (seen now) (entry_in (number_of destination.0) node.neighbours.entries))) multicast) lt)
    | inr single ↦ path_by_due (up_kept node) now x (next_of node) end direct (option_map (seen now) (entry_in (number_of destination.0) node.neighbours.entries)) from
        (subst (λ (p : PathSeen). x < p.until) (cond-false (holds multicast_prefix destination.0) (path_to_all (up_kept node) now (next_of node) destination)
        (path_by (up_kept node) now (next_of node) end direct (option_map (seen now) (entry_in (number_of destination.0) node.neighbours.entries))) single) lt)
  ]

  -- nothing is due in a lease
  pub lease_settled : x < (path_kept node now destination).until → x < next_of node
  lease_settled lt = hop_due (hop_kept node.role node now destination) (first_end node.role (open_at now node.prefixes.entries)) lt

-- a path lasts as long as its lease
pub path_holds : {R A : Type 0} (stream : R → Stream) (start : Start) (node : Node R A) (c : Chronicle) (now x : ℕ) (destination : Addr) (p : PathSeen) → p ≡ path_kept node now destination
    → Stands stream start node c → last_moment start.at c ≤ now → now ≤ x → x < p.until → Lasts start c x destination p
path_holds stream start node c now x destination p is s le from lt =
    let before : x < (path_kept node now destination).until = subst (λ (q : PathSeen). x < q.until) is lt in
    let goes = kept_goes_on node now destination x from before in record {
      later = path_kept node x destination;
      is_path = kept_is_path stream start node c s x destination (omega (arith, le, from)) (lease_settled node now x destination from before);
      next = goes.0 ∙ ap (λ (q : PathSeen). q.next) (sym is);
      mac = goes.1 ∙ ap (λ (q : PathSeen). q.mac) (sym is);
      state = goes.2;
    }
