-- What leaves the paths of a node leaves their leases.
use Rattle.std.proofs.Common.{◌≡◌, ◌<◌, ◌≤◌, ◌+◌, ℕ, Bool, true, false, List, Option, Some, None, refl, sym, ◌∙◌, ap, subst, arith, inl, inr}
use Rattle.std.specs.Prelude.{◌&&◌, ◌-◌, ◌⊎◌, if◌then◌else◌, nat_lt}
use Rattle.std.specs.Option.{option_map}
use Rattle.std.proofs.lemmas.Bool.Decides.{nat_tests}
use Rattle.std.proofs.lemmas.Bool.{cases_Bool, cond-false, cond-true}
use Rattle.rand_core.specs.Stream.{Stream}
use Rattle.nd_addr.specs.declared.addr.Addr.{Addr}
use Rattle.nd_addr.specs.declared.mac.Mac.{Mac}
use Rattle.nd_addr.specs.declared.role.Role.{Role}
use Rattle.nd_addr.specs.declared.role.Role.TheVariants.{Host, Router}
use Rattle.nd_addr.specs.Kind.{multicast_prefix}
use Rattle.nd_addr.specs.Number.{holds, number_of}
use Rattle.nd_table.proofs.Due.{AtMost-from, least_at_most}
use Rattle.nd_addr.specs.Prefix.{PrefixValue}
use Rattle.nd_table.specs.declared.lasting.Lasting.{Lasting}
use Rattle.nd_table.specs.Ends.{is_before}
use Rattle.nd_table.specs.Listing.{open_at}
use Rattle.nd_neighbour.specs.declared.shown.Reachability.{Reachability}
use Rattle.nd_neighbour.specs.declared.shown.Reachability.TheVariants.{Delay, Incomplete, Probe, Reachable, Stale}
use Rattle.nd_neighbour.specs.DueKept.{date_of, next_in}
use Rattle.nd_neighbour.specs.EntryKept.{Known, NeighbourEntry, Resolving, Stage}
use Rattle.nd_neighbour.specs.declared.unreachability_detection.Probing.{Probing}
use Rattle.nd_neighbour.specs.LeaseKept.{LeavesLeases, leased_to, leased_until}
use Rattle.nd_neighbour.specs.Shown.{is_leased}
use Rattle.nd_neighbour.specs.ShownKept.{left_in, seen, state_in}
use Rattle.nd_neighbour.specs.TableKept.{Table, address, entry_in}
use Rattle.nd_neighbour.proofs.Leases.{in_lease, leased_fresh}
use Rattle.nd_routers.specs.RoutersKept as routers
use Rattle.nd_slaac.specs.Dates as address_dates
use Rattle.nd_params.specs.ReachableTime.{redraw_after}
use Rattle.nd_nexthop.specs.NextHop.{NextHop, direct, no_route, via}
use Rattle.nd_chronicle.specs.Happening.{Chronicle, last_moment}
use Rattle.nd_chronicle.specs.Start.{Start}
use Rattle.nd_steps.specs.RouterTables.{next_advertisement}
use Rattle.nd_steps.specs.SolicitRouters.{next_solicitation}
use Rattle.nd_steps.proofs.Remembering.{open_before}
use Rattle.nd_node.specs.declared.node.Node.{Node}
use Rattle.nd_node.specs.Moments.{earlier}
use Rattle.nd_node.specs.NodeKept.{Stands, next_of}
use Rattle.nd_node.specs.Path.{Lasts, PathSeen, first_end, path_by, path_to_all}
use Rattle.nd_node.specs.PathKept.{InLease, LeavesPaths, hop_kept, left_by_hop, left_kept, left_of, path_by_hop, path_kept, towards, up_kept}
use Rattle.nd_node.proofs.Lasting.{GoesOn, kept_goes_on, kept_next}
use Rattle.nd_node.proofs.Leases.{kept_is_path, lease_settled}
use Rattle.nd_node.proofs.Moments.{before_addresses, before_advertisement, before_neighbours, before_redraw, before_routers, before_second, before_solicitation, none_before}
use Rattle.nd_node.proofs.Paths.{mac_of_path}
use Rattle.nd_node.proofs.Ways.{ways_left}

-- ---- what leaves them

module _ {R A : Type 0} (old : Node R A) (after : Table) (at : ℕ) (leaves : LeavesLeases old.neighbours.entries after.entries) where
  abbrev later : Node R A
  later = record old { neighbours = after; last = at }

  due_later : next_of old ≤ next_of later
  due_later =
      let r = routers.next_end old.routers.entries in
      let a = address_dates.next_in old.addresses.addresses in
      let n = next_in old.neighbours.entries in
      let s = next_solicitation old.role old.solicitations in
      let v = next_advertisement old.role old.router in
      let d = old.params.drawn_at + redraw_after in
      let h : next_of old ≤ next_of old = omega arith in
      none_before (next_of old) r a (next_in after.entries) s v d (before_routers (next_of old) r a n s v d h) (before_addresses (next_of old) r a n s v d h)
      (leaves.due (next_of old) (before_neighbours (next_of old) r a n s v d h)) (before_solicitation (next_of old) r a n s v d h)
      (before_advertisement (next_of old) r a n s v d h) (before_redraw (next_of old) r a n s v d h)

  -- neighbours that leave the leases
  pub neighbours_leave : LeavesPaths old later
  neighbours_leave = record { up = refl; hop = (ways_left old after old.choice at refl leaves.mac).hop; neighbours = leaves; due = due_later }

module _ {R A : Type 0} (old : Node R A) (at : ℕ) where
  -- time that passes
  pub passing_leaves : LeavesPaths old (record old { last = at })
  passing_leaves = neighbours_leave old old.neighbours at (record { mac = λ key. refl; lease = λ key. omega arith; due = λ now none. none })

pub leave_both : {R A : Type 0} (a b c : Node R A) → LeavesPaths a b → LeavesPaths b c → LeavesPaths a c
leave_both a b c ab bc = record {
  up = bc.up ∙ ab.up;
  hop = λ now destination. bc.hop now destination ∙ ab.hop now destination;
  neighbours = record {
    mac = λ key. bc.neighbours.mac key ∙ ab.neighbours.mac key;
    lease = λ key. (let first = ab.neighbours.lease key in let second = bc.neighbours.lease key in omega (arith, first, second));
    due = λ now none. bc.neighbours.due now (ab.neighbours.due now none);
  };
  due = omega (arith, ab.due, bc.due);
}

-- ---- what it leaves

state_of_path : (up : Bool) (x due : ℕ) (end : Option ℕ) (next : NextHop) (o : Option NeighbourEntry) → x < leased_until o → (path_by up x due end next (option_map (seen x) o)).state ≡ Some Stale → ⊥
state_of_path up x due end next None lt is = omega (arith, lt)
state_of_path up x due end next (Some n) lt is = let same : state_in n.stage x ≡ Stale = cc in leased_fresh n.stage x n.due lt same

under : (x m : ℕ) (o : Option ℕ) (n left : ℕ) → x < earlier (option_map (λ t. m + t) o) n → o ≡ Some left → x < m + left
under x m None n left lt is = absurd (let never : ⊥ = cc in never)
under x m (Some t) n left lt is = let same : t ≡ left = cc in omega (arith, lt, same)

-- a neighbour in its lease is one of which a use is no news
fresh_is_leased : (r : Reachability) → (r ≡ Stale → ⊥) → (r ≡ Incomplete → ⊥) → is_leased r ≡ true
fresh_is_leased Incomplete fresh known = absurd (known refl)
fresh_is_leased Reachable fresh known = refl
fresh_is_leased Stale fresh known = absurd (fresh refl)
fresh_is_leased Delay fresh known = refl
fresh_is_leased Probe fresh known = refl

known_state : (mac : ℕ) (c : Bool) (since x : ℕ) (p : Option Probing) → state_in (Known mac c since p) x ≡ Incomplete → ⊥
known_state mac c since x None is = by (c && nat_lt x since) is
  where
    by : (b : Bool) → (if b then Reachable else Stale) ≡ Incomplete → ⊥
    by true e = cc
    by false e = cc
known_state mac c since x (Some p) is = by (c && nat_lt x since) (nat_lt x p.from) is
  where
    by : (b d : Bool) → (if b then Reachable else if d then Delay else Probe) ≡ Incomplete → ⊥
    by true d e = cc
    by false true e = cc
    by false false e = cc

leased_state : (k : Stage) (x due : ℕ) → x < leased_to k due → is_leased (state_in k x) ≡ true
leased_state (Resolving r n b ws) x due lt = absurd (let never : ⊥ = omega (arith, lt) in never)
leased_state (Known mac c since p) x due lt =
    fresh_is_leased (state_in (Known mac c since p) x) (leased_fresh (Known mac c since p) x due lt) (known_state mac c since x p)

-- what is left of a confirmation ends later
left_ahead : (k : Stage) (x due : ℕ) → x < due → x < earlier (option_map (λ left. x + left) (left_in k x)) due
left_ahead (Resolving r n b ws) x due lt = lt
left_ahead (Known mac false since p) x due lt = lt
left_ahead (Known mac true since p) x due lt = by (nat_lt x since) refl
  where
    by : (b : Bool) → nat_lt x since ≡ b → x < earlier (option_map (λ left. x + left) (if b then Some (since - x) else None)) due
    by true reachable = grind (arith, nat_tests, lt, reachable)
    by false over = lt

earlier_ahead : (x : ℕ) (o : Option ℕ) (n : ℕ) → is_before x o ≡ true → x < n → x < earlier o n
earlier_ahead x None n before lt = lt
earlier_ahead x (Some end) n before lt = grind (arith, nat_tests, before, lt)

-- none of the prefixes that stand has ended
ends_ahead : (role : Role) (x : ℕ) (prefixes : List (Lasting PrefixValue)) → is_before x (first_end role (open_at x prefixes)) ≡ true
ends_ahead Host x prefixes = open_before x prefixes
ends_ahead Router x prefixes = refl

-- the time that is left goes by
abbrev pub LeftGoesOn : ℕ → ℕ → Option ℕ → Option ℕ → Type 0
LeftGoesOn now x None later = later ≡ None
LeftGoesOn now x (Some left) later = (x < now + left) × (later ≡ Some (now + left - x))

left_goes_on : (k : Stage) (now x due : ℕ) → now ≤ x → x < earlier (option_map (λ left. now + left) (left_in k now)) due → LeftGoesOn now x (left_in k now) (left_in k x)
left_goes_on (Resolving r n b ws) now x due from lt = refl
left_goes_on (Known mac false since p) now x due from lt = refl
left_goes_on (Known mac true since p) now x due from lt = elim (cases_Bool (nat_lt now since)) [
  | inl reachable ↦
      let is : left_in (Known mac true since p) now ≡ Some (since - now) = cond-true (nat_lt now since) (Some (since - now)) None reachable in
      let before : x < now + (since - now) = under x now (left_in (Known mac true since p) now) due (since - now) lt is in
      let there : nat_lt x since ≡ true = grind (arith, nat_tests, before, reachable) in
      subst (λ (o : Option ℕ). LeftGoesOn now x o (left_in (Known mac true since p) x)) (sym is)
      (before, cond-true (nat_lt x since) (Some (since - x)) None there ∙ ap Some (let e : since - x ≡ now + (since - now) - x = grind (arith, nat_tests, reachable) in e))
  | inr over ↦
      let is : left_in (Known mac true since p) now ≡ None = cond-false (nat_lt now since) (Some (since - now)) None over in
      let gone : nat_lt x since ≡ false = grind (arith, nat_tests, from, over) in
      subst (λ (o : Option ℕ). LeftGoesOn now x o (left_in (Known mac true since p) x)) (sym is) (cond-false (nat_lt x since) (Some (since - x)) None gone)
]

module _ {R A : Type 0} (old : Node R A) (now x : ℕ) (destination : Addr) (from : now ≤ x) where
  abbrev was : List NeighbourEntry
  was = old.neighbours.entries

  -- nothing is due later for a neighbour than for the node
  due_of_one : (key : ℕ) (n : NeighbourEntry) → entry_in key was ≡ Some n → next_of old ≤ n.due
  due_of_one key n found =
      let h : next_of old ≤ next_of old = omega arith in
      AtMost-from (next_of old) n.due (next_in was)
      (before_neighbours (next_of old) (routers.next_end old.routers.entries) (address_dates.next_in old.addresses.addresses) (next_in was) (next_solicitation old.role old.solicitations) (next_advertisement old.role old.router)
      (old.params.drawn_at + redraw_after) h)
      (least_at_most address date_of key was n n.due found (omega arith))

  -- within the lease of a path its neighbour is in one that ends with its confirmation, or where something is due
  lease_of_one : (h : NextHop) (end : Option ℕ) (n : NeighbourEntry) → x < (path_by (up_kept old) now (next_of old) end h (Some (seen now n))).until
      → (up_kept old ≡ true) × (is_leased (state_in n.stage now) ≡ true) × (x < earlier (option_map (λ left. now + left) (left_in n.stage now)) (next_of old))
  lease_of_one h end n lt = by (up_kept old) (is_leased (state_in n.stage now)) refl refl
    where
      ended : (up_kept old && is_leased (state_in n.stage now)) ≡ false → ⊥
      ended e =
          let until =
          subst (λ (u : ℕ). x < u) (cond-false (up_kept old && is_leased (state_in n.stage now)) (earlier end (earlier (option_map (λ left. now + left) (left_in n.stage now)) (next_of old))) now e) lt in
          omega (arith, from, until)

      by : (u l : Bool) → up_kept old ≡ u → is_leased (state_in n.stage now) ≡ l
          → (up_kept old ≡ true) × (is_leased (state_in n.stage now) ≡ true) × (x < earlier (option_map (λ left. now + left) (left_in n.stage now)) (next_of old))
      by true true up leased = (
        up,
        leased,
        before_second x end (earlier (option_map (λ left. now + left) (left_in n.stage now)) (next_of old))
            (subst (λ (u : ℕ). x < u)
            (cond-true (up_kept old && is_leased (state_in n.stage now)) (earlier end (earlier (option_map (λ left. now + left) (left_in n.stage now)) (next_of old))) now (rw (up, leased) refl)) lt),
      )
      by true false up leased = absurd (ended (rw (up, leased) refl))
      by false l up leased = absurd (ended (rw up refl))

  one_leased : (h : NextHop) (key : ℕ) (end : Option ℕ) (o : Option NeighbourEntry) → entry_in key was ≡ o → x < (path_by (up_kept old) now (next_of old) end h (option_map (seen now) o)).until → x < leased_until o
  one_leased h key end None found lt = absurd (let never : ⊥ = omega (arith, from, lt) in never)
  one_leased h key end (Some n) found lt =
      let l = lease_of_one h end n lt in
      in_lease n.stage now x (next_of old) n.due from (due_of_one key n found) l.1 (before_second x (option_map (λ left. now + left) (left_in n.stage now)) (next_of old) l.2)
      (λ left is. under x now (left_in n.stage now) (next_of old) left l.2 is)

  -- of a next hop: it is in its lease, if it is a neighbour
  abbrev IsOpen : NextHop → Type 0
  IsOpen no_route = Unit {0}
  IsOpen direct = (holds multicast_prefix destination.0 ≡ true) ⊎ (x < leased_until (entry_in (number_of destination.0) was))
  IsOpen (via key) = x < leased_until (entry_in key was)

  opened_by : (h : NextHop) (end : Option ℕ) → x < (path_by_hop (up_kept old) now (next_of old) end was destination h).until → IsOpen h
  opened_by no_route end lt = tt
  opened_by (via key) end lt = one_leased (via key) key end (entry_in key was) refl lt
  opened_by direct end lt = elim (cases_Bool (holds multicast_prefix destination.0)) [
    | inl multicast ↦ inl multicast
    | inr single ↦ inr (one_leased direct (number_of destination.0) end (entry_in (number_of destination.0) was) refl
        (subst (λ (p : PathSeen). x < p.until) (cond-false (holds multicast_prefix destination.0) (path_to_all (up_kept old) now (next_of old) destination)
        (path_by (up_kept old) now (next_of old) end direct (option_map (seen now) (entry_in (number_of destination.0) was))) single) lt))
  ]

  -- in a lease the link-local address is assigned
  up_by_one : (h : NextHop) (end : Option ℕ) (o : Option NeighbourEntry) → x < (path_by (up_kept old) now (next_of old) end h (option_map (seen now) o)).until → up_kept old ≡ true
  up_by_one h end None lt = absurd (let never : ⊥ = omega (arith, from, lt) in never)
  up_by_one h end (Some n) lt = (lease_of_one h end n lt).0

  up_by_all : (u : Bool) → up_kept old ≡ u → x < (path_to_all u now (next_of old) destination).until → up_kept old ≡ true
  up_by_all true is lt = is
  up_by_all false is lt = absurd (let never : ⊥ = omega (arith, from, lt) in never)

  up_by : (h : NextHop) (end : Option ℕ) → x < (path_by_hop (up_kept old) now (next_of old) end was destination h).until → up_kept old ≡ true
  up_by no_route end lt = absurd (let never : ⊥ = omega (arith, from, lt) in never)
  up_by (via key) end lt = up_by_one (via key) end (entry_in key was) lt
  up_by direct end lt = elim (cases_Bool (holds multicast_prefix destination.0)) [
    | inl multicast ↦ up_by_all (up_kept old) refl
        (subst (λ (p : PathSeen). x < p.until) (cond-true (holds multicast_prefix destination.0) (path_to_all (up_kept old) now (next_of old) destination)
        (path_by (up_kept old) now (next_of old) end direct (option_map (seen now) (entry_in (number_of destination.0) was))) multicast) lt)
    | inr single ↦ up_by_one direct end (entry_in (number_of destination.0) was)
        (subst (λ (p : PathSeen). x < p.until) (cond-false (holds multicast_prefix destination.0) (path_to_all (up_kept old) now (next_of old) destination)
        (path_by (up_kept old) now (next_of old) end direct (option_map (seen now) (entry_in (number_of destination.0) was))) single) lt)
  ]

  -- the time that is left of REACHABLE goes by
  left_of_one : (h : NextHop) (end : Option ℕ) (o : Option NeighbourEntry) → x < (path_by (up_kept old) now (next_of old) end h (option_map (seen now) o)).until
      → LeftGoesOn now x (left_of (option_map (seen now) o)) (left_of (option_map (seen x) o))
  left_of_one h end None lt = refl
  left_of_one h end (Some n) lt = left_goes_on n.stage now x (next_of old) from (lease_of_one h end n lt).2

  left_by : (h : NextHop) (end : Option ℕ) → x < (path_by_hop (up_kept old) now (next_of old) end was destination h).until → LeftGoesOn now x (left_by_hop now was destination h) (left_by_hop x was destination h)
  left_by no_route end lt = refl
  left_by (via key) end lt = left_of_one (via key) end (entry_in key was) lt
  left_by direct end lt = elim (cases_Bool (holds multicast_prefix destination.0)) [
    | inl multicast ↦
        let none : (y : ℕ) → left_by_hop y was destination direct ≡ None = λ y. cond-true (holds multicast_prefix destination.0) None (left_of (option_map (seen y) (entry_in (number_of destination.0) was))) multicast in
        subst (λ (o : Option ℕ). LeftGoesOn now x o (left_by_hop x was destination direct)) (sym (none now)) (none x)
    | inr single ↦
        let one : (y : ℕ) → left_by_hop y was destination direct ≡ left_of (option_map (seen y) (entry_in (number_of destination.0) was)) =
        λ y. cond-false (holds multicast_prefix destination.0) None (left_of (option_map (seen y) (entry_in (number_of destination.0) was))) single in
        subst (λ (o : Option ℕ). LeftGoesOn now x (left_by_hop now was destination direct) o) (sym (one x))
        (subst (λ (o : Option ℕ). LeftGoesOn now x o (left_of (option_map (seen x) (entry_in (number_of destination.0) was)))) (sym (one now))
        (left_of_one direct end (entry_in (number_of destination.0) was)
        (subst (λ (p : PathSeen). x < p.until) (cond-false (holds multicast_prefix destination.0) (path_to_all (up_kept old) now (next_of old) destination)
        (path_by (up_kept old) now (next_of old) end direct (option_map (seen now) (entry_in (number_of destination.0) was))) single) lt)))
  ]

  pub left_lasts : x < (path_kept old now destination).until → LeftGoesOn now x (left_kept old now destination) (left_kept old x destination)
  left_lasts lt =
      let goes = kept_goes_on old now destination x from lt in
      let same : hop_kept old.role old x destination ≡ hop_kept old.role old now destination = sym (kept_next old x destination) ∙ (goes.0 ∙ kept_next old now destination) in
      subst (λ (h : NextHop). LeftGoesOn now x (left_kept old now destination) (left_by_hop x was destination h)) (sym same)
      (left_by (hop_kept old.role old now destination) (first_end old.role (open_at now old.prefixes.entries)) lt)

  module _ (new : Node R A) (leaves : LeavesPaths old new) (lt : x < (path_kept old now destination).until) where
    abbrev is : List NeighbourEntry
    is = new.neighbours.entries

    goes : GoesOn (path_kept old now destination) (path_kept old x destination)
    goes = kept_goes_on old now destination x from lt

    next_same : (path_kept new x destination).next ≡ (path_kept old now destination).next
    next_same = kept_next new x destination ∙ (leaves.hop x destination ∙ (sym (kept_next old x destination) ∙ goes.0))

    -- the next hop now is the one then
    hop_then : hop_kept old.role old x destination ≡ hop_kept old.role old now destination
    hop_then = sym (kept_next old x destination) ∙ (goes.0 ∙ kept_next old now destination)

    module _ (end then' : Option ℕ) where
      mac_by : (h : NextHop) → (path_by_hop (up_kept new) x (next_of new) then' is destination h).mac ≡ (path_by_hop (up_kept old) x (next_of old) end was destination h).mac
      mac_by no_route = refl
      mac_by (via key) =
          mac_of_path (up_kept new) x (next_of new) then' (via key) (entry_in key is)
          ∙ (leaves.neighbours.mac key ∙ sym (mac_of_path (up_kept old) x (next_of old) end (via key) (entry_in key was)))
      mac_by direct = elim (cases_Bool (holds multicast_prefix destination.0)) [
        | inl multicast ↦ ap (λ (p : PathSeen). p.mac)
            (cond-true (holds multicast_prefix destination.0) (path_to_all (up_kept new) x (next_of new) destination) (path_by (up_kept new) x (next_of new) then' direct (option_map (seen x) (entry_in (number_of destination.0) is))) multicast)
            ∙ sym (ap (λ (p : PathSeen). p.mac)
            (cond-true (holds multicast_prefix destination.0) (path_to_all (up_kept old) x (next_of old) destination) (path_by (up_kept old) x (next_of old) end direct (option_map (seen x) (entry_in (number_of destination.0) was))) multicast))
        | inr single ↦ ap (λ (p : PathSeen). p.mac)
            (cond-false (holds multicast_prefix destination.0) (path_to_all (up_kept new) x (next_of new) destination) (path_by (up_kept new) x (next_of new) then' direct (option_map (seen x) (entry_in (number_of destination.0) is))) single)
            ∙ (mac_of_path (up_kept new) x (next_of new) then' direct (entry_in (number_of destination.0) is) ∙ (leaves.neighbours.mac (number_of destination.0)
            ∙ sym (ap (λ (p : PathSeen). p.mac)
            (cond-false (holds multicast_prefix destination.0) (path_to_all (up_kept old) x (next_of old) destination) (path_by (up_kept old) x (next_of old) end direct (option_map (seen x) (entry_in (number_of destination.0) was))) single)
            ∙ mac_of_path (up_kept old) x (next_of old) end direct (entry_in (number_of destination.0) was))))
      ]

      fresh_to_all : holds multicast_prefix destination.0 ≡ true → (path_by_hop (up_kept new) x (next_of new) then' is destination direct).state ≡ Some Stale → ⊥
      fresh_to_all multicast stale =
          let none : None ≡ Some Stale =
          sym (ap (λ (p : PathSeen). p.state)
          (cond-true (holds multicast_prefix destination.0) (path_to_all (up_kept new) x (next_of new) destination) (path_by (up_kept new) x (next_of new) then' direct (option_map (seen x) (entry_in (number_of destination.0) is))) multicast))
          ∙ stale in cc

      fresh_by : (h : NextHop) → IsOpen h → (path_by_hop (up_kept new) x (next_of new) then' is destination h).state ≡ Some Stale → ⊥
      fresh_by no_route within stale = let none : None ≡ Some Stale = stale in cc
      fresh_by (via key) within stale = state_of_path (up_kept new) x (next_of new) then' (via key) (entry_in key is) (let kept = leaves.neighbours.lease key in omega (arith, within, kept)) stale
      fresh_by direct (inl multicast) stale = fresh_to_all multicast stale
      fresh_by direct (inr within) stale = elim (cases_Bool (holds multicast_prefix destination.0)) [
        | inl multicast ↦ fresh_to_all multicast stale
        | inr single ↦ state_of_path (up_kept new) x (next_of new) then' direct (entry_in (number_of destination.0) is) (let kept = leaves.neighbours.lease (number_of destination.0) in omega (arith, within, kept))
            (sym (ap (λ (p : PathSeen). p.state)
            (cond-false (holds multicast_prefix destination.0) (path_to_all (up_kept new) x (next_of new) destination) (path_by (up_kept new) x (next_of new) then' direct (option_map (seen x) (entry_in (number_of destination.0) is))) single))
            ∙ stale)
      ]

    mac_same : (path_kept new x destination).mac ≡ (path_kept old now destination).mac
    mac_same =
        ap (λ (h : NextHop). (path_by_hop (up_kept new) x (next_of new) (first_end new.role (open_at x new.prefixes.entries)) is destination h).mac) (leaves.hop x destination)
        ∙ (mac_by (first_end old.role (open_at x old.prefixes.entries)) (first_end new.role (open_at x new.prefixes.entries)) (hop_kept old.role old x destination) ∙ goes.1)

    fresh_then : (path_kept new x destination).state ≡ Some Stale → ⊥
    fresh_then stale =
        fresh_by None (first_end new.role (open_at x new.prefixes.entries)) (hop_kept old.role old x destination)
        (subst (λ (h : NextHop). IsOpen h) (sym hop_then) (opened_by (hop_kept old.role old now destination) (first_end old.role (open_at now old.prefixes.entries)) lt))
        (sym (ap (λ (h : NextHop). (path_by_hop (up_kept new) x (next_of new) (first_end new.role (open_at x new.prefixes.entries)) is destination h).state) (leaves.hop x destination)) ∙ stale)

    -- the lease of a path holds at the node that it leads to
    pub leaves_lasts : (stream : R → Stream) (start : Start) (c : Chronicle) → Stands stream start new c → last_moment start.at c ≤ x → Lasts start c x destination (path_kept old now destination)
    leaves_lasts stream start c s le = record {
      later = path_kept new x destination;
      is_path = kept_is_path stream start new c s x destination le (let before = lease_settled old now x destination from lt in let due = leaves.due in omega (arith, before, due));
      next = next_same;
      mac = mac_same;
      state = fresh_then;
    }

    -- ---- and packets in it are in a lease of that node

    up_then : up_kept new ≡ true
    up_then = leaves.up ∙ up_by (hop_kept old.role old now destination) (first_end old.role (open_at now old.prefixes.entries)) lt

    due_then : x < next_of new
    due_then = let before = lease_settled old now x destination from lt in let due = leaves.due in omega (arith, before, due)

    abbrev end_then : Option ℕ
    end_then = first_end new.role (open_at x new.prefixes.entries)

    one_until : (h : NextHop) (o : Option NeighbourEntry) → x < leased_until o → x < (path_by (up_kept new) x (next_of new) end_then h (option_map (seen x) o)).until
    one_until h None within = absurd (let never : ⊥ = omega (arith, within) in never)
    one_until h (Some n) within =
        let over : ℕ = earlier (first_end new.role (open_at x new.prefixes.entries)) (earlier (option_map (λ left. x + left) (left_in n.stage x)) (next_of new)) in
        let both : (up_kept new && is_leased (state_in n.stage x)) ≡ true = rw (up_then, leased_state n.stage x n.due within) refl in
        subst (λ (u : ℕ). x < u) (sym (cond-true (up_kept new && is_leased (state_in n.stage x)) over x both))
        (earlier_ahead x (first_end new.role (open_at x new.prefixes.entries)) (earlier (option_map (λ left. x + left) (left_in n.stage x)) (next_of new)) (ends_ahead new.role x new.prefixes.entries)
        (left_ahead n.stage x (next_of new) due_then))

    all_until : (u : Bool) → u ≡ true → x < (path_to_all u x (next_of new) destination).until
    all_until true up = due_then
    all_until false up = absurd (let never : ⊥ = cc in never)

    until_to_all : holds multicast_prefix destination.0 ≡ true → x < (path_by_hop (up_kept new) x (next_of new) end_then is destination direct).until
    until_to_all multicast =
        subst (λ (p : PathSeen). x < p.until) (sym (cond-true (holds multicast_prefix destination.0) (path_to_all (up_kept new) x (next_of new) destination)
        (path_by (up_kept new) x (next_of new) end_then direct (option_map (seen x) (entry_in (number_of destination.0) is))) multicast)) (all_until (up_kept new) up_then)

    until_by : (h : NextHop) → IsOpen h → (h ≡ no_route → ⊥) → x < (path_by_hop (up_kept new) x (next_of new) end_then is destination h).until
    until_by no_route within goes' = absurd (goes' refl)
    until_by (via key) within goes' = one_until (via key) (entry_in key is) (let kept = leaves.neighbours.lease key in omega (arith, within, kept))
    until_by direct (inl multicast) goes' = until_to_all multicast
    until_by direct (inr within) goes' = elim (cases_Bool (holds multicast_prefix destination.0)) [
      | inl multicast ↦ until_to_all multicast
      | inr single ↦ subst (λ (p : PathSeen). x < p.until) (sym (cond-false (holds multicast_prefix destination.0) (path_to_all (up_kept new) x (next_of new) destination)
          (path_by (up_kept new) x (next_of new) end_then direct (option_map (seen x) (entry_in (number_of destination.0) is))) single))
          (one_until direct (entry_in (number_of destination.0) is) (let kept = leaves.neighbours.lease (number_of destination.0) in omega (arith, within, kept)))
    ]

    -- there is a next hop in a lease
    routed : (h : NextHop) (end : Option ℕ) → x < (path_by_hop (up_kept old) now (next_of old) end was destination h).until → h ≡ no_route → ⊥
    routed no_route end before e = omega (arith, from, before)
    routed direct end before e = cc
    routed (via key) end before e = cc

    until_then : x < (path_kept new x destination).until
    until_then =
        let h = hop_kept old.role old now destination in
        subst (λ (g : NextHop). x < (path_by_hop (up_kept new) x (next_of new) (first_end new.role (open_at x new.prefixes.entries)) is destination g).until) (sym (leaves.hop x destination ∙ hop_then))
        (until_by h (opened_by h (first_end old.role (open_at now old.prefixes.entries)) lt) (routed h (first_end old.role (open_at now old.prefixes.entries)) lt))

    -- so an answer there changes nothing
    pub leaves_in_lease : (to : Addr) (mac : Mac) → towards (path_kept old now destination).next destination ≡ number_of to.0 → (path_kept old now destination).mac ≡ Some (number_of mac.0) → InLease new x destination to mac
    leaves_in_lease to mac to_is mac_is = record {
      holds = until_then;
      to_is = ap (λ (h : NextHop). towards h destination) next_same ∙ to_is;
      mac_is = mac_same ∙ mac_is;
    }
