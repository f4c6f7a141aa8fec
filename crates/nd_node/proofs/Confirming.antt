-- Which neighbour a sign of life confirms, by what a node keeps and by its chronicle.
use Rattle.std.proofs.Common.{◌≡◌, ◌<◌, ◌≤◌, ℕ, Bool, true, false, Option, Some, None, refl, sym, ◌∙◌, ap, subst, arith}
use Rattle.std.specs.Prelude.{if◌then◌else◌}
use Rattle.std.specs.Option.{option_map}
use Rattle.std.proofs.lemmas.Bool.{cond-false, cond-true}
use Rattle.rand_core.specs.Stream.{Stream}
use Rattle.nd_addr.specs.declared.addr.Addr.{Addr}
use Rattle.nd_addr.specs.Kind.{multicast_prefix}
use Rattle.nd_addr.specs.Number.{holds, number_of}
use Rattle.nd_table.specs.Listing.{open_at}
use Rattle.nd_neighbour.specs.Shown.{Seen}
use Rattle.nd_neighbour.specs.declared.shown.Reachability.{Reachability}
use Rattle.nd_neighbour.specs.EntryKept.{NeighbourEntry}
use Rattle.nd_neighbour.specs.ShownKept.{seen, state_in}
use Rattle.nd_neighbour.specs.TableKept.{entry_in}
use Rattle.nd_neighbour.proofs.Forgetting.{seen_by_history}
use Rattle.nd_nexthop.specs.NextHop.{NextHop, direct, via, no_route}
use Rattle.nd_chronicle.specs.Happening.{Chronicle, last_moment}
use Rattle.nd_chronicle.specs.Histories.{neighbour_history}
use Rattle.nd_chronicle.specs.InForce.{reachable_time}
use Rattle.nd_chronicle.specs.NextHop.{IsHopOf}
use Rattle.nd_chronicle.specs.Start.{Start}
use Rattle.nd_node.specs.declared.node.Node.{Node}
use Rattle.nd_node.specs.NodeKept.{Stands, next_of}
use Rattle.nd_node.specs.Path.{PathSeen, first_end, neighbour_at, path_by, path_to_all}
use Rattle.nd_node.specs.PathKept.{hop_kept, left_by_hop, left_kept, left_of, path_by_hop, path_kept, towards, up_kept}
use Rattle.nd_node.specs.ReachabilityConfirmation.{IsConfirmed, moves, moves_by, neighbour_by, where_it_moves}
use Rattle.nd_node.proofs.Lasting.{kept_next}
use Rattle.nd_node.proofs.Leases.{kept_hop, lease_settled}

module _ {R A : Type 0} (stream : R → Stream) (start : Start) (node : Node R A) (c : Chronicle) (s : Stands stream start node c) (now : ℕ) (destination : Addr) (least : ℕ) where
  abbrev moved : ℕ → Bool
  moved key = moves (reachable_time c) least (neighbour_at c now key)

  abbrev moved_kept : ℕ → Bool
  moved_kept key = moves node.params.reachable_time least (option_map (seen now) (entry_in key node.neighbours.entries))

  -- a neighbour that is seen in this state
  abbrev pub moved_as : Option Reachability → Option ℕ → Bool
  moved_as None left = false
  moved_as (Some state) left = moves_by node.params.reachable_time least state left

  -- what is kept says of a neighbour what the chronicle says
  moved_is : (key : ℕ) → moved_kept key ≡ moved key
  moved_is key =
      ap (λ (r : ℕ). moves r least (option_map (seen now) (entry_in key node.neighbours.entries))) s.params.reachable_time
      ∙ ap (λ (o : Option Seen). moves (reachable_time c) least o) (seen_by_history key now node.neighbours.entries (neighbour_history c) s.neighbours)

  module _ (next : NextHop) (hop : IsHopOf start start.role c now destination next) where
    -- a multicast destination confirms none
    pub none_of_all : holds multicast_prefix destination.0 ≡ true → IsConfirmed start c now destination least None
    none_of_all multicast = record { next = next; hop = hop; is = sym (cond-true (holds multicast_prefix destination.0) None (where_it_moves moved (neighbour_by next (number_of destination.0))) multicast) }

    module _ (single : holds multicast_prefix destination.0 ≡ false) where
      by_neighbour : (to key : Option ℕ) → neighbour_by next (number_of destination.0) ≡ key → to ≡ where_it_moves moved key → IsConfirmed start c now destination least to
      by_neighbour to key key_is is = record {
        next = next;
        hop = hop;
        is = is ∙ (ap (where_it_moves moved) (sym key_is) ∙ sym (cond-false (holds multicast_prefix destination.0) None (where_it_moves moved (neighbour_by next (number_of destination.0))) single));
      }

      -- the neighbour is confirmed, where that moves it
      pub one_of_one : (key : ℕ) → Some key ≡ neighbour_by next (number_of destination.0) → (b : Bool) → b ≡ moved_kept key → IsConfirmed start c now destination least (if b then Some key else None)
      one_of_one key is b b_is = by_neighbour (if b then Some key else None) (Some key) (sym is) (ap (λ (x : Bool). if x then Some key else None) (b_is ∙ moved_is key))

  -- ---- in a lease

  -- to a neighbour, which is where it goes
  leads_to : (h : NextHop) (due : ℕ) (end : Option ℕ) → now < (path_by_hop (up_kept node) now due end node.neighbours.entries destination h).until → Some (towards h destination) ≡ neighbour_by h (number_of destination.0)
  leads_to no_route due end lt = absurd (let never : ⊥ = omega (arith, lt) in never)
  leads_to direct due end lt = refl
  leads_to (via key) due end lt = refl

  module _ (le : last_moment start.at c ≤ now) (lt : now < (path_kept node now destination).until) where
    here : IsHopOf start start.role c now destination (hop_kept node.role node now destination)
    here = kept_hop stream start node c s now destination le (lease_settled node now now destination (omega arith) lt)

    pub none_of_all_in_lease : holds multicast_prefix destination.0 ≡ true → IsConfirmed start c now destination least None
    none_of_all_in_lease multicast = none_of_all (hop_kept node.role node now destination) here multicast

    pub one_in_lease : (key : ℕ) → towards (path_kept node now destination).next destination ≡ key → holds multicast_prefix destination.0 ≡ false → (b : Bool) → b ≡ moved_kept key
        → IsConfirmed start c now destination least (if b then Some key else None)
    one_in_lease key key_is single b b_is =
        let h = hop_kept node.role node now destination in
        let end = first_end node.role (open_at now node.prefixes.entries) in
        let to_key : towards h destination ≡ key = ap (λ (n : NextHop). towards n destination) (sym (kept_next node now destination)) ∙ key_is in
        one_of_one h here single key (ap Some (sym to_key) ∙ leads_to h (next_of node) end lt) b b_is

    -- ---- by what is seen of the neighbour

    module _ (state : Option Reachability) (left : Option ℕ) (b : Bool) (b_is : b ≡ moved_as state left) where
      moved_of_entry : (h : NextHop) (key : ℕ) (end : Option ℕ) (o : Option NeighbourEntry) → entry_in key node.neighbours.entries ≡ o → now < (path_by (up_kept node) now (next_of node) end h (option_map (seen now) o)).until
          → (path_by (up_kept node) now (next_of node) end h (option_map (seen now) o)).state ≡ state → left_of (option_map (seen now) o) ≡ left → b ≡ moved_kept key
      moved_of_entry h key end None found lt' state_is left_is = absurd (let never : ⊥ = omega (arith, lt') in never)
      moved_of_entry h key end (Some n) found lt' state_is left_is =
          b_is ∙ (ap (λ (s : Option Reachability). moved_as s left) (sym state_is) ∙ (ap (λ (l : Option ℕ). moved_as (Some (state_in n.stage now)) l) (sym left_is)
          ∙ ap (λ (o : Option NeighbourEntry). moves node.params.reachable_time least (option_map (seen now) o)) (sym found)))

      moved_by_hop : holds multicast_prefix destination.0 ≡ false → (h : NextHop) (end : Option ℕ) → now < (path_by_hop (up_kept node) now (next_of node) end node.neighbours.entries destination h).until
          → (path_by_hop (up_kept node) now (next_of node) end node.neighbours.entries destination h).state ≡ state → left_by_hop now node.neighbours.entries destination h ≡ left → b ≡ moved_kept (towards h destination)
      moved_by_hop single no_route end lt' state_is left_is = absurd (let never : ⊥ = omega (arith, lt') in never)
      moved_by_hop single (via key) end lt' state_is left_is = moved_of_entry (via key) key end (entry_in key node.neighbours.entries) refl lt' state_is left_is
      moved_by_hop single direct end lt' state_is left_is =
          let one = cond-false (holds multicast_prefix destination.0) (path_to_all (up_kept node) now (next_of node) destination)
          (path_by (up_kept node) now (next_of node) end direct (option_map (seen now) (entry_in (number_of destination.0) node.neighbours.entries))) single in
          moved_of_entry direct (number_of destination.0) end (entry_in (number_of destination.0) node.neighbours.entries) refl (subst (λ (p : PathSeen). now < p.until) one lt') (subst (λ (p : PathSeen). p.state ≡ state) one state_is)
          (sym (cond-false (holds multicast_prefix destination.0) None (left_of (option_map (seen now) (entry_in (number_of destination.0) node.neighbours.entries))) single) ∙ left_is)

      pub one_as_seen : holds multicast_prefix destination.0 ≡ false → (path_kept node now destination).state ≡ state → left_kept node now destination ≡ left
          → IsConfirmed start c now destination least (if b then Some (towards (path_kept node now destination).next destination) else None)
      one_as_seen single state_is left_is =
          one_in_lease (towards (path_kept node now destination).next destination) refl single b
          (moved_by_hop single (hop_kept node.role node now destination) (first_end node.role (open_at now node.prefixes.entries)) lt state_is left_is
          ∙ ap (λ (h : NextHop). moved_kept (towards h destination)) (sym (kept_next node now destination)))
