-- The path of a destination, by what a node keeps, is that of the chronicle.
use Rattle.std.proofs.Common.{◌≡◌, ◌≤◌, ℕ, Bool, true, false, List, Option, Some, None, refl, sym, ◌∙◌, ap, subst, arith}
use Rattle.std.specs.Prelude.{◌+◌, ◌&&◌, if◌then◌else◌}
use Rattle.std.specs.Option.{option_map}
use Rattle.std.proofs.Math.Bool.{and-false}
use Rattle.std.proofs.lemmas.Bool.{cond-false, cond-true}
use Rattle.rand_core.specs.Stream.{Stream}
use Rattle.nd_addr.specs.declared.addr.Addr.{Addr}
use Rattle.nd_addr.specs.declared.role.Role.{Role}
use Rattle.nd_addr.specs.Kind.{multicast_prefix}
use Rattle.nd_addr.specs.Number.{holds, number_of}
use Rattle.nd_addr.specs.Prefix.{PrefixValue}
use Rattle.nd_addr.specs.Same.{same_prefix}
use Rattle.nd_table.specs.declared.lasting.Lasting.{Lasting}
use Rattle.nd_table.specs.Listing.{Lists, open_at}
use Rattle.nd_neighbour.specs.EntryKept.{Known, NeighbourEntry, Resolving, Stage, known_mac}
use Rattle.nd_neighbour.specs.LeaseKept.{mac_at}
use Rattle.nd_neighbour.specs.Shown.{Seen, is_leased}
use Rattle.nd_neighbour.specs.ShownKept.{left_in, seen, state_in}
use Rattle.nd_neighbour.specs.TableKept.{entry_in}
use Rattle.nd_neighbour.proofs.Forgetting.{seen_by_history}
use Rattle.nd_nexthop.specs.NextHop.{NextHop, direct, via, no_route}
use Rattle.nd_chronicle.specs.Start.{Start}
use Rattle.nd_chronicle.specs.Happening.{Chronicle, last_moment}
use Rattle.nd_chronicle.specs.Histories.{neighbour_history, prefix_history}
use Rattle.nd_chronicle.specs.NextHop.{IsHopOf}
use Rattle.nd_chronicle.specs.OwnAddress.{is_up}
use Rattle.nd_node.specs.declared.node.Node.{Node}
use Rattle.nd_node.specs.Node.{NextDue}
use Rattle.nd_node.specs.NodeKept.{Stands, next_of}
use Rattle.nd_node.specs.PathKept.{hop_kept, left_by_hop, left_kept, left_of, path_by_hop, path_kept, up_kept}
use Rattle.nd_node.specs.Moments.{earlier}
use Rattle.nd_node.specs.Path.{IsPath, PathSeen, first_end, lease, neighbour_at, path_by, path_of, path_to_all}

-- it goes by this next hop
pub next_of_path : (up : Bool) (now due : ℕ) (end : Option ℕ) (next : NextHop) (found : Option Seen) → (path_by up now due end next found).next ≡ next
next_of_path up now due end next None = refl
next_of_path up now due end next (Some n) = refl

-- there is no lease where no link-layer address is kept
unleased_stage : (up : Bool) (now due : ℕ) (end : Option ℕ) (stage : Stage) → known_mac stage ≡ None
    → lease (up && is_leased (state_in stage now)) now (earlier (option_map (λ left. now + left) (left_in stage now)) due) end ≡ now
unleased_stage up now due end (Resolving retrans sent wanted waiting) none = ap (λ (b : Bool). lease b now (earlier None due) end) (and-false up)
unleased_stage up now due end (Known mac confirmed since probing) none = let never : ⊥ = cc in absurd never

unleased_by : (up : Bool) (now due : ℕ) (end : Option ℕ) (next : NextHop) (o : Option NeighbourEntry)
    → (path_by up now due end next (option_map (seen now) o)).mac ≡ None → (path_by up now due end next (option_map (seen now) o)).until ≡ now
unleased_by up now due end next None none = refl
unleased_by up now due end next (Some n) none = unleased_stage up now due end n.stage none

unleased_hop : (up : Bool) (now due : ℕ) (end : Option ℕ) (entries : List NeighbourEntry) (destination : Addr) (next : NextHop)
    → (path_by_hop up now due end entries destination next).mac ≡ None → (path_by_hop up now due end entries destination next).until ≡ now
unleased_hop up now due end entries destination no_route none = refl
unleased_hop up now due end entries destination (via key) none = unleased_by up now due end (via key) (entry_in key entries) none
unleased_hop up now due end entries destination direct none = by (holds multicast_prefix destination.0) none
  where
    by : (t : Bool) → (if t then path_to_all up now due destination else path_by up now due end direct (option_map (seen now) (entry_in (number_of destination.0) entries))).mac ≡ None
        → (if t then path_to_all up now due destination else path_by up now due end direct (option_map (seen now) (entry_in (number_of destination.0) entries))).until ≡ now
    by true none = let never : ⊥ = cc in absurd never
    by false none = unleased_by up now due end direct (entry_in (number_of destination.0) entries) none

pub unleased : {R A : Type 0} (node : Node R A) (now : ℕ) (destination : Addr) → (path_kept node now destination).mac ≡ None → (path_kept node now destination).until ≡ now
unleased node now destination none =
    unleased_hop (up_kept node) now (next_of node) (first_end node.role (open_at now node.prefixes.entries)) node.neighbours.entries destination (hop_kept node.role node now destination) none

-- to the link-layer address that is kept
pub mac_of_path : (up : Bool) (now due : ℕ) (end : Option ℕ) (next : NextHop) (o : Option NeighbourEntry) → (path_by up now due end next (option_map (seen now) o)).mac ≡ mac_at o
mac_of_path up now due end next None = refl
mac_of_path up now due end next (Some n) = refl

module _ {R A : Type 0} (stream : R → Stream) (start : Start) (node : Node R A) (c : Chronicle) (now due : ℕ) (destination : Addr) (s : Stands stream start node c) (le : last_moment start.at c ≤ now) (next_due : NextDue start c due) where
  kept : List (Lasting PrefixValue)
  kept = open_at now node.prefixes.entries

  standing : Lists same_prefix (prefix_history c) now kept
  unfolding kept
  standing = s.prefixes.lists now (omega (arith, s.prefixes_by_then, le))

  by_next : (p : PathSeen) (next : NextHop) → IsHopOf start start.role c now destination next → p.next ≡ next → p ≡ path_of (is_up start c) c now due (first_end start.role kept) next destination → IsPath start c now destination p
  by_next p next hop next_is is = record {
    hop = subst (λ (n : NextHop). IsHopOf start start.role c now destination n) (sym next_is) hop;
    prefixes = kept;
    standing = standing;
    due = due;
    next_due = next_due;
    path_is = is ∙ ap (λ (n : NextHop). path_of (is_up start c) c now due (first_end start.role kept) n destination) (sym next_is);
  }

  -- there is none
  pub path_of_none : IsHopOf start start.role c now destination no_route → IsPath start c now destination (record { next = no_route; mac = None; state = None; until = now })
  path_of_none hop = by_next _ no_route hop refl refl

  module _ (p : PathSeen) (up : Bool) (up_is : up ≡ is_up start c) where
    by_neighbour : (next : NextHop) (key : ℕ) → p ≡ path_by up now due (first_end node.role (open_at now node.prefixes.entries)) next (option_map (seen now) (entry_in key node.neighbours.entries))
        → p ≡ path_by (is_up start c) now due (first_end start.role kept) next (neighbour_at c now key)
    unfolding kept
    by_neighbour next key is =
        is ∙ (ap (λ (b : Bool). path_by b now due (first_end node.role (open_at now node.prefixes.entries)) next (option_map (seen now) (entry_in key node.neighbours.entries))) up_is
        ∙ (ap (λ (r : Role). path_by (is_up start c) now due (first_end r (open_at now node.prefixes.entries)) next (option_map (seen now) (entry_in key node.neighbours.entries))) s.role
        ∙ ap (λ (o : Option Seen). path_by (is_up start c) now due (first_end start.role (open_at now node.prefixes.entries)) next o) (seen_by_history key now node.neighbours.entries (neighbour_history c) s.neighbours)))

    -- by a router
    pub path_by_router : (key : ℕ) → IsHopOf start start.role c now destination (via key)
        → p ≡ path_by up now due (first_end node.role (open_at now node.prefixes.entries)) (via key) (option_map (seen now) (entry_in key node.neighbours.entries)) → IsPath start c now destination p
    path_by_router key hop is =
        by_next p (via key) hop (ap (λ (q : PathSeen). q.next) is ∙ next_of_path up now due _ (via key) _) (by_neighbour (via key) key is)

    -- on the link
    pub path_to_one : holds multicast_prefix destination.0 ≡ false → IsHopOf start start.role c now destination direct
        → p ≡ path_by up now due (first_end node.role (open_at now node.prefixes.entries)) direct (option_map (seen now) (entry_in (number_of destination.0) node.neighbours.entries)) → IsPath start c now destination p
    path_to_one single hop is =
        by_next p direct hop (ap (λ (q : PathSeen). q.next) is ∙ next_of_path up now due _ direct _)
        (by_neighbour direct (number_of destination.0) is ∙ sym (cond-false (holds multicast_prefix destination.0) (path_to_all (is_up start c) now due destination) _ single))

    pub path_of_all : holds multicast_prefix destination.0 ≡ true → IsHopOf start start.role c now destination direct → p ≡ path_to_all up now due destination → IsPath start c now destination p
    path_of_all multicast hop is =
        by_next p direct hop (ap (λ (q : PathSeen). q.next) is)
        (is ∙ (ap (λ (b : Bool). path_to_all b now due destination) up_is ∙ sym (cond-true (holds multicast_prefix destination.0) (path_to_all (is_up start c) now due destination) _ multicast)))

-- ---- the path by the tables

module _ {R A : Type 0} (node : Node R A) (now : ℕ) (destination : Addr) where
  by_hop : Bool → ℕ → NextHop → PathSeen
  by_hop up due next = path_by_hop up now due (first_end node.role (open_at now node.prefixes.entries)) node.neighbours.entries destination next

  -- by what a node returns
  kept_is : (up : Bool) (due : ℕ) (next : NextHop) → up ≡ up_kept node → due ≡ next_of node → next ≡ hop_kept node.role node now destination → by_hop up due next ≡ path_kept node now destination
  unfolding by_hop
  kept_is up due next up_is due_is next_is =
      ap (λ (b : Bool). by_hop b due next) up_is ∙ (ap (λ (d : ℕ). by_hop (up_kept node) d next) due_is ∙ ap (λ (h : NextHop). by_hop (up_kept node) (next_of node) h) next_is)

  pub kept_of_none : no_route ≡ hop_kept node.role node now destination → record { next = no_route; mac = None; state = None; until = now } ≡ path_kept node now destination
  unfolding by_hop
  kept_of_none is = kept_is (up_kept node) (next_of node) no_route refl refl is

  module _ (p : PathSeen) (up : Bool) (due : ℕ) (up_is : up ≡ up_kept node) (due_is : due ≡ next_of node) where
    pub kept_by_router : (key : ℕ) → via key ≡ hop_kept node.role node now destination
        → p ≡ path_by up now due (first_end node.role (open_at now node.prefixes.entries)) (via key) (option_map (seen now) (entry_in key node.neighbours.entries)) → p ≡ path_kept node now destination
    unfolding by_hop
    kept_by_router key next_is is = is ∙ kept_is up due (via key) up_is due_is next_is

    pub kept_to_one : direct ≡ hop_kept node.role node now destination → holds multicast_prefix destination.0 ≡ false
        → p ≡ path_by up now due (first_end node.role (open_at now node.prefixes.entries)) direct (option_map (seen now) (entry_in (number_of destination.0) node.neighbours.entries)) → p ≡ path_kept node now destination
    unfolding by_hop
    kept_to_one next_is single is =
        is ∙ (sym (cond-false (holds multicast_prefix destination.0) (path_to_all up now due destination) _ single) ∙ kept_is up due direct up_is due_is next_is)

    pub kept_to_all : direct ≡ hop_kept node.role node now destination → holds multicast_prefix destination.0 ≡ true → p ≡ path_to_all up now due destination → p ≡ path_kept node now destination
    unfolding by_hop
    kept_to_all next_is multicast is =
        is ∙ (sym (cond-true (holds multicast_prefix destination.0) (path_to_all up now due destination) _ multicast) ∙ kept_is up due direct up_is due_is next_is)

-- ---- the time that is left

module _ {R A : Type 0} (node : Node R A) (now : ℕ) (destination : Addr) where
  pub left_of_none : no_route ≡ hop_kept node.role node now destination → None ≡ left_kept node now destination
  left_of_none is = ap (λ (h : NextHop). left_by_hop now node.neighbours.entries destination h) is

  pub left_by_router : (key : ℕ) → via key ≡ hop_kept node.role node now destination → left_of (option_map (seen now) (entry_in key node.neighbours.entries)) ≡ left_kept node now destination
  left_by_router key is = ap (λ (h : NextHop). left_by_hop now node.neighbours.entries destination h) is

  pub left_to_one : direct ≡ hop_kept node.role node now destination → holds multicast_prefix destination.0 ≡ false
      → left_of (option_map (seen now) (entry_in (number_of destination.0) node.neighbours.entries)) ≡ left_kept node now destination
  left_to_one is single =
      sym (cond-false (holds multicast_prefix destination.0) None (left_of (option_map (seen now) (entry_in (number_of destination.0) node.neighbours.entries))) single)
      ∙ ap (λ (h : NextHop). left_by_hop now node.neighbours.entries destination h) is

  pub left_to_all : direct ≡ hop_kept node.role node now destination → holds multicast_prefix destination.0 ≡ true → None ≡ left_kept node now destination
  left_to_all is multicast =
      sym (cond-true (holds multicast_prefix destination.0) None (left_of (option_map (seen now) (entry_in (number_of destination.0) node.neighbours.entries))) multicast)
      ∙ ap (λ (h : NextHop). left_by_hop now node.neighbours.entries destination h) is
