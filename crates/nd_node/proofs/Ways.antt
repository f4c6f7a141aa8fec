-- A question where packets go is answered by the way of the path, where the link-layer address is known.
use Rattle.std.proofs.Common.{◌≡◌, ℕ, true, false, List, Option, Some, None, refl, sym, ◌∙◌, ap}
use Rattle.std.specs.Prelude.{IfSome, is_some}
use Rattle.std.specs.Option.{option_map}
use Rattle.std.proofs.lemmas.Bool.{cond-false, cond-true}
use Rattle.nd_addr.specs.declared.addr.Addr.{Addr}
use Rattle.nd_addr.specs.declared.mac.Mac.{Mac}
use Rattle.nd_addr.specs.declared.role.Role.{Role}
use Rattle.nd_addr.specs.declared.role.Role.TheVariants.{Host, Router}
use Rattle.nd_addr.specs.Kind.{multicast_prefix}
use Rattle.nd_addr.specs.Number.{holds, number_of}
use Rattle.nd_compose.specs.Frames.{multicast_mac}
use Rattle.nd_table.specs.Listing.{open_at}
use Rattle.nd_neighbour.specs.EntryKept.{Known, NeighbourEntry, Resolving, Stage, known_mac}
use Rattle.nd_neighbour.specs.LeaseKept.{LeavesMacs, mac_at}
use Rattle.nd_neighbour.specs.ShownKept.{seen}
use Rattle.nd_neighbour.specs.TableKept.{Table, entry_in}
use Rattle.nd_neighbour.specs.Wanting.{Wanting, mac_in}
use Rattle.nd_neighbour.specs.WantingKept.{wanting_in, wanting_to}
use Rattle.nd_nexthop.specs.Choice as choices
use Rattle.nd_nexthop.specs.Choice.{target_in}
use Rattle.nd_nexthop.specs.DefaultRouter.{DefaultRouter}
use Rattle.nd_nexthop.specs.NextHop.{NextHop, direct, hop, via}
use Rattle.nd_out.specs.declared.out.Way.TheVariants as ways
use Rattle.nd_steps.specs.DestinationCache.{linked_by, own_in}
use Rattle.nd_steps.specs.NextHop.{candidates_in, is_resolved}
use Rattle.nd_steps.proofs.Remembering.{candidates_same}
use Rattle.nd_node.specs.declared.node.Node.{Node}
use Rattle.nd_node.specs.declared.resolve.Resolution.{Resolution}
use Rattle.nd_node.specs.declared.resolve.Resolution.TheVariants as answers
use Rattle.nd_node.specs.NodeKept.{next_of}
use Rattle.nd_node.specs.Path.{PathSeen, first_end, path_by, path_to_all}
use Rattle.nd_node.specs.PathKept.{LeavesWays, hop_kept, path_by_hop, path_kept, towards, up_kept}
use Rattle.nd_node.specs.ResolveKept.{IsWay, LeadsTo}
use Rattle.nd_node.proofs.Paths.{mac_of_path, next_of_path}

-- ---- what leaves the ways

resolved_by_mac : (o : Option NeighbourEntry) → is_resolved o ≡ is_some (mac_at o)
resolved_by_mac None = refl
resolved_by_mac (Some n) = refl

module _ {R A : Type 0} (old : Node R A) (after : Table) (choice : choices.Table) (at : ℕ) (redirects : choice.redirects ≡ old.choice.redirects)
    (macs : LeavesMacs old.neighbours.entries after.entries) where
  abbrev later : Node R A
  later = record old { neighbours = after; choice = choice; last = at }

  same_resolved : (key : ℕ) → is_resolved (entry_in key after.entries) ≡ is_resolved (entry_in key old.neighbours.entries)
  same_resolved key = resolved_by_mac (entry_in key after.entries) ∙ (ap is_some (macs key) ∙ sym (resolved_by_mac (entry_in key old.neighbours.entries)))

  hop_same : (role : Role) (now : ℕ) (destination : Addr) → hop_kept role later now destination ≡ hop_kept role old now destination
  hop_same Host now destination =
      ap (λ (r : choices.Redirects). hop (own_in old.addresses.addresses) (linked_by (open_at now old.prefixes.entries)) (candidates_in after.entries old.routers) (target_in (number_of destination.0) r.entries) destination.0) redirects
      ∙ ap (λ (c : List DefaultRouter). hop (own_in old.addresses.addresses) (linked_by (open_at now old.prefixes.entries)) c (target_in (number_of destination.0) old.choice.redirects.entries) destination.0)
      (candidates_same old.neighbours.entries after.entries old.routers same_resolved)
  hop_same Router now destination = refl

  -- redirects and link-layer addresses that stay
  pub ways_left : LeavesWays old later
  ways_left = record { hop = hop_same old.role; macs = macs }

ways_then : {R A : Type 0} (a b c : Node R A) → LeavesWays a b → LeavesWays b c → LeavesWays a c
ways_then a b c ab bc = record { hop = λ now destination. bc.hop now destination ∙ ab.hop now destination; macs = λ key. bc.macs key ∙ ab.macs key }

-- ---- a wish

known_wanted : (k : Stage) → mac_in (wanting_to k) ≡ known_mac k
known_wanted (Resolving r t b ws) = refl
known_wanted (Known mac c since p) = refl

-- the address that is known is that of an entry
pub known_by_wish : (o : Option NeighbourEntry) (want : Wanting) (result : Option Mac) → want ≡ wanting_in o → option_map (λ mac. number_of mac.0) result ≡ mac_in want
    → IfSome result (λ mac. (is_some o ≡ true) × (mac_at o ≡ Some (number_of mac.0)))
known_by_wish o want None is known = tt
known_by_wish None want (Some mac) is known = absurd (let never : Some (number_of mac.0) ≡ None = known ∙ ap mac_in is in cc)
known_by_wish (Some n) want (Some mac) is known = (refl, sym (known ∙ (ap mac_in is ∙ known_wanted n.stage)))

-- behind a step that leaves the ways
pub leads_to : {R A : Type 0} (to : Addr) (old mid new : Node R A) → LeavesWays old mid → (known : Option Mac)
    → IfSome known (λ mac. LeavesWays mid new × (mac_at (entry_in (number_of to.0) new.neighbours.entries) ≡ Some (number_of mac.0))) → LeadsTo to old new (answers.Path (ways.To to known))
leads_to to old mid new first None h = tt
leads_to to old mid new first (Some mac) h = (refl, ways_then old mid new first h.0, h.1)

-- ---- by the next hop

-- of a neighbour
by_neighbour : {R A : Type 0} (old new : Node R A) (now : ℕ) (destination to : Addr) (mac : Mac) (next : NextHop) (o : Option NeighbourEntry) → mac_at o ≡ Some (number_of mac.0) → towards next destination ≡ number_of to.0
    → path_kept new now destination ≡ path_by (up_kept new) now (next_of new) (first_end new.role (open_at now new.prefixes.entries)) next (option_map (seen now) o) → IsWay new now destination (answers.Path (ways.To to (Some mac)))
by_neighbour old new now destination to mac next o known goes is =
    let end = first_end new.role (open_at now new.prefixes.entries) in (
      ap (λ (p : PathSeen). towards p.next destination) is ∙ (ap (λ (h : NextHop). towards h destination) (next_of_path (up_kept new) now (next_of new) end next (option_map (seen now) o)) ∙ goes),
      ap (λ (p : PathSeen). p.mac) is ∙ (mac_of_path (up_kept new) now (next_of new) end next o ∙ known),
    )

module _ {R A : Type 0} (old new : Node R A) (now : ℕ) (destination : Addr) where
  abbrev by_hop : NextHop → PathSeen
  by_hop next = path_by_hop (up_kept new) now (next_of new) (first_end new.role (open_at now new.prefixes.entries)) new.neighbours.entries destination next

  -- a router
  pub way_by_router : (router : Addr) → hop_kept old.role old now destination ≡ via (number_of router.0) → (r : Resolution) → LeadsTo router old new r → IsWay new now destination r
  way_by_router router goes (answers.Path (ways.To reached (Some mac))) leads =
      by_neighbour old new now destination reached mac (via (number_of router.0)) (entry_in (number_of router.0) new.neighbours.entries) leads.2 (ap (λ (a : Addr). number_of a.0) (sym leads.0))
      (ap by_hop (leads.1.hop now destination ∙ goes))
  way_by_router router goes (answers.Path (ways.To reached None)) leads = tt
  way_by_router router goes (answers.Path ways.NoRoute) leads = tt
  way_by_router router goes (answers.Refused refusal) leads = tt

  -- the destination itself
  pub way_to_one : hop_kept old.role old now destination ≡ direct → holds multicast_prefix destination.0 ≡ false → (r : Resolution) → LeadsTo destination old new r → IsWay new now destination r
  way_to_one goes single (answers.Path (ways.To reached (Some mac))) leads =
      by_neighbour old new now destination reached mac direct (entry_in (number_of destination.0) new.neighbours.entries) leads.2 (ap (λ (a : Addr). number_of a.0) (sym leads.0))
      (ap by_hop (leads.1.hop now destination ∙ goes) ∙ cond-false (holds multicast_prefix destination.0) _ _ single)
  way_to_one goes single (answers.Path (ways.To reached None)) leads = tt
  way_to_one goes single (answers.Path ways.NoRoute) leads = tt
  way_to_one goes single (answers.Refused refusal) leads = tt

  -- all of a group
  pub way_to_all : (mac : Mac) → hop_kept old.role old now destination ≡ direct → holds multicast_prefix destination.0 ≡ true → mac.0 ≡ (multicast_mac destination).0 → new ≡ record old { last = now }
      → IsWay new now destination (answers.Path (ways.To destination (Some mac)))
  way_to_all mac goes multicast mac_is same =
      let hop_is : hop_kept new.role new now destination ≡ direct = ap (λ (n : Node R A). hop_kept n.role n now destination) same ∙ ((ways_left old old.neighbours old.choice now refl (λ key. refl)).hop now destination ∙ goes) in
      let is : path_kept new now destination ≡ path_to_all (up_kept new) now (next_of new) destination = ap by_hop hop_is ∙ cond-true (holds multicast_prefix destination.0) _ _ multicast in (
        ap (λ (p : PathSeen). towards p.next destination) is,
        ap (λ (p : PathSeen). p.mac) is ∙ ap (λ (bytes : List ℕ). Some (number_of bytes)) (sym mac_is),
      )
