-- Each destination has a next hop, and of each frame something is made.
use Rattle.std.proofs.Common.{◌≡◌, ℕ, ◌<◌, Bool, true, false, List, [], refl, sym, ◌∙◌, ap, subst, ◌⊎◌, inl, inr}
use Rattle.std.specs.Prelude.{map, ◌≢◌, ◌||◌}
use Rattle.std.proofs.lemmas.Bool.Decides.{eqb_tells}
use Rattle.std.proofs.lemmas.Bool.{true≢false, cases_lt}
use Rattle.nd_addr.specs.declared.addr.Addr.{Addr}
use Rattle.nd_addr.specs.declared.role.Role.{Role}
use Rattle.nd_addr.specs.declared.role.Role.TheVariants.{Host, Router}
use Rattle.nd_addr.specs.Ip6.{PacketParts}
use Rattle.nd_addr.specs.Kind.{all_nodes_address, all_routers_address, solicited_node_of}
use Rattle.nd_addr.specs.Number.{addr_at, number_of}
use Rattle.nd_addr.specs.Same.{same_prefix, prefixes_tell}
use Rattle.nd_addr.proofs.Numbered.{addr_back, sixteen}
use Rattle.nd_decode.specs.Message.{Parts}
use Rattle.nd_decode.specs.declared.body.Body.{Body}
use Rattle.nd_decode.specs.declared.body.Body.TheVariants as bodies
use Rattle.nd_table.specs.declared.lasting.Lasting.{Lasting}
use Rattle.nd_nexthop.specs.History.{kept}
use Rattle.nd_nexthop.specs.NextHop.{NextHop, direct, via, no_route, hop}
use Rattle.nd_routers.specs.History.{announcements}
use Rattle.nd_routers.specs.OnLink.{is_held}
use Rattle.nd_routers.specs.Routers.{same}
use Rattle.nd_forwarding.specs.Forward.{may_be_forwarded}
use Rattle.nd_slaac.specs.State as states
use Rattle.nd_validity.specs.Hearing.{Outcome, valid, other, dropped, hearing_of}
use Rattle.nd_validity.proofs.Deciding.{hears}
use Rattle.nd_chronicle.specs.Start.{Start}
use Rattle.nd_chronicle.specs.Happening.{Chronicle}
use Rattle.nd_chronicle.specs.Histories.{router_history, prefix_history, redirect_history, address_history}
use Rattle.nd_chronicle.specs.NextHop.{candidate, IsNextHop, routed_hop, IsHopOf}
use Rattle.nd_chronicle.specs.OwnAddress.{story_of, is_assigned, is_own, is_up}
use Rattle.nd_chronicle.specs.Reading.{read_outcome}
use Rattle.nd_chronicle.specs.Solicited.{outcome_at}
use Rattle.nd_chronicle.specs.Hearing.{came_to, is_allowed, is_allowed_packet, is_foreign, IsCounted, IsOurs, takes_target, is_awake, IsForUs, IsPacketForUs, IsInTransit, FromFirstHop, NotFromFirstHop, Verdict, Judges, IsDropped, IsTaken, IsStrange, IsMisdirected, IsPacket, IsPassing, IsStrangePacket, IsHeard}
use Rattle.nd_existence.proofs.Deciding.{either_or, both_or, true_or, false_or, same_or, some_below}
use Rattle.nd_existence.proofs.Tables.{address_bound, nothing_of_address}
use Rattle.nd_existence.proofs.Listings.{listed}
use Rattle.nd_existence.proofs.Failed.{failed_in, failures}

-- ---- next hops

pub next_hop : (start : Start) (c : Chronicle) (now : ℕ) (destination : Addr) → (next : NextHop) × IsNextHop start c now destination next
next_hop start c now destination =
    let routers = listed same eqb_tells (announcements (router_history c)) now in
    let prefixes = listed same_prefix prefixes_tell (prefix_history c) now in
    let failed = failed_in (router_history c) in
    let all = map (λ (e : Lasting ℕ). candidate c failed e.key) routers.0 in (
      hop (is_own c) (λ (a : List ℕ). is_held a prefixes.0) all (kept start.limits.redirects (number_of destination.0) (redirect_history c)) destination.0,
      record {
        prefixes = prefixes.0;
        standing = prefixes.1;
        routers = all;
        those = record { entries = routers.0; listed = routers.1; failed = failed; failures = failures (router_history c); routers_are = refl };
        next_is = refl;
      },
    )

pub hop_of : (start : Start) (role : Role) (c : Chronicle) (now : ℕ) (destination : Addr) → (next : NextHop) × IsHopOf start role c now destination next
hop_of start Host c now destination = next_hop start c now destination
hop_of start Router c now destination = (routed_hop c destination, refl)

-- ---- decisions

key_is : (j k : ℕ) → via j ≡ via k → j ≡ k
key_is j k e = cc

via_or_not : (next : NextHop) (k : ℕ) → (next ≡ via k) ⊎ (next ≢ via k)
via_or_not direct k = inr (λ e. let no : ⊥ = cc in no)
via_or_not no_route k = inr (λ e. let no : ⊥ = cc in no)
via_or_not (via j) k = elim (eqb_tells j k) [
  | inl e ↦ inl (ap via e.1)
  | inr d ↦ inr (λ e. d.1 (key_is j k e))
]

router_or : (role : Role) → (role ≡ Router) ⊎ (role ≡ Router → ⊥)
router_or Router = inl refl
router_or Host = inr (λ e. let no : ⊥ = cc in no)

-- ---- to whom a packet goes

-- an address that counts is one of which the history tells
abbrev Counts : Chronicle → (List ℕ → Bool) → Type 0
Counts c counts = (a : List ℕ) → counts a ≡ true → number_of a < address_bound (address_history c)

below : (c : Chronicle) (k : ℕ) (tests : _ → Bool) → tests [] ≡ false → tests (story_of c k) ≡ true → k < address_bound (address_history c)
below c k tests none h = elim (cases_lt k (address_bound (address_history c))) [
  | inl lt ↦ lt
  | inr le ↦ absurd (true≢false (sym h ∙ (ap tests (nothing_of_address k (address_history c) le) ∙ none)))
]

own_counts : (c : Chronicle) → Counts c (is_own c)
own_counts c a h = below c (number_of a) (λ s. states.is_tentative s || states.is_assigned s) refl h

assigned_counts : (c : Chronicle) → Counts c (is_assigned c)
assigned_counts c a h = below c (number_of a) (λ s. states.is_assigned s) refl h

module _ (c : Chronicle) (counts : List ℕ → Bool) (counted : Counts c counts) (destination : Addr) where
  abbrev IsAt : ℕ → Type 0
  IsAt key = (counts (addr_at key).0 ≡ true) × ((destination.0 ≡ (addr_at key).0) ⊎ (destination.0 ≡ solicited_node_of (addr_at key).0))

  at_or : (key : ℕ) → IsAt key ⊎ (IsAt key → ⊥)
  at_or key = both_or (true_or (counts (addr_at key).0)) (either_or (same_or destination.0 (addr_at key).0) (same_or destination.0 (solicited_node_of (addr_at key).0)))

  -- the number that its address has
  at_number : (key : ℕ) → IsAt key → IsAt (number_of (addr_at key).0)
  at_number key p =
      subst (λ (a : Addr). (counts a.0 ≡ true) × ((destination.0 ≡ a.0) ⊎ (destination.0 ≡ solicited_node_of a.0))) (sym (addr_back (addr_at key) (sixteen key))) p

  counted_or : IsCounted counts destination ⊎ (IsCounted counts destination → ⊥)
  counted_or = elim (some_below IsAt at_or (address_bound (address_history c))) [
    | inl p ↦ inl (record { key = p.0; counted = p.1.0; to = p.1.1 })
    | inr none ↦ inr (λ is. none (number_of (addr_at is.key).0) (counted (addr_at is.key).0 is.counted) (at_number is.key (is.counted, is.to)))
  ]

  pub ours_or : (start : Start) → IsOurs start counts destination ⊎ (IsOurs start counts destination → ⊥)
  ours_or start =
      either_or (same_or destination.0 all_nodes_address)
      (either_or (both_or (router_or start.role) (same_or destination.0 all_routers_address)) counted_or)

module _ (start : Start) (c : Chronicle) where
  for_us_or : (source destination : Addr) (message : Parts) → IsForUs start c source destination message ⊎ (IsForUs start c source destination message → ⊥)
  for_us_or source destination message =
      elim (both_or (ours_or c (is_own c) (own_counts c) destination start) (both_or (true_or (takes_target c source message.body)) (both_or (true_or (is_awake start c source message.body))
      (both_or (true_or (is_foreign start (is_assigned c) source)) (true_or (is_allowed start.policies source destination message)))))) [
        | inl p ↦ inl (record { destination_is = p.0; target = p.1.0; awake = p.1.1.0; foreign = p.1.1.1.0; allowed = p.1.1.1.1 })
        | inr none ↦ inr (λ is. none (is.destination_is, (is.target, (is.awake, (is.foreign, is.allowed)))))
      ]

  packet_for_us_or : (packet : PacketParts) → IsPacketForUs start c packet ⊎ (IsPacketForUs start c packet → ⊥)
  packet_for_us_or packet =
      elim (both_or (ours_or c (is_assigned c) (assigned_counts c) packet.header.destination start) (both_or (true_or (is_up start c)) (true_or (is_allowed_packet start.policies packet.header.source)))) [
        | inl p ↦ inl (record { destination_is = p.0; up = p.1.0; allowed = p.1.1 })
        | inr none ↦ inr (λ is. none (is.destination_is, (is.up, is.allowed)))
      ]

  in_transit_or : (frame : List ℕ) (packet : PacketParts) → (IsPacketForUs start c packet → ⊥) → IsInTransit start c frame packet ⊎ (IsInTransit start c frame packet → ⊥)
  in_transit_or frame packet not_ours =
      elim (both_or (router_or start.role) (both_or (false_or (is_own c packet.header.destination.0)) (both_or (true_or (may_be_forwarded packet.header)) (both_or (true_or (is_up start c)) (both_or (true_or (came_to start frame)) (true_or (is_foreign start (is_own c) packet.header.source))))))) [
        | inl p ↦ inl (record { role = p.0; not_ours = not_ours; not_own = p.1.0; may = p.1.1.0; up = p.1.1.1.0; came = p.1.1.1.1.0; foreign = p.1.1.1.1.1 })
        | inr none ↦ inr (λ is. none (is.role, (is.not_own, (is.may, (is.up, (is.came, is.foreign))))))
      ]

-- ---- what is heard

module _ (start : Start) (c : Chronicle) (now : ℕ) where
  first_hop_or : (source : Addr) (body : Body) → FromFirstHop start c now source body ⊎ NotFromFirstHop start c now source body
  first_hop_or source (bodies.Redirect r) =
      let next = next_hop start c now r.destination in
      elim (via_or_not next.0 (number_of source.0)) [
        | inl e ↦ inl (subst (λ (n : NextHop). IsNextHop start c now r.destination n) e next.1)
        | inr differs ↦ inr (next.0, next.1, differs)
      ]
  first_hop_or source bodies.Rs = inl tt
  first_hop_or source (bodies.Ra ra) = inl tt
  first_hop_or source (bodies.Ns ns) = inl tt
  first_hop_or source (bodies.Na na) = inl tt

  judged : (frame : List ℕ) (said : Outcome) → (verdict : Verdict) × Judges start c now frame said verdict
  judged frame (dropped why) = (_, IsDropped)
  judged frame (valid source destination message) = elim (for_us_or start c source destination message) [
    | inl us ↦ elim (first_hop_or source message.body) [ inl from ↦ (_, IsTaken us from) | inr misdirected ↦ (_, IsMisdirected us misdirected) ]
    | inr strange ↦ (_, IsStrange strange)
  ]
  judged frame (other packet) = elim (packet_for_us_or start c packet) [
    | inl us ↦ (_, IsPacket us)
    | inr strange ↦ elim (in_transit_or start c frame packet strange) [ inl passing ↦ (_, IsPassing passing) | inr none ↦ (_, IsStrangePacket strange none) ]
  ]

  -- something is made of each frame
  pub frame_heard : (frame : List ℕ) → (verdict : Verdict) × IsHeard start c now frame verdict
  frame_heard frame =
      let said = hearing_of frame start.role in
      let read = read_outcome start.policies start.mac said in
      let j = judged frame (outcome_at start c now read) in (
        j.0,
        record {
          outcome = outcome_at start c now read;
          by_frame = record { read = read; by_frame = record { said = said; by_frame = hears frame start.role; as_read = refl }; at_moment = refl };
          by_node = j.1;
        },
      )
