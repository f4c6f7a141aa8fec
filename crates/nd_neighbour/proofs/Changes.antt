-- What one more row makes of a neighbour's node.
use Rattle.std.proofs.Common.{◌≡◌, ◌≤◌, ℕ, max, ◌+◌, ◌*◌, Bool, true, false, cond, eqb, List, [], ◌∷◌, ◌++◌, Option, Some, None, refl, sym, ◌∙◌, ap, arith, inl, inr}
use Rattle.std.specs.Prelude.{is_some}
use Rattle.std.proofs.lemmas.Bool.Decides.{nat_tests}
use Rattle.std.proofs.lemmas.Bool.{true≢false, eqb-true, cases_Bool}
use Rattle.nd_neighbour.specs.declared.news.Flags.{Flags}
use Rattle.nd_neighbour.specs.History.{Given, Advertised, Marked, Asked, Solicited, Waits, Wanted, Used, Probed, Confirmed, Story}
use Rattle.nd_neighbour.specs.EntryKept.{NeighbourEntry, with_mark, stale_entry}
use Rattle.nd_neighbour.specs.LinkLayerAddressKept.{given, mark_or}
use Rattle.nd_neighbour.specs.ReachabilityConfirmation.{Evidence, Confirms, Disturbs}
use Rattle.nd_neighbour.specs.ReachabilityConfirmationKept.{confirmed}
use Rattle.nd_neighbour.specs.NeighborAdvertisement.{taken, conforms, advert_says}
use Rattle.nd_neighbour.specs.NeighborAdvertisementKept.{advertised}
use Rattle.nd_neighbour.specs.AddressResolution.{Resolution, one_more, with_wish, resolution_of, room_in, packets_of, waiting_of}
use Rattle.nd_neighbour.specs.AddressResolutionKept.{asked_entry}
use Rattle.nd_neighbour.specs.UnreachabilityDetection.{Use, goes_on}
use Rattle.nd_neighbour.specs.Story.{is_present, mac_of, is_router, says, or_else, evidence_of, use_of, due_by, due_of}
use Rattle.nd_neighbour.specs.StoryKept.{stage_by, the_entry, entry_of}
use Rattle.nd_neighbour.specs.DueKept.{solicited, falls, stays}
use Rattle.nd_neighbour.specs.SendingKept.{used}
use Rattle.nd_neighbour.specs.WantingKept.{wished, wished_entry}
use Rattle.circular_buffer.specs.Buffer.{keep_last}
use Rattle.nd_neighbour.proofs.LastThree.{keep_more, keep_short}
use Rattle.nd_neighbour.proofs.Stories.{absent_mac, absent_router, resolving, known_evidence, wish_room}

-- a node by its parts
abbrev made : ℕ → Bool → Option ℕ → Option Evidence → Option Use → Option Resolution → List (List ℕ) → NeighbourEntry
made key router mac evidence use' resolution waiting =
    record { key = key; router = router; due = due_by mac evidence use' resolution; stage = stage_by mac evidence use' resolution waiting }

given_by : (key at mac : ℕ) (mark : Option Bool) (router : Bool) (known : Option ℕ) (w : Option Evidence) (u : Option Use) (r : Option Resolution) (ws : List (List ℕ)) → let said = says true known w at (Given mac mark) in made key (mark_or mark router) (Some mac) (or_else said w) (cond (is_some said) None (goes_on w u at (Given mac mark))) r ws ≡ given at mac mark (made key router known w u r ws)
given_by key at mac mark router None w u r ws = refl
given_by key at mac mark router (Some known) w None r ws = grind (arith, nat_tests)
given_by key at mac mark router (Some known) w (Some u) r ws = grind (arith, nat_tests)

-- with another address than the one that is known
other_by : (key at mac reachable : ℕ) (router says_router solicited' overrides : Bool) (known : ℕ) (w : Option Evidence) (u : Option Use) (r : Option Resolution) (ws : List (List ℕ)) → let flags : Flags = record { router = says_router; solicited = solicited'; overrides = overrides } in let said = advert_says flags (Some mac) reachable (Some known) w at in eqb mac known ≡ false → made key (cond (conforms overrides (Some mac) (Some known)) says_router router) (taken overrides (Some mac) (Some known)) (or_else said w) (cond (is_some said) None (goes_on w u at (Advertised flags (Some mac) reachable))) r ws ≡ advertised at flags (Some mac) reachable (made key router (Some known) w u r ws)
other_by key at mac reachable router says_router true true known w u r ws other = rw other refl
other_by key at mac reachable router says_router false true known w u r ws other = rw other refl
other_by key at mac reachable router says_router solicited' false known None None r ws other = rw other refl
other_by key at mac reachable router says_router solicited' false known None (Some u) r ws other = rw other refl
other_by key at mac reachable router says_router solicited' false known (Some (Disturbs d)) None r ws other = rw other refl
other_by key at mac reachable router says_router solicited' false known (Some (Disturbs d)) (Some u) r ws other = rw other refl
other_by key at mac reachable router says_router solicited' false known (Some (Confirms d l)) None r ws other = rw other (grind (arith, nat_tests))
other_by key at mac reachable router says_router solicited' false known (Some (Confirms d l)) (Some u) r ws other = rw other (grind (arith, nat_tests))

-- with the address that is known
same_by : (key at mac reachable : ℕ) (router says_router solicited' overrides : Bool) (known : ℕ) (w : Option Evidence) (u : Option Use) (r : Option Resolution) (ws : List (List ℕ)) → let flags : Flags = record { router = says_router; solicited = solicited'; overrides = overrides } in let said = advert_says flags (Some mac) reachable (Some known) w at in eqb mac known ≡ true → mac ≡ known → made key (cond (conforms overrides (Some mac) (Some known)) says_router router) (taken overrides (Some mac) (Some known)) (or_else said w) (cond (is_some said) None (goes_on w u at (Advertised flags (Some mac) reachable))) r ws ≡ advertised at flags (Some mac) reachable (made key router (Some known) w u r ws)
same_by key at mac reachable router says_router true true known w u r ws same is = rw (same, is) refl
same_by key at mac reachable router says_router true false known w u r ws same is = rw same refl
same_by key at mac reachable router says_router false true known w None r ws same is = rw (same, is) refl
same_by key at mac reachable router says_router false true known w (Some u) r ws same is = rw (same, is) refl
same_by key at mac reachable router says_router false false known w None r ws same is = rw same refl
same_by key at mac reachable router says_router false false known w (Some u) r ws same is = rw same refl

advertised_by : (key at reachable : ℕ) (mac : Option ℕ) (router says_router solicited' overrides : Bool) (known : Option ℕ) (w : Option Evidence) (u : Option Use) (r : Option Resolution) (ws : List (List ℕ)) → let flags : Flags = record { router = says_router; solicited = solicited'; overrides = overrides } in let said = advert_says flags mac reachable known w at in made key (cond (conforms overrides mac known) says_router router) (taken overrides mac known) (or_else said w) (cond (is_some said) None (goes_on w u at (Advertised flags mac reachable))) r ws ≡ advertised at flags mac reachable (made key router known w u r ws)
advertised_by key at reachable None router says_router solicited' overrides None w u r ws = refl
advertised_by key at reachable None router says_router true overrides (Some known) w u r ws = refl
advertised_by key at reachable None router says_router false overrides (Some known) w None r ws = refl
advertised_by key at reachable None router says_router false overrides (Some known) w (Some u) r ws = refl
advertised_by key at reachable (Some mac) router says_router true overrides None w u r ws = refl
advertised_by key at reachable (Some mac) router says_router false overrides None w u r ws = refl
advertised_by key at reachable (Some mac) router says_router solicited' overrides (Some known) w u r ws =
    elim (cases_Bool (eqb mac known)) [
      | inl same ↦ same_by key at mac reachable router says_router solicited' overrides known w u r ws same (eqb-true mac known same)
      | inr other ↦ other_by key at mac reachable router says_router solicited' overrides known w u r ws other
    ]

marked_by : (key at : ℕ) (router mark : Bool) (known : Option ℕ) (w : Option Evidence) (u : Option Use) (r : Option Resolution) (ws : List (List ℕ)) → made key mark known w (goes_on w u at (Marked mark)) r ws ≡ with_mark mark (made key router known w u r ws)
marked_by key at router mark known w None r ws = refl
marked_by key at router mark known w (Some u) r ws = refl

confirmed_by : (key at reachable : ℕ) (router : Bool) (known : Option ℕ) (w : Option Evidence) (u : Option Use) (r : Option Resolution) (ws : List (List ℕ)) → let said = says true known w at (Confirmed reachable) in made key router known (or_else said w) (cond (is_some said) None (goes_on w u at (Confirmed reachable))) r ws ≡ confirmed at reachable (made key router known w u r ws)
confirmed_by key at reachable router None w u r ws = refl
confirmed_by key at reachable router (Some known) w u r ws = refl

used_by : (key at retrans mac : ℕ) (packet : List ℕ) (router : Bool) (w : Option Evidence) (u : Option Use) (r : Option Resolution) (ws : List (List ℕ)) → is_some w ≡ true → made key router (Some mac) w (goes_on w u at (Used retrans)) r ws ≡ used at retrans packet (made key router (Some mac) w u r ws)
used_by key at retrans mac packet router None u r ws h = absurd (true≢false (sym h))
used_by key at retrans mac packet router (Some (Confirms d l)) None r ws h = grind (arith, nat_tests)
used_by key at retrans mac packet router (Some (Disturbs d)) None r ws h = grind (arith, nat_tests)
used_by key at retrans mac packet router (Some w) (Some u) r ws h = refl

waits_by : (key at retrans : ℕ) (packet : List ℕ) (router : Bool) (w : Option Evidence) (u v : Option Use) (r : Option Resolution) (ps : List (List ℕ)) → made key router None w v r (keep_last (room_in r) (ps ++ packet ∷ [])) ≡ used at retrans packet (made key router None w u r (keep_last (room_in r) ps))
waits_by key at retrans packet router w u v None ps = rw (keep_more 0 ps packet) refl
waits_by key at retrans packet router w u v (Some r) ps = rw (keep_more (max 1 r.room) ps packet) refl

wished_by : (key at retrans : ℕ) (router : Bool) (w : Option Evidence) (u v : Option Use) (r : Option Resolution) (ws : List (List ℕ)) → is_some r ≡ true → made key router None w v (with_wish r) ws ≡ wished at retrans (made key router None w u r ws)
wished_by key at retrans router w u v None ws h = absurd (true≢false (sym h))
wished_by key at retrans router w u v (Some r) ws h = refl

-- a further solicitation leaves the room
room_more : (r : Option Resolution) → room_in (one_more r) ≡ room_in r
room_more None = refl
room_more (Some r) = refl

solicited_by : (key at : ℕ) (router : Bool) (w : Option Evidence) (u v : Option Use) (r : Option Resolution) (ws : List (List ℕ)) → is_some r ≡ true → at ≡ due_by None w u r → made key router None w v (one_more r) ws ≡ solicited at (made key router None w u r ws)
solicited_by key at router w u v None ws h is = absurd (true≢false (sym h))
solicited_by key at router w u v (Some r) ws h is =
    let e : r.at + (r.more + 1 + 1) * r.retrans ≡ at + r.retrans = omega (arith, is) in
    rw e refl

probed_by : (key at mac : ℕ) (router : Bool) (w : Option Evidence) (u : Option Use) (r : Option Resolution) (ws : List (List ℕ)) → stays (falls (made key router (Some mac) w u r ws)) ≡ true → at ≡ due_by (Some mac) w u r → made key router (Some mac) w (goes_on w u at Probed) r ws ≡ solicited at (made key router (Some mac) w u r ws)
probed_by key at mac router w None r ws h is = absurd (true≢false (sym h))
probed_by key at mac router w (Some u) r ws h is =
    let e : u.at + 5000 + (u.probes + 1) * u.retrans ≡ at + u.retrans = omega (arith, is) in
    rw e refl

-- the same over stories: what one more row makes of the node of a neighbour that is present
module _ (key at : ℕ) (s : Story) (present : is_present s ≡ true) where
  pub when_given : (mac : ℕ) (mark : Option Bool) → entry_of key ((at, Given mac mark) ∷ s) ≡ Some (given at mac mark (the_entry key s))
  when_given mac None = ap Some (given_by key at mac None (is_router s) (mac_of s) (evidence_of s) (use_of s) (resolution_of s) (waiting_of s))
  when_given mac (Some mark) = ap Some (given_by key at mac (Some mark) (is_router s) (mac_of s) (evidence_of s) (use_of s) (resolution_of s) (waiting_of s))

  pub when_advertised : (flags : Flags) (mac : Option ℕ) (reachable : ℕ) → entry_of key ((at, Advertised flags mac reachable) ∷ s) ≡ Some (advertised at flags mac reachable (the_entry key s))
  when_advertised flags mac reachable =
      rw present (ap Some (advertised_by key at reachable mac (is_router s) flags.router flags.solicited flags.overrides (mac_of s) (evidence_of s) (use_of s) (resolution_of s) (waiting_of s)))

  pub when_marked : (router : Bool) → entry_of key ((at, Marked router) ∷ s) ≡ Some (with_mark router (the_entry key s))
  when_marked router = rw present (ap Some (marked_by key at (is_router s) router (mac_of s) (evidence_of s) (use_of s) (resolution_of s) (waiting_of s)))

  pub when_confirmed : (reachable : ℕ) → entry_of key ((at, Confirmed reachable) ∷ s) ≡ Some (confirmed at reachable (the_entry key s))
  when_confirmed reachable = rw present (ap Some (confirmed_by key at reachable (is_router s) (mac_of s) (evidence_of s) (use_of s) (resolution_of s) (waiting_of s)))

  pub when_used : (retrans mac : ℕ) (packet : List ℕ) → mac_of s ≡ Some mac → entry_of key ((at, Used retrans) ∷ s) ≡ Some (used at retrans packet (the_entry key s))
  when_used retrans mac packet known =
      rw (present, known) (ap Some (used_by key at retrans mac packet (is_router s) (evidence_of s) (use_of s) (resolution_of s) (waiting_of s) (known_evidence s (ap is_some known))))

  pub when_waits : (retrans : ℕ) (packet : List ℕ) → mac_of s ≡ None → entry_of key ((at, Waits packet) ∷ s) ≡ Some (used at retrans packet (the_entry key s))
  when_waits retrans packet unknown =
      rw (present, unknown) (ap Some (waits_by key at retrans packet (is_router s) (evidence_of s) (use_of s) (use_of s) (resolution_of s) (packets_of s)))

  pub when_wished : (retrans : ℕ) → mac_of s ≡ None → entry_of key ((at, Wanted) ∷ s) ≡ Some (wished at retrans (the_entry key s))
  when_wished retrans unknown =
      rw (present, unknown)
      (ap (λ (n : ℕ). Some (made key (is_router s) None (evidence_of s) (use_of s) (with_wish (resolution_of s)) (keep_last n (packets_of s)))) (wish_room (resolution_of s))
      ∙ ap Some (wished_by key at retrans (is_router s) (evidence_of s) (use_of s) (use_of s) (resolution_of s) (waiting_of s) (resolving s present unknown)))

  pub when_used_by_wish : (retrans mac : ℕ) → mac_of s ≡ Some mac → entry_of key ((at, Used retrans) ∷ s) ≡ Some (wished at retrans (the_entry key s))
  when_used_by_wish retrans mac known =
      rw (present, known) (ap Some (used_by key at retrans mac [] (is_router s) (evidence_of s) (use_of s) (resolution_of s) (waiting_of s) (known_evidence s (ap is_some known))))

  pub when_solicited : mac_of s ≡ None → at ≡ due_of s → entry_of key ((at, Solicited) ∷ s) ≡ Some (solicited at (the_entry key s))
  when_solicited unknown is =
      let due : at ≡ due_by None (evidence_of s) (use_of s) (resolution_of s) = is ∙ ap (λ mac. due_by mac (evidence_of s) (use_of s) (resolution_of s)) unknown in
      rw (present, unknown)
      (ap (λ (n : ℕ). Some (made key (is_router s) None (evidence_of s) (use_of s) (one_more (resolution_of s)) (keep_last n (packets_of s)))) (room_more (resolution_of s))
      ∙ ap Some (solicited_by key at (is_router s) (evidence_of s) (use_of s) (use_of s) (resolution_of s) (waiting_of s) (resolving s present unknown) due))

  pub when_probed : (mac : ℕ) → mac_of s ≡ Some mac → at ≡ due_of s → stays (falls (the_entry key s)) ≡ true → entry_of key ((at, Probed) ∷ s) ≡ Some (solicited at (the_entry key s))
  when_probed mac known is left =
      let due : at ≡ due_by (Some mac) (evidence_of s) (use_of s) (resolution_of s) = is ∙ ap (λ m. due_by m (evidence_of s) (use_of s) (resolution_of s)) known in
      let left' : stays (falls (made key (is_router s) (Some mac) (evidence_of s) (use_of s) (resolution_of s) (waiting_of s))) ≡ true =
      ap (λ m. stays (falls (made key (is_router s) m (evidence_of s) (use_of s) (resolution_of s) (waiting_of s)))) (sym known) ∙ left in
      rw (present, known) (ap Some (probed_by key at mac (is_router s) (evidence_of s) (use_of s) (resolution_of s) (waiting_of s) left' due))

-- and of one that is absent
module _ (key at : ℕ) (s : Story) (absent : is_present s ≡ false) where
  pub first_given : (mac : ℕ) (mark : Option Bool) → entry_of key ((at, Given mac mark) ∷ s) ≡ Some (stale_entry key (mark_or mark false) at mac)
  first_given mac None = rw (absent_mac s absent, absent_router s absent) refl
  first_given mac (Some mark) = rw (absent_mac s absent) refl

  pub first_wished : (retrans room : ℕ) → entry_of key ((at, Wanted) ∷ (at, Asked retrans room) ∷ s) ≡ Some (wished_entry key at retrans room)
  first_wished retrans room =
      let e : at + (0 + 1) * retrans ≡ at + retrans = omega arith in
      rw (absent_mac s absent, absent_router s absent, e, keep_short {X = List ℕ} (max 1 room) [] (omega arith)) refl

  pub first_asked : (retrans room : ℕ) (packet : List ℕ) → entry_of key ((at, Waits packet) ∷ (at, Asked retrans room) ∷ s) ≡ Some (asked_entry key at retrans room packet)
  first_asked retrans room packet =
      let e : at + (0 + 1) * retrans ≡ at + retrans = omega arith in
      let few : 1 ≤ max 1 room = omega arith in
      rw (absent_mac s absent, absent_router s absent, e, keep_short (max 1 room) (packet ∷ []) few) refl
