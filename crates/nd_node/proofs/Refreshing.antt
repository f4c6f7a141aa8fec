-- An advertisement that only refreshes leaves what is remembered.
use Rattle.std.proofs.Common.{◌≡◌, ◌≤◌, ℕ, Bool, true, false, Contains, List, [], ◌∷◌, map, Option, Some, None, inl, inr, refl, sym, ◌∙◌, ap, subst}
use Rattle.std.specs.Prelude.{◌==◌, ◌&&◌, ◌⊎◌, not, is_some, if◌then◌else◌}
use Rattle.std.proofs.lemmas.Bool.{and_parts, cond-true, cond-false}
use Rattle.nd_addr.specs.Number.{addr_at, number_of}
use Rattle.nd_addr.specs.declared.mac.Mac.{Mac}
use Rattle.nd_addr.specs.declared.preference.Preference.{Preference}
use Rattle.nd_decode.specs.declared.prefix_info.PrefixInfo.{PrefixInfo}
use Rattle.nd_table.specs.Listing.{open_at}
use Rattle.nd_neighbour.specs.History as neighbour_rows
use Rattle.nd_neighbour.specs.EntryKept as neighbour_entries
use Rattle.nd_neighbour.specs.TableKept as neighbours
use Rattle.nd_neighbour.specs.TableKept.{entry_in}
use Rattle.nd_routers.specs.RouterFailures.{place_among}
use Rattle.nd_routers.specs.Preferences.{preference_among}
use Rattle.nd_routers.specs.RoutersKept as routers
use Rattle.nd_slaac.specs.AddressKept.{Address, address_of}
use Rattle.nd_slaac.specs.Calls.{keys_in}
use Rattle.nd_slaac.specs.History as address_rows
use Rattle.nd_slaac.specs.History.{story}
use Rattle.nd_slaac.specs.PrefixOption.{is_forming, is_taken, lifetimes_of, named_by}
use Rattle.nd_slaac.specs.Room.{is_among, would_form}
use Rattle.nd_slaac.specs.State.{is_by_hand, Forming, forming_of, is_known}
use Rattle.nd_slaac.specs.declared.destination.Counted.TheVariants.{Own}
use Rattle.nd_slaac.specs.Destination.{counts}
use Rattle.nd_slaac.specs.TableKept as addresses
use Rattle.nd_nexthop.specs.Choice.{Redirects, Table, target_in}
use Rattle.nd_nexthop.specs.DefaultRouter.{DefaultRouter}
use Rattle.nd_nexthop.specs.Memo.{is_asked}
use Rattle.nd_nexthop.specs.NextHop.{hop}
use Rattle.nd_nexthop.specs.declared.next_hop.Hop.{Hop}
use Rattle.nd_chronicle.specs.Start.{Start}
use Rattle.nd_chronicle.specs.Happening.{Chronicle}
use Rattle.nd_chronicle.specs.Histories.{address_history}
use Rattle.nd_chronicle.specs.OwnAddress.{story_of}
use Rattle.nd_chronicle.specs.RouterAdvertisement.{naming, then_option, then_options}
use Rattle.nd_steps.specs.NextHop.{candidate_in, candidates_in, is_resolved}
use Rattle.nd_steps.specs.DestinationCache.{AsListed, AsStanding, Forgets, Keeps, MayRemember, Recollects, forms_none, last_before_end, linked_by, own_in}
use Rattle.nd_steps.proofs.Remembering.{StandUntil, candidates_same, hop_by_own, remembers_later, remembers_nothing, stand_until_end}
use Rattle.nd_node.specs.declared.node.Node.{Node}
use Rattle.nd_node.proofs.Recalling.{AsOwn, Recalls, own_row}

-- ---- no address is formed

-- the same addresses are known, and are own ones
record SameOwn (c d : Chronicle) : Type 0 where
  known : (key : ℕ) → is_known (story key (address_history d)) ≡ is_known (story key (address_history c))
  own : (key : ℕ) → counts Own (story key (address_history d)) ≡ counts Own (story key (address_history c))

known_row : (at key : ℕ) (kind : address_rows.RowKind) (history : List address_rows.Row) → address_rows.is_end kind ≡ false → ((s : address_rows.Story) → is_known ((at, kind) ∷ s) ≡ is_known s)
    → (k : ℕ) → is_known (story k ((at, key, kind) ∷ history)) ≡ is_known (story k history)
known_row at key kind history goes_on same k = by (key == k) refl
  where
    by : (b : Bool) → key == k ≡ b → is_known (story k ((at, key, kind) ∷ history)) ≡ is_known (story k history)
    by false e = ap (λ (s : address_rows.Story). is_known s) (cond-false (key == k) _ (story k history) e)
    by true e =
        ap (λ (s : address_rows.Story). is_known s) (cond-true (key == k) _ (story k history) e ∙ cond-false (address_rows.is_end kind) [] ((at, kind) ∷ story k history) goes_on)
        ∙ same (story k history)

module _ (start : Start) (now : ℕ) (to_all : Bool) (c : Chronicle) where
  option_same : (info : PrefixInfo) (d : Chronicle) → SameOwn c d → (is_forming info && not (is_known (story (named_by start.mac info) (address_history c)))) ≡ false → SameOwn c (then_option start now to_all info d)
  option_same info d same none = by_taken (is_taken info) refl
    where
      renewed : SameOwn c (naming start now to_all false true info d)
      renewed =
          let key = named_by start.mac info in
          let kind = address_rows.Announced (lifetimes_of info) in record {
            known = λ k. known_row now key kind (address_history d) refl (λ s. refl) k ∙ same.known k;
            own = λ k. own_row now key kind (address_history d) refl (λ s. refl) (λ s. refl) k ∙ same.own k;
          }

      by_zero : (z : Bool) → info.valid_lifetime == 0 ≡ z → is_taken info ≡ true → is_known (story (named_by start.mac info) (address_history c)) ≡ false → SameOwn c (naming start now to_all false false info d)
      by_zero true e taken unknown = subst (λ (x : Chronicle). SameOwn c x) (sym (cond-true (info.valid_lifetime == 0) d _ e)) same
      by_zero false e taken unknown = let never : true ≡ false = sym (rw (taken, e, unknown) refl) ∙ none in let no : ⊥ = cc in absurd no

      by_known : (hand k : Bool) → is_known (story_of d (named_by start.mac info)) ≡ k → is_taken info ≡ true → SameOwn c (naming start now to_all hand k info d)
      by_known true k e taken = same
      by_known false true e taken = renewed
      by_known false false e taken = by_zero (info.valid_lifetime == 0) refl taken (sym (same.known (named_by start.mac info)) ∙ e)

      by_taken : (t : Bool) → is_taken info ≡ t → SameOwn c (then_option start now to_all info d)
      by_taken false e = subst (λ (x : Chronicle). SameOwn c x) (sym (cond-false (is_taken info) _ d e)) same
      by_taken true e = subst (λ (x : Chronicle). SameOwn c x) (sym (cond-true (is_taken info) (naming start now to_all (is_by_hand (story_of d (named_by start.mac info))) (is_known (story_of d (named_by start.mac info))) info d) d e))
          (by_known (is_by_hand (story_of d (named_by start.mac info))) (is_known (story_of d (named_by start.mac info))) refl e)

  -- what is known, by what is kept
  module _ (mac : Mac) (mac_is : mac ≡ start.mac) (keys : List ℕ) (known : (key : ℕ) → is_among key keys ≡ is_known (story key (address_history c))) where
    options_same : (infos : List PrefixInfo) (d : Chronicle) → forms_none mac keys infos ≡ true → SameOwn c d → SameOwn c (then_options start now to_all infos d)
    options_same [] d h same = same
    options_same (info ∷ infos) d h same =
        let parts = and_parts (not (would_form mac keys info)) (forms_none mac keys infos) h in
        let none : (is_forming info && not (is_known (story (named_by start.mac info) (address_history c)))) ≡ false =
        ap (λ (b : Bool). is_forming info && not b) (sym (known (named_by start.mac info))) ∙ (ap (λ (m : Mac). would_form m keys info) (sym mac_is) ∙ turned (would_form mac keys info) parts.0) in
        options_same infos (then_option start now to_all info d) parts.1 (option_same info d same none)
      where
        turned : (b : Bool) → not b ≡ true → b ≡ false
        turned true e = let never : ⊥ = cc in absurd never
        turned false e = refl

among_known : (key : ℕ) (list : List Address) → is_among key (keys_in list) ≡ is_some (addresses.address_in key list)
among_known key [] = refl
among_known key (a ∷ list) = by (a.key == key) refl (among_known key list)
  where
    by : (b : Bool) → a.key == key ≡ b → is_among key (keys_in list) ≡ is_some (addresses.address_in key list) → is_among key (keys_in (a ∷ list)) ≡ is_some (addresses.address_in key (a ∷ list))
    by true e rest = rw e refl
    by false e rest = rw e rest

-- an address that is kept is one that is known
known_of : (key : ℕ) (s : address_rows.Story) → is_some (address_of key s) ≡ is_known s
known_of key s = by (forming_of s) refl
  where
    by : (o : Option Forming) → forming_of s ≡ o → is_some (address_of key s) ≡ is_known s
    by None e = rw e refl
    by (Some f) e = rw e refl

pub is_known_by : (key : ℕ) (list : List Address) (history : List address_rows.Row) → addresses.Stands list history → is_some (addresses.address_in key list) ≡ is_known (story key history)
is_known_by key list history s = ap is_some (s.each key) ∙ known_of key (story key history)

pub own_refreshed : (start : Start) (now : ℕ) (to_all : Bool) (c d : Chronicle) (mac : Mac) (list : List Address) (infos : List PrefixInfo) → mac ≡ start.mac
    → ((key : ℕ) → is_some (addresses.address_in key list) ≡ is_known (story key (address_history c))) → address_history d ≡ address_history c → forms_none mac (keys_in list) infos ≡ true
    → (key : ℕ) → counts Own (story key (address_history (then_options start now to_all infos d))) ≡ counts Own (story key (address_history c))
own_refreshed start now to_all c d mac list infos mac_is known same none =
    (options_same start now to_all c mac mac_is (keys_in list) (λ key. among_known key list ∙ known key) infos d none
    (record { known = λ k. ap (λ (h : List address_rows.Row). is_known (story k h)) same; own = λ k. ap (λ (h : List address_rows.Row). counts Own (story k h)) same })).own

-- ---- what is remembered

listed_same : (entries : List neighbour_entries.NeighbourEntry) (old new : routers.Table) → routers.keys new.entries ≡ routers.keys old.entries → ((key : ℕ) → preference_among key new.preferences ≡ preference_among key old.preferences)
    → new.failed ≡ old.failed → candidates_in entries new ≡ candidates_in entries old
listed_same entries old new keys preferences failed = by (routers.keys new.entries) ∙ ap (λ (ks : List ℕ). map (λ key. candidate_in entries old key) ks) keys
  where
    by : (ks : List ℕ) → map (λ key. candidate_in entries new key) ks ≡ map (λ key. candidate_in entries old key) ks
    by [] = refl
    by (key ∷ ks) =
        ap (λ (p : Preference). record { key = key; usable = is_resolved (entry_in key entries); preference = p; failed = place_among key new.failed } ∷ map (λ k. candidate_in entries new k) ks) (preferences key)
        ∙ (ap (λ (f : List ℕ). record { key = key; usable = is_resolved (entry_in key entries); preference = preference_among key old.preferences; failed = place_among key f } ∷ map (λ k. candidate_in entries new k) ks) failed
        ∙ ap (λ (l : List DefaultRouter). candidate_in entries old key ∷ l) (by ks))

-- a next hop asks only whether the destination itself is on the link
hop_by_link : (own linked other : List ℕ → Bool) (candidates : List DefaultRouter) (redirect : Option ℕ) (address : List ℕ) → linked address ≡ other address
    → hop own linked candidates redirect address ≡ hop own other candidates redirect address
hop_by_link own linked other candidates redirect address is = rw is refl

module _ {R A : Type 0} (old new : Node R A) (at now : ℕ) (le : at ≤ now) (r : Recalls at old) (first second third : Table) (own : Bool)
    (may : MayRemember old.choice first old.neighbours.entries new.neighbours.entries) (listed : Recollects first second (AsListed first second old.routers new.routers))
    (linked : Recollects second third (AsStanding now old.prefixes.entries new.prefixes.entries)) (redirects : third.redirects ≡ second.redirects) (redirects_then : new.choice.redirects ≡ third.redirects)
    (hops : new.choice.memory.hops ≡ (if own && is_asked now third.memory.until then third.memory.hops else [])) (until : new.choice.memory.until ≡ last_before_end now new.prefixes.entries)
    (entries : List neighbour_rows.Row) (stands : neighbours.Stands old.neighbours.entries entries) (as_own : own ≡ true → AsOwn old.addresses.addresses new.addresses.addresses) where
  stand_until : StandUntil now new.choice.memory.until new.prefixes.entries
  stand_until = subst (λ (u : Option ℕ). StandUntil now u new.prefixes.entries) (sym until) (stand_until_end now new.prefixes.entries)

  none : new.choice.memory.hops ≡ [] → Recalls now new
  none is = remembers_nothing now new.choice new.addresses.addresses new.prefixes.entries new.neighbours.entries new.routers is stand_until

  all : is_asked now old.choice.memory.until ≡ true → new.choice.memory.hops ≡ old.choice.memory.hops → new.choice.redirects ≡ old.choice.redirects → AsOwn old.addresses.addresses new.addresses.addresses
      → ((key : ℕ) → is_resolved (entry_in key new.neighbours.entries) ≡ is_resolved (entry_in key old.neighbours.entries)) → AsListed first second old.routers new.routers → AsStanding now old.prefixes.entries new.prefixes.entries → Recalls now new
  all asked same_hops same_redirects owns resolved lists standing = record {
    until = stand_until;
    agrees = λ asked_then e there.
        let before = remembers_later at now old.choice old.addresses.addresses old.prefixes.entries old.neighbours.entries old.routers le r in
        let was = before.agrees asked e (subst (λ (l : List (ℕ × Hop)). Contains l e) same_hops there) in
        let address = (addr_at e.0).0 in
        let kept = target_in e.0 old.choice.redirects.entries in
        let candidates : candidates_in new.neighbours.entries new.routers ≡ candidates_in old.neighbours.entries old.routers =
        listed_same new.neighbours.entries old.routers new.routers lists.keys lists.preferences lists.failed ∙ candidates_same old.neighbours.entries new.neighbours.entries old.routers resolved in
        was
        ∙ (hop_by_own (own_in old.addresses.addresses) (own_in new.addresses.addresses) (linked_by (open_at now old.prefixes.entries)) (candidates_in old.neighbours.entries old.routers) kept address (sym (owns (number_of address)))
        ∙ (hop_by_link (own_in new.addresses.addresses) (linked_by (open_at now old.prefixes.entries)) (linked_by (open_at now new.prefixes.entries)) (candidates_in old.neighbours.entries old.routers) kept address (sym (standing address))
        ∙ (ap (λ (l : List DefaultRouter). hop (own_in new.addresses.addresses) (linked_by (open_at now new.prefixes.entries)) l kept address) (sym candidates)
        ∙ ap (λ (rs : List (ℕ × Option ℕ)). hop (own_in new.addresses.addresses) (linked_by (open_at now new.prefixes.entries)) (candidates_in new.neighbours.entries new.routers) (target_in e.0 rs) address) (sym (ap (λ (t : Redirects). t.entries) same_redirects)))));
  }

  by_may : is_asked now third.memory.until ≡ true → own ≡ true → new.choice.memory.hops ≡ first.memory.hops → AsListed first second old.routers new.routers → AsStanding now old.prefixes.entries new.prefixes.entries
      → MayRemember old.choice first old.neighbours.entries new.neighbours.entries → Recalls now new
  by_may asked mine is lists standing (Forgets f) = none (is ∙ ap (λ (t : Table). t.memory.hops) f)
  by_may asked mine is lists standing (Keeps k known) =
      all (subst (λ (u : Option ℕ). is_asked now u ≡ true) (linked.until ∙ (listed.until ∙ ap (λ (t : Table). t.memory.until) k)) asked)
      (is ∙ ap (λ (t : Table). t.memory.hops) k) (redirects_then ∙ (redirects ∙ (lists.redirects ∙ ap (λ (t : Table). t.redirects) k))) (as_own mine) (known entries stands) lists standing

  by_listed : is_asked now third.memory.until ≡ true → own ≡ true → new.choice.memory.hops ≡ second.memory.hops → AsStanding now old.prefixes.entries new.prefixes.entries
      → (second.memory.hops ≡ []) ⊎ ((second.memory.hops ≡ first.memory.hops) × AsListed first second old.routers new.routers) → Recalls now new
  by_listed asked mine is standing (inl empty) = none (is ∙ empty)
  by_listed asked mine is standing (inr both) = by_may asked mine (is ∙ both.0) both.1 standing may

  by_linked : is_asked now third.memory.until ≡ true → own ≡ true → new.choice.memory.hops ≡ third.memory.hops
      → (third.memory.hops ≡ []) ⊎ ((third.memory.hops ≡ second.memory.hops) × AsStanding now old.prefixes.entries new.prefixes.entries) → Recalls now new
  by_linked asked mine is (inl empty) = none (is ∙ empty)
  by_linked asked mine is (inr both) = by_listed asked mine (is ∙ both.0) both.1 listed.hops

  by_kept : (b : Bool) → (own && is_asked now third.memory.until) ≡ b → Recalls now new
  by_kept false e = none (hops ∙ cond-false (own && is_asked now third.memory.until) third.memory.hops [] e)
  by_kept true e =
      let parts = and_parts own (is_asked now third.memory.until) e in
      by_linked parts.1 parts.0 (hops ∙ cond-true (own && is_asked now third.memory.until) third.memory.hops [] e) linked.hops

  pub recalls_refreshed : Recalls now new
  recalls_refreshed = by_kept (own && is_asked now third.memory.until) refl
