-- What a choice remembers stays what the tables say.
use Rattle.std.proofs.Common.{◌≡◌, ◌≤◌, ℕ, Bool, true, false, List, [], ◌∷◌, map, Contains, inl, inr, Option, Some, None, refl, sym, ◌∙◌, ap, subst, arith}
use Rattle.std.specs.Prelude.{◌-◌}
use Rattle.std.specs.Option.{option_map}
use Rattle.std.proofs.lemmas.Bool.{cond-true, cond-false}
use Rattle.std.proofs.lemmas.Bool.Decides.{nat_tests}
use Rattle.nd_addr.specs.declared.addr.Addr.{Addr}
use Rattle.nd_addr.specs.Number.{addr_at, number_of}
use Rattle.nd_addr.specs.Prefix.{PrefixValue}
use Rattle.nd_table.specs.declared.lasting.Lasting.{Lasting}
use Rattle.nd_table.specs.Listing.{open_at}
use Rattle.nd_neighbour.specs.EntryKept.{NeighbourEntry}
use Rattle.nd_neighbour.specs.TableKept.{entry_in}
use Rattle.nd_routers.specs.OnLinkKept.{least_end}
use Rattle.nd_routers.specs.RouterFailures.{place_among}
use Rattle.nd_routers.specs.Preferences.{preference_among}
use Rattle.nd_routers.specs.RoutersKept as routers
use Rattle.nd_slaac.specs.AddressKept.{Address}
use Rattle.nd_slaac.specs.declared.destination.Counted.TheVariants.{Own}
use Rattle.nd_slaac.specs.Destination.{counted_in}
use Rattle.nd_slaac.specs.TableKept.{address_in}
use Rattle.nd_table.specs.Due.{lesser}
use Rattle.nd_table.specs.Ends.{is_before}
use Rattle.nd_nexthop.specs.Choice.{Table, Agrees, target_in}
use Rattle.nd_nexthop.specs.DefaultRouter.{DefaultRouter}
use Rattle.nd_nexthop.specs.Memo.{IsHop, is_asked}
use Rattle.nd_nexthop.specs.NextHop.{hop}
use Rattle.nd_nexthop.specs.NextHopKept.{hop_of}
use Rattle.nd_nexthop.specs.declared.next_hop.Hop.{Hop}
use Rattle.nd_nexthop.proofs.Recalled as recalled
use Rattle.nd_steps.specs.NextHop.{candidate_in, candidates_in, is_resolved}
use Rattle.nd_steps.specs.DestinationCache.{Remembers, last_before_end, linked_by, own_in}

-- ---- time passes

asked_before : (at now : ℕ) (until : Option ℕ) → at ≤ now → is_asked now until ≡ true → is_asked at until ≡ true
asked_before at now None le asked = refl
asked_before at now (Some u) le asked = grind (arith, nat_tests, le, asked)

-- what is remembered at a moment is remembered later
pub remembers_later : (at now : ℕ) (choice : Table) (addresses : List Address) (prefixes : List (Lasting PrefixValue)) (entries : List NeighbourEntry) (table : routers.Table)
    → at ≤ now → Remembers at choice addresses prefixes entries table → Remembers now choice addresses prefixes entries table
remembers_later at now choice addresses prefixes entries table le r = record {
  until = λ moment after asked.
      r.until moment (omega (arith, le, after)) asked ∙ sym (r.until now le (asked_before now moment choice.memory.until after asked));
  agrees = λ asked.
      subst (λ (standing : List (Lasting PrefixValue)). Agrees at (own_in addresses) (linked_by standing) (candidates_in entries table) choice) (sym (r.until now le asked)) r.agrees
      (asked_before at now choice.memory.until le asked);
}

-- ---- where nothing is remembered

nothing_there : (e : ℕ × Hop) (A : Type 0) (hops : List (ℕ × Hop)) → hops ≡ [] → Contains hops e → A
nothing_there e A hops none there = let at : Contains [] e = subst (λ (l : List (ℕ × Hop)). Contains l e) none there in let never : ⊥ = omega (arith, at.1) in absurd never

-- the prefixes that stand are the same, as long as the next hops may be asked for
abbrev pub StandUntil : ℕ → Option ℕ → List (Lasting PrefixValue) → Type 0
StandUntil at until prefixes = (moment : ℕ) → at ≤ moment → is_asked moment until ≡ true → open_at moment prefixes ≡ open_at at prefixes

pub remembers_nothing : (at : ℕ) (choice : Table) (addresses : List Address) (prefixes : List (Lasting PrefixValue)) (entries : List NeighbourEntry) (table : routers.Table)
    → choice.memory.hops ≡ [] → StandUntil at choice.memory.until prefixes → Remembers at choice addresses prefixes entries table
remembers_nothing at choice addresses prefixes entries table none until = record {
  until = until;
  agrees = λ asked e there. nothing_there e (IsHop (own_in addresses) (linked_by (open_at at prefixes)) (candidates_in entries table) (λ key. target_in key choice.redirects.entries) e) choice.memory.hops none there;
}

-- ---- where the tables are the same to the next hops

pub candidates_same : (old new : List NeighbourEntry) (table : routers.Table) → ((key : ℕ) → is_resolved (entry_in key new) ≡ is_resolved (entry_in key old)) → candidates_in new table ≡ candidates_in old table
candidates_same old new table same = by (routers.keys table.entries)
  where
    by : (keys : List ℕ) → map (λ key. candidate_in new table key) keys ≡ map (λ key. candidate_in old table key) keys
    by [] = refl
    by (key ∷ keys) =
        ap (λ (u : Bool). record { key = key; usable = u; preference = preference_among key table.preferences; failed = place_among key table.failed } ∷ map (λ k. candidate_in new table k) keys) (same key)
        ∙ ap (λ (l : List DefaultRouter). candidate_in old table key ∷ l) (by keys)

-- a next hop asks only whether the destination itself is one of the node's addresses
pub hop_by_own : (own other linked : List ℕ → Bool) (candidates : List DefaultRouter) (redirect : Option ℕ) (address : List ℕ) → own address ≡ other address
    → hop own linked candidates redirect address ≡ hop other linked candidates redirect address
hop_by_own own other linked candidates redirect address is = rw is refl

pub remembers_same : (at : ℕ) (choice : Table) (old_addresses new_addresses : List Address) (prefixes : List (Lasting PrefixValue)) (old new : List NeighbourEntry) (table : routers.Table)
    → ((key : ℕ) → counted_in Own (address_in key new_addresses) ≡ counted_in Own (address_in key old_addresses)) → ((key : ℕ) → is_resolved (entry_in key new) ≡ is_resolved (entry_in key old))
    → Remembers at choice old_addresses prefixes old table → Remembers at choice new_addresses prefixes new table
remembers_same at choice old_addresses new_addresses prefixes old new table own resolved r = record {
  until = r.until;
  agrees = λ asked e there.
      let kept = target_in e.0 choice.redirects.entries in
      let address = (addr_at e.0).0 in
      r.agrees asked e there
      ∙ (hop_by_own (own_in old_addresses) (own_in new_addresses) (linked_by (open_at at prefixes)) (candidates_in old table) kept address (sym (own (number_of address)))
      ∙ ap (λ (c : List DefaultRouter). hop (own_in new_addresses) (linked_by (open_at at prefixes)) c kept address) (sym (candidates_same old new table resolved)));
}

-- ---- a next hop is asked for

-- at a moment from the last one on what is remembered agrees with the tables
pub agrees_now : (at now : ℕ) (choice : Table) (addresses : List Address) (prefixes : List (Lasting PrefixValue)) (entries : List NeighbourEntry) (table : routers.Table)
    → at ≤ now → Remembers at choice addresses prefixes entries table → Agrees now (own_in addresses) (linked_by (open_at now prefixes)) (candidates_in entries table) choice
agrees_now at now choice addresses prefixes entries table le r = (remembers_later at now choice addresses prefixes entries table le r).agrees

-- with the answer
pub remembers_answer : (at now : ℕ) (old new : Table) (addresses : List Address) (prefixes : List (Lasting PrefixValue)) (entries : List NeighbourEntry) (table : routers.Table) (destination : Addr) (h : Hop)
    → at ≤ now → Remembers at old addresses prefixes entries table → new.redirects ≡ old.redirects → new.memory.until ≡ old.memory.until → addr_at (number_of destination.0) ≡ destination
    → hop_of h ≡ hop (own_in addresses) (linked_by (open_at now prefixes)) (candidates_in entries table) (target_in (number_of destination.0) old.redirects.entries) destination.0
    → ((e : ℕ × Hop) → Contains new.memory.hops e → recalled.Remembers now (number_of destination.0) h old.memory e) → Remembers at new addresses prefixes entries table
remembers_answer at now old new addresses prefixes entries table destination h le r redirects until same is more = record {
  until = λ moment after asked. r.until moment after (subst (λ u. is_asked moment u ≡ true) until asked);
  agrees = λ asked e there. rw redirects (by (subst (λ u. is_asked at u ≡ true) until asked) e (more e there));
}
  where
    by : is_asked at old.memory.until ≡ true → (e : ℕ × Hop) → recalled.Remembers now (number_of destination.0) h old.memory e
        → IsHop (own_in addresses) (linked_by (open_at at prefixes)) (candidates_in entries table) (λ key. target_in key old.redirects.entries) e
    by asked e (inl was) = r.agrees asked e was
    by asked e (inr this) =
        rw this.1 (is
        ∙ (ap (λ (standing : List (Lasting PrefixValue)). hop (own_in addresses) (linked_by standing) (candidates_in entries table) (target_in (number_of destination.0) old.redirects.entries) destination.0) (r.until now le this.0)
        ∙ sym (ap (λ (a : Addr). hop (own_in addresses) (linked_by (open_at at prefixes)) (candidates_in entries table) (target_in (number_of destination.0) old.redirects.entries) a.0) same)))

-- ---- up to the earliest end of a prefix

before_lesser : (m : ℕ) (a b : Option ℕ) → is_before m (lesser a b) ≡ true → (is_before m a ≡ true) × (is_before m b ≡ true)
before_lesser m None b h = (refl, h)
before_lesser m (Some x) None h = (h, refl)
before_lesser m (Some x) (Some y) h = (grind (arith, nat_tests, h), grind (arith, nat_tests, h))

still_ended : (now m : ℕ) (end : Option ℕ) → now ≤ m → is_before now end ≡ false → is_before m end ≡ false
still_ended now m None le h = let never : ⊥ = cc in absurd never
still_ended now m (Some e) le h = grind (arith, nat_tests, le, h)

pub stand_before : (now m : ℕ) → now ≤ m → (prefixes : List (Lasting PrefixValue)) → is_before m (least_end (open_at now prefixes)) ≡ true → open_at m prefixes ≡ open_at now prefixes
stand_before now m le [] h = refl
stand_before now m le (e ∷ es) h = by (λ rest. stand_before now m le es rest) (is_before now e.end) refl
  where
    by : (is_before m (least_end (open_at now es)) ≡ true → open_at m es ≡ open_at now es) → (b : Bool) → is_before now e.end ≡ b → open_at m (e ∷ es) ≡ open_at now (e ∷ es)
    by behind true o =
        let first : open_at now (e ∷ es) ≡ e ∷ open_at now es = cond-true (is_before now e.end) (e ∷ open_at now es) (open_at now es) o in
        let parts = before_lesser m e.end (least_end (open_at now es)) (subst (λ (l : List (Lasting PrefixValue)). is_before m (least_end l) ≡ true) first h) in
        cond-true (is_before m e.end) (e ∷ open_at m es) (open_at m es) parts.0 ∙ (ap (λ (l : List (Lasting PrefixValue)). e ∷ l) (behind parts.1) ∙ sym first)
    by behind false o =
        let first : open_at now (e ∷ es) ≡ open_at now es = cond-false (is_before now e.end) (e ∷ open_at now es) (open_at now es) o in
        cond-false (is_before m e.end) (e ∷ open_at m es) (open_at m es) (still_ended now m e.end le o)
        ∙ (behind (subst (λ (l : List (Lasting PrefixValue)). is_before m (least_end l) ≡ true) first h) ∙ sym first)

-- none of those that stand has ended
lesser_before : (m : ℕ) (a b : Option ℕ) → is_before m a ≡ true → is_before m b ≡ true → is_before m (lesser a b) ≡ true
lesser_before m None b h k = k
lesser_before m (Some x) None h k = h
lesser_before m (Some x) (Some y) h k = grind (arith, nat_tests, h, k)

pub open_before : (now : ℕ) (prefixes : List (Lasting PrefixValue)) → is_before now (least_end (open_at now prefixes)) ≡ true
open_before now [] = refl
open_before now (e ∷ es) = by (open_before now es) (is_before now e.end) refl
  where
    by : is_before now (least_end (open_at now es)) ≡ true → (b : Bool) → is_before now e.end ≡ b → is_before now (least_end (open_at now (e ∷ es))) ≡ true
    by behind true o = ap (λ (l : List (Lasting PrefixValue)). is_before now (least_end l)) (cond-true (is_before now e.end) (e ∷ open_at now es) (open_at now es) o) ∙ lesser_before now e.end (least_end (open_at now es)) o behind
    by behind false o = ap (λ (l : List (Lasting PrefixValue)). is_before now (least_end l)) (cond-false (is_before now e.end) (e ∷ open_at now es) (open_at now es) o) ∙ behind

asked_is_before : (now m : ℕ) (least : Option ℕ) → is_before now least ≡ true → is_asked m (option_map (λ end. end - 1) least) ≡ true → is_before m least ≡ true
asked_is_before now m None h asked = refl
asked_is_before now m (Some e) h asked = grind (arith, nat_tests, h, asked)

pub stand_until_end : (now : ℕ) (prefixes : List (Lasting PrefixValue)) → StandUntil now (last_before_end now prefixes) prefixes
stand_until_end now prefixes = λ moment after asked.
    stand_before now moment after prefixes (asked_is_before now moment (least_end (open_at now prefixes)) (open_before now prefixes) asked)
