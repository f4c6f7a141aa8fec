-- The neighbour that is asked for longest, by what is kept and by the history.
use Rattle.std.proofs.Common.{◌≡◌, ℕ, ◌+◌, ◌*◌, ◌<◌, ◌≤◌, Bool, true, false, eqb, ltb, List, get_or, length, Option, Some, None, refl, sym, ◌∙◌, ap, subst, arith, inl, inr}
use Rattle.std.specs.Prelude.{◌||◌, ◌↔◌, is_some}
use Rattle.std.specs.Option.{option_map}
use Rattle.std.proofs.Math.Nat.{add-sub_cancel}
use Rattle.std.proofs.lemmas.Bool.Decides.{nat_tests}
use Rattle.std.proofs.lemmas.Bool.{cond-true, cond_both, cases_lt, or_left, or_right, true≢false}
use Rattle.std.proofs.lemmas.List.Edits.{length-remove}
use Rattle.nd_table.specs.DueKept.{least_date}
use Rattle.nd_table.proofs.Keyed.{at_key-remove}
use Rattle.nd_table.proofs.Due.{AtMost-same, AtMost-some, AtMost-none, due_has, due_least, due_now, least_at_most, next_not_now}
use Rattle.nd_neighbour.specs.AddressResolution.{Resolution, resolution_of, waiting_of}
use Rattle.nd_neighbour.specs.EntryKept.{NeighbourEntry}
use Rattle.nd_neighbour.specs.GivingWay.{IsAskedLongest, IsFullOfSpeakers, IsIncomplete, asked_since, began_in}
use Rattle.nd_neighbour.specs.GivingWayKept.{asked_longest, begun, begun_at, begun_to}
use Rattle.nd_neighbour.specs.History.{Row, story}
use Rattle.nd_neighbour.specs.Place.{WouldBeFull}
use Rattle.nd_neighbour.specs.PlaceKept.{has_place}
use Rattle.nd_neighbour.specs.ReachabilityConfirmation.{Evidence}
use Rattle.nd_neighbour.specs.Removal.{Removes, WasNot, Gone}
use Rattle.nd_neighbour.specs.RoomKept.{has_first}
use Rattle.nd_neighbour.specs.Story.{due_by, evidence_of, is_present, mac_of, use_of}
use Rattle.nd_neighbour.specs.StoryKept.{stage_by, the_entry}
use Rattle.nd_neighbour.specs.TableKept.{address, entry_in, Rises, Stands}
use Rattle.nd_neighbour.specs.UnreachabilityDetection.{Use}
use Rattle.nd_neighbour.proofs.Finds.{none_is}
use Rattle.nd_neighbour.proofs.Steps.{entry_present}
use Rattle.nd_neighbour.proofs.Unique.{full_by_history}

-- a resolution began when what is kept of it says
begun_by : (mac : Option ℕ) (w : Option Evidence) (u : Option Use) (r : Option Resolution) (ws : List (List ℕ)) → mac ≡ None → begun_to (due_by mac w u r) (stage_by mac w u r ws) ≡ Some (began_in r)
begun_by None w u None ws is = refl
begun_by None w u (Some r) ws is = ap Some (add-sub_cancel r.at ((r.more + 1) * r.retrans))
begun_by (Some mac) w u r ws is = absurd (cc)

-- and what began has no address
began_unknown : (mac : Option ℕ) (w : Option Evidence) (u : Option Use) (r : Option Resolution) (ws : List (List ℕ)) (t : ℕ) → begun_to (due_by mac w u r) (stage_by mac w u r ws) ≡ Some t → (mac ≡ None) × (t ≡ began_in r)
began_unknown None w u r ws t is =
    let e : Some t ≡ Some (began_in r) = sym is ∙ begun_by None w u r ws refl in
    (refl, let same : t ≡ began_in r = cc in same)
began_unknown (Some mac) w u r ws t is = absurd (cc)

module _ (ns : List NeighbourEntry) (history : List Row) (s : Stands ns history) where
  incomplete_entry : (k : ℕ) → IsIncomplete history k → (m : NeighbourEntry) × (entry_in k ns ≡ Some m) × (begun m ≡ Some (asked_since history k))
  incomplete_entry k incomplete =
      let st = story k history in (
        the_entry k st,
        s.each k ∙ cond-true (is_present st) (Some (the_entry k st)) None incomplete.0,
        begun_by (mac_of st) (evidence_of st) (use_of st) (resolution_of st) (waiting_of st) incomplete.1,
      )

  incomplete_by_entry : (k t : ℕ) (m : NeighbourEntry) → entry_in k ns ≡ Some m → begun m ≡ Some t → IsIncomplete history k × (t ≡ asked_since history k)
  incomplete_by_entry k t m is began =
      let st = story k history in
      let known = entry_present k st m (sym (s.each k) ∙ is) in
      let unknown = began_unknown (mac_of st) (evidence_of st) (use_of st) (resolution_of st) (waiting_of st) t (sym (ap begun known.1) ∙ began) in
      ((known.0, unknown.0), unknown.1)

  none_begun : (first : Option ℕ) → least_date begun ns ≡ first → begun_at first ns ≡ None → (k : ℕ) → IsIncomplete history k → ⊥
  none_begun None least none k incomplete =
      let m = incomplete_entry k incomplete in
      AtMost-none (least_date begun ns) (asked_since history k) least (least_at_most address begun k ns m.0 (asked_since history k) m.1 (AtMost-same (begun m.0) (asked_since history k) m.2))
  none_begun (Some t) least none k incomplete = next_not_now begun t ns least none

  -- where none is found, none is incomplete
  pub none_incomplete : asked_longest ns ≡ None → (k : ℕ) → IsIncomplete history k → ⊥
  none_incomplete none = none_begun (least_date begun ns) refl none

  found_longest : (first : Option ℕ) (n : NeighbourEntry) → least_date begun ns ≡ first → begun_at first ns ≡ Some n → IsAskedLongest history n.key × (entry_in n.key ns ≡ Some n)
  found_longest None n least found = absurd (cc)
  found_longest (Some t) n least found =
      let has : entry_in n.key ns ≡ Some n = due_has address begun t ns n s.order found in
      let began : begun n ≡ Some t = due_now begun t ns n found in
      let here = incomplete_by_entry n.key t n has began in (
        record {
          incomplete = here.0;
          longest = λ k incomplete.
              let m = incomplete_entry k incomplete in
              let since : ℕ = asked_since history k in
              let le : t ≤ since = AtMost-some (least_date begun ns) since t least (least_at_most address begun k ns m.0 since m.1 (AtMost-same (begun m.0) since m.2)) in
              elim (cases_lt t since) [
                | inl lt ↦ inl (omega (arith, here.1, lt))
                | inr ge ↦
                    let same : since ≡ t = omega (arith, le, ge) in
                    inr (sym here.1 ∙ sym same, due_least address begun t k ns n m.0 s.order found m.1 (m.2 ∙ ap Some same))
              ];
        },
        has,
      )

  -- the one that is found is asked for longest, and is in the table
  pub longest_found : (n : NeighbourEntry) → asked_longest ns ≡ Some n → IsAskedLongest history n.key × (entry_in n.key ns ≡ Some n)
  longest_found n found = found_longest (least_date begun ns) n refl found

-- what an address that is found stands for
pub named : {X : Type 0} (f : X → ℕ) (x : X) (o : Option NeighbourEntry) → Some (f x) ≡ option_map address o → (n : NeighbourEntry) × (o ≡ Some n) × (f x ≡ n.key)
named f x None is = absurd (cc)
named f x (Some n) is = (n, refl, let same : f x ≡ n.key = cc in same)

pub named_none : (o : Option NeighbourEntry) → None ≡ option_map address o → o ≡ None
named_none None is = refl
named_none (Some n) is = absurd (cc)

pub named_some : {X : Type 0} (f : X → ℕ) (a : Option X) (o : Option NeighbourEntry) → option_map f a ≡ option_map address o → is_some a ≡ is_some o
named_some f None None is = refl
named_some f None (Some n) is = absurd (cc)
named_some f (Some x) None is = absurd (cc)
named_some f (Some x) (Some n) is = refl

-- ---- room

none_or : (o : Option NeighbourEntry) (b : Bool) → (is_some o || b) ≡ false → (o ≡ None) × (b ≡ false)
none_or None b h = (refl, h)
none_or (Some n) b h = absurd (true≢false h)

module _ (limit now key : ℕ) (ns : List NeighbourEntry) (history : List Row) (s : Stands ns history) where
  -- where there is no room the history leaves none
  pub full_first : has_first limit now key ns ≡ false → WouldBeFull limit now key history
  full_first none = (full_by_history limit now key ns history s).0 (none_or (entry_in key ns) (has_place limit now ns) none)

  -- and there is no way where none is incomplete
  pub no_way : has_first limit now key ns ≡ false → (b : Bool) → (b ≡ is_some (asked_longest ns)) → (b ≡ false) ↔ IsFullOfSpeakers limit now key history
  no_way none b b_is = (
    (λ e. record { full = full_first none; none_incomplete = none_incomplete ns history s (none_is (asked_longest ns) (sym b_is ∙ e)) }),
    (λ full. b_is ∙ never (asked_longest ns) refl full),
  )
    where
      never : (o : Option NeighbourEntry) → asked_longest ns ≡ o → IsFullOfSpeakers limit now key history → is_some o ≡ false
      never None found full = refl
      never (Some n) found full = absurd (full.none_incomplete n.key (longest_found ns history s n found).0.incomplete)

-- without room and without one that is incomplete there is no way
pub no_way_left : (room : Bool) (o : Option NeighbourEntry) → room ≡ false → o ≡ None → (room || is_some o) ≡ true → ⊥
no_way_left true o full none way = true≢false full
no_way_left false o full none way = true≢false (sym way ∙ ap is_some none)

-- where one goes there is room for another
pub room_behind : (limit now key gone : ℕ) (old new : List NeighbourEntry) (n : NeighbourEntry) → length old ≤ limit → entry_in gone old ≡ Some n → Removes gone old new → has_first limit now key new ≡ true
room_behind limit now key gone old new n few found (WasNot none is) = absurd (let e : Some n ≡ None = sym found ∙ none in let no : ⊥ = cc in no)
room_behind limit now key gone old new n few found (Gone i m lt at_i found' is) =
    let shorter : length new < limit = omega (arith, few, ap length is, length-remove old i lt, lt) in
    let less : ltb (length new) limit ≡ true = grind (arith, nat_tests, shorter) in
    or_right (is_some (entry_in key new)) (has_place limit now new) (or_left (ltb (length new) limit) _ less)

-- and the entry is that of its address
pub named_in : (key : ℕ) (ns : List NeighbourEntry) → Rises ns → (n : NeighbourEntry) → key ≡ n.key → asked_longest ns ≡ Some n → entry_in key ns ≡ Some n
named_in key ns order n same found = subst (λ (k : ℕ). entry_in k ns ≡ Some n) (sym same) (in_order (least_date begun ns) found)
  where
    in_order : (first : Option ℕ) → begun_at first ns ≡ Some n → entry_in n.key ns ≡ Some n
    in_order None found = absurd (cc)
    in_order (Some t) found = due_has address begun t ns n order found

-- one that has no entry has none where another one has gone
pub absent_behind : (key gone : ℕ) (old new : List NeighbourEntry) → Rises old → entry_in key old ≡ None → Removes gone old new → entry_in key new ≡ None
absent_behind key gone old new order absent (WasNot none is) = ap (entry_in key) is ∙ absent
absent_behind key gone old new order absent (Gone i m lt at_i found is) =
    ap (entry_in key) is ∙ (at_key-remove address key old i m order lt ∙ cond_both (eqb (get_or old i m).key key) None (entry_in key old) (λ o. o ≡ None) (λ _. refl) (λ _. absent))

pub first_absent : (limit now key : ℕ) (ns : List NeighbourEntry) → has_first limit now key ns ≡ false → entry_in key ns ≡ None
first_absent limit now key ns none = (none_or (entry_in key ns) (has_place limit now ns) none).0
