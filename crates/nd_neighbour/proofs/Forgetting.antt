-- What forgetting a neighbour does to the table, and what is shown of it.
use Rattle.std.proofs.Common.{◌≡◌, ℕ, Bool, true, eqb, List, [], ◌∷◌, Option, Some, None, refl, sym, ◌∙◌, ap, arith, inl, inr}
use Rattle.std.specs.Prelude.{map}
use Rattle.std.specs.Option.{option_map}
use Rattle.std.proofs.lemmas.Bool.{cond-true, cond-false, eqb-true, cases_Bool}
use Rattle.nd_neighbour.specs.declared.shown.Reachability.{Reachability}
use Rattle.nd_neighbour.specs.History.{Row, Story, story, Forgot, Cause, Cleared}
use Rattle.nd_neighbour.specs.EntryKept.{NeighbourEntry}
use Rattle.nd_neighbour.specs.ReachabilityConfirmation.{Evidence, Confirms, Disturbs}
use Rattle.nd_neighbour.specs.AddressResolution.{Resolution, resolution_of, waiting_of}
use Rattle.nd_neighbour.specs.UnreachabilityDetection.{Use}
use Rattle.nd_neighbour.specs.Story.{is_present, mac_of, evidence_of, use_of, waits_of}
use Rattle.nd_neighbour.specs.StoryKept.{stage_by, the_entry, entry_of}
use Rattle.nd_neighbour.specs.TableKept.{address, entry_in, Stands, GainsRow}
use Rattle.nd_neighbour.specs.Shown.{state_by, left_by, Seen, seen_of, seen_key, Lists}
use Rattle.nd_neighbour.specs.ShownKept.{seen, state_in, left_in}
use Rattle.nd_neighbour.specs.Removal.{Removes, WasNot, Gone, waiting_at, cleared}
use Rattle.nd_table.proofs.Mapped.{at_key-map, Rises-map}
use Rattle.nd_table.proofs.Keyed.{key_is}
use Rattle.nd_neighbour.proofs.Steps.{leaving, each_other, ended_story, entry_present, entry_absent}
use Rattle.nd_neighbour.proofs.Dues.{known_by}
use Rattle.nd_neighbour.proofs.NewsCalls.{entry_waits, none_waits}

pub removed_gains : (key at : ℕ) (why : Cause) (old new : List NeighbourEntry) → Removes key old new → GainsRow old new (at, key, Forgot why)
removed_gains key at why old new (Gone i n lt at_i found is) = leaving old new key at why i n lt at_i (key_is address key old n found) is
removed_gains key at why old new (WasNot none is) = record {
  stands = λ history s. rw is (record {
    each = λ k. each_other k key at (Forgot why) history old old None
        (λ j. elim (cases_Bool (eqb key j)) [
          | inl e ↦ ap (λ (x : ℕ). entry_in x old) (sym (eqb-true key j e)) ∙ (none ∙ sym (cond-true (eqb key j) None (entry_in j old) e))
          | inr e ↦ sym (cond-false (eqb key j) None (entry_in j old) e)
        ])
        s.each (sym (ap (entry_of key) (ended_story key at why history)));
    order = s.order;
  });
}

waits_at : (key : ℕ) (s : Story) (o : Option NeighbourEntry) → o ≡ entry_of key s → waiting_at o ≡ waits_of s
waits_at key s None is = sym (none_waits s (entry_absent key s (sym is)))
waits_at key s (Some n) is = let known = entry_present key s n (sym is) in entry_waits key s n known.0 known.1

pub waits_by_history : (key : ℕ) (old : List NeighbourEntry) (history : List Row) → Stands old history → waiting_at (entry_in key old) ≡ waits_of (story key history)
waits_by_history key old history s = waits_at key (story key history) (entry_in key old) (s.each key)

-- what is shown
pub state_is : (t : ℕ) (mac : Option ℕ) (w : Option Evidence) (u : Option Use) (r : Option Resolution) (ws : List (List ℕ)) → state_in (stage_by mac w u r ws) t ≡ state_by mac w u t
state_is t None w u r ws = refl
state_is t (Some mac) None None r ws = refl
state_is t (Some mac) None (Some u) r ws = refl
state_is t (Some mac) (Some (Disturbs d)) None r ws = refl
state_is t (Some mac) (Some (Disturbs d)) (Some u) r ws = refl
state_is t (Some mac) (Some (Confirms d l)) None r ws = refl
state_is t (Some mac) (Some (Confirms d l)) (Some u) r ws = refl

left_is : (t : ℕ) (mac : Option ℕ) (w : Option Evidence) (u : Option Use) (r : Option Resolution) (ws : List (List ℕ)) → left_in (stage_by mac w u r ws) t ≡ left_by mac w t
left_is t None w u r ws = refl
left_is t (Some mac) None u r ws = refl
left_is t (Some mac) (Some (Disturbs d)) u r ws = refl
left_is t (Some mac) (Some (Confirms d l)) u r ws = refl

seen_by : (key t : ℕ) (router : Bool) (mac : Option ℕ) (w : Option Evidence) (u : Option Use) (m : Option ℕ) (st : Reachability) (l : Option ℕ) → m ≡ mac → st ≡ state_by mac w u t → l ≡ left_by mac w t → let made : Seen = record { key = key; mac = m; router = router; state = st; left = l } in made ≡ record { key = key; mac = mac; router = router; state = state_by mac w u t; left = left_by mac w t }
seen_by key t router mac w u m st l e f g = rw (e, f, g) refl

the_seen : (key t : ℕ) (s : Story) → is_present s ≡ true → Some (seen t (the_entry key s)) ≡ seen_of key s t
the_seen key t s p =
    ap Some (seen_by key t (the_entry key s).router (mac_of s) (evidence_of s) (use_of s) _ _ _
    (known_by (mac_of s) (evidence_of s) (use_of s) (resolution_of s) (waiting_of s)) (state_is t (mac_of s) (evidence_of s) (use_of s) (resolution_of s) (waiting_of s))
    (left_is t (mac_of s) (evidence_of s) (use_of s) (resolution_of s) (waiting_of s)))
    ∙ sym (cond-true (is_present s) _ None p)

seen_told : (key t : ℕ) (s : Story) (o : Option NeighbourEntry) → o ≡ entry_of key s → option_map (seen t) o ≡ seen_of key s t
seen_told key t s None is = sym (cond-false (is_present s) _ None (entry_absent key s (sym is)))
seen_told key t s (Some n) is =
    let known = entry_present key s n (sym is) in
    ap (λ (m : NeighbourEntry). Some (seen t m)) known.1 ∙ the_seen key t s known.0

pub seen_by_history : (key t : ℕ) (entries : List NeighbourEntry) (history : List Row) → Stands entries history → option_map (seen t) (entry_in key entries) ≡ seen_of key (story key history) t
seen_by_history key t entries history s = seen_told key t (story key history) (entry_in key entries) (s.each key)

pub lists_all : (t : ℕ) (entries : List NeighbourEntry) (history : List Row) (shown : List Seen) → shown ≡ map (seen t) entries → Stands entries history → Lists history t shown
lists_all t entries history shown is s = rw is (record {
  each = λ key. at_key-map address seen_key (seen t) (λ n. refl) key entries ∙ seen_by_history key t entries history s;
  order = Rises-map address seen_key (seen t) (λ n. refl) entries s.order;
})

-- all are forgotten, one after the other
pub cleared_stands : (at : ℕ) (entries : List NeighbourEntry) (history : List Row) → Stands entries history → Stands [] (cleared at entries history)
cleared_stands at [] history s = s
cleared_stands at (n ∷ entries) history s =
    cleared_stands at entries ((at, n.key, Forgot Cleared) ∷ history) ((leaving (n ∷ entries) entries n.key at Cleared 0 n (omega arith) refl refl refl).stands history s)
