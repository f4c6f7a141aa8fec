-- What a turn, and the moment of the next one, say of the history that the table stands for.
use Rattle.std.proofs.Common.{◌≡◌, ℕ, ◌+◌, ◌<◌, ◌≤◌, true, false, cond, ltb, List, [], ◌∷◌, length, get_or, set, Option, Some, None, refl, sym, ◌∙◌, ap, subst, arith, suc, zero, inl, inr}
use Rattle.std.specs.List.{remove}
use Rattle.std.proofs.lemmas.Bool.Decides.{nat_tests}
use Rattle.std.proofs.lemmas.Bool.{cond-true, cond-false, true≢false, cases_Bool}
use Rattle.std.proofs.lemmas.Option.{same_Some}
use Rattle.nd_neighbour.specs.History.{Row, Story, story, Solicited, Probed, Failed, Aged}
use Rattle.nd_neighbour.specs.EntryKept.{NeighbourEntry, Stage, Resolving, Known, known_mac}
use Rattle.nd_neighbour.specs.ReachabilityConfirmation.{Evidence}
use Rattle.nd_neighbour.specs.AddressResolution.{Resolution, resolution_of, waiting_of}
use Rattle.nd_neighbour.specs.UnreachabilityDetection.{Use}
use Rattle.nd_neighbour.specs.Story.{is_present, mac_of, evidence_of, use_of, due_of}
use Rattle.nd_neighbour.specs.StoryKept.{stage_by, the_entry, entry_of}
use Rattle.nd_neighbour.specs.TableKept.{address, entry_in, Stands, GainsRow}
use Rattle.nd_neighbour.specs.Due.{Falls, IsDue, falling_by, IsFirst, FirstDue, NextDue, due_row}
use Rattle.nd_neighbour.specs.DueKept.{falls, falls_to, stays, solicited, date_of, next_in, due_in, NoneBefore, turns_to, turns_left, Turns}
use Rattle.nd_table.proofs.Due.{AtMost-some, AtMost-none, due_now, due_has, due_least, none_due, least_at_most, least_found, NotBefore-set, NotBefore-remove}
use Rattle.nd_neighbour.proofs.Changes.{when_solicited, when_probed}
use Rattle.nd_neighbour.proofs.Steps.{changing, leaving, entry_present}

pub known_by : (mac : Option ℕ) (w : Option Evidence) (u : Option Use) (r : Option Resolution) (ws : List (List ℕ)) → known_mac (stage_by mac w u r ws) ≡ mac
known_by None w u r ws = refl
known_by (Some mac) w u r ws = refl

falls_by : (key : ℕ) (mac : Option ℕ) (w : Option Evidence) (u : Option Use) (r : Option Resolution) (ws : List (List ℕ)) → falls_to key (stage_by mac w u r ws) ≡ falling_by key mac u r ws
falls_by key None w u None ws = refl
falls_by key None w u (Some r) ws = refl
falls_by key (Some mac) w None r ws = refl
falls_by key (Some mac) w (Some u) r ws = refl

-- a neighbour for which something is due is in the table
module _ (ns : List NeighbourEntry) (history : List Row) (s : Stands ns history) where
  due_entry : (moment key : ℕ) → IsDue history moment key → (n : NeighbourEntry) × (entry_in key ns ≡ Some n) × (n.due ≡ moment)
  due_entry moment key due =
      (the_entry key (story key history), s.each key ∙ cond-true (is_present (story key history)) _ None due.0, due.1)

  entry_due : (key : ℕ) (n : NeighbourEntry) → entry_in key ns ≡ Some n → IsDue history n.due key
  entry_due key n is =
      let known = entry_present key (story key history) n (sym (s.each key) ∙ is) in (known.0, ap (λ (m : NeighbourEntry). m.due) (sym known.1))

  pub first_falls : (now : ℕ) (new : List NeighbourEntry) (what : Falls) → Turns now ns new what → IsFirst history now what
  first_falls now new what t =
      let n = t.entry in
      let has = due_has address date_of now ns n s.order t.first in
      let known = entry_present n.key (story n.key history) n (sym (s.each n.key) ∙ has) in
      record {
        key = n.key;
        due = subst (λ (m : ℕ). IsDue history m n.key) (same_Some n.due now (due_now date_of now ns n t.first)) (entry_due n.key n has);
        least = λ k due. let d = due_entry now k due in due_least address date_of now k ns n d.0 s.order t.first d.1 (ap Some d.2);
        what = t.falls_is ∙ (ap falls known.1 ∙ falls_by n.key (mac_of (story n.key history)) (evidence_of (story n.key history)) (use_of (story n.key history)) (resolution_of (story n.key history)) (waiting_of (story n.key history)));
      }

  pub none_falls : (now : ℕ) → due_in now ns ≡ None → FirstDue history now None
  none_falls now none = λ key due. let d = due_entry now key due in none_due address date_of now key ns d.0 none d.1 (ap Some d.2)

-- what is found at the node of a turn
module _ (key now : ℕ) (n : NeighbourEntry) (s : Story) (is : n ≡ the_entry key s) where
  pub mac_is : known_mac n.stage ≡ mac_of s
  mac_is = ap (λ (m : NeighbourEntry). known_mac m.stage) is ∙ known_by (mac_of s) (evidence_of s) (use_of s) (resolution_of s) (waiting_of s)

  due_is : n.due ≡ now → now ≡ due_of s
  due_is due = sym due ∙ ap (λ (m : NeighbourEntry). m.due) is

asks : (key now : ℕ) (n : NeighbourEntry) (s : Story) → n ≡ the_entry key s → is_present s ≡ true → n.due ≡ now → known_mac n.stage ≡ None → entry_of key ((now, Solicited) ∷ s) ≡ Some (solicited now n)
asks key now n s is present due unknown =
    when_solicited key now s present (sym (mac_is key now n s is) ∙ unknown) (due_is key now n s is due) ∙ ap (λ (m : NeighbourEntry). Some (solicited now m)) (sym is)

probes : (key now mac : ℕ) (n : NeighbourEntry) (s : Story) → n ≡ the_entry key s → is_present s ≡ true → n.due ≡ now → known_mac n.stage ≡ Some mac → stays (falls n) ≡ true → entry_of key ((now, Probed) ∷ s) ≡ Some (solicited now n)
probes key now mac n s is present due known left =
    when_probed key now s present mac (sym (mac_is key now n s is) ∙ known) (due_is key now n s is due) (ap (λ (m : NeighbourEntry). stays (falls m)) (sym is) ∙ left) ∙ ap (λ (m : NeighbourEntry). Some (solicited now m)) (sym is)

solicited_key : (now : ℕ) (n : NeighbourEntry) (k : Stage) → n.stage ≡ k → (solicited now n).key ≡ n.key
solicited_key now n (Resolving r t b ws) is = rw is refl
solicited_key now n (Known mac c since None) is = rw is refl
solicited_key now n (Known mac c since (Some p)) is = rw is refl

-- a turn adds its row
module _ (now : ℕ) (old new : List NeighbourEntry) (i : ℕ) (n : NeighbourEntry) (lt : i < length old) (at_i : n ≡ get_or old i n) (first : due_in now old ≡ Some n) (is : new ≡ cond (stays (falls n)) (set old i (solicited now n)) (remove old i)) where
  staying : (stays (falls n) ≡ true) → new ≡ set old i (solicited now n)
  staying left = is ∙ cond-true (stays (falls n)) _ (remove old i) left

  going : (stays (falls n) ≡ false) → new ≡ remove old i
  going left = is ∙ cond-false (stays (falls n)) (set old i (solicited now n)) _ left

  turn_gains : (k : Stage) → n.stage ≡ k → GainsRow old new (due_row now (falls_to n.key k))
  turn_gains (Resolving r t b ws) kept = elim (cases_Bool (ltb t 2)) [
    | inl more ↦
        let left : stays (falls n) ≡ true = rw (kept, more) refl in
        rw more (record {
          stands = λ history s.
              (changing old new n.key now Solicited i n (solicited now n) refl lt at_i (due_has address date_of now old n s.order first) (solicited_key now n (Resolving r t b ws) kept) refl (staying left)
              (λ story present known. asks n.key now n story known present (same_Some n.due now (due_now date_of now old n first)) (ap known_mac kept))).stands history s;
        })
    | inr last ↦
        let left : stays (falls n) ≡ false = rw (kept, last) refl in
        rw last (leaving old new n.key now Failed i n lt at_i refl (going left))
  ]
  turn_gains (Known mac c since None) kept =
      leaving old new n.key now Aged i n lt at_i refl (going (ap (λ k. stays (falls_to n.key k)) kept))
  turn_gains (Known mac c since (Some p)) kept = elim (cases_Bool (ltb p.sent 3)) [
    | inl more ↦
        let left : stays (falls n) ≡ true = rw (kept, more) refl in
        rw more (record {
          stands = λ history s.
              (changing old new n.key now Probed i n (solicited now n) refl lt at_i (due_has address date_of now old n s.order first) (solicited_key now n (Known mac c since (Some p)) kept) refl (staying left)
              (λ story present known. probes n.key now mac n story known present (same_Some n.due now (due_now date_of now old n first)) (ap known_mac kept) left)).stands history s;
        })
    | inr last ↦
        let left : stays (falls n) ≡ false = rw (kept, last) refl in
        rw last (leaving old new n.key now Failed i n lt at_i refl (going left))
  ]

pub turned_gains : (now : ℕ) (old new : List NeighbourEntry) (what : Falls) → Turns now old new what → GainsRow old new (due_row now what)
turned_gains now old new what t =
    subst (λ (f : Falls). GainsRow old new (due_row now f)) (sym t.falls_is) (turn_gains now old new t.at t.entry t.within t.is t.first t.new_is t.entry.stage refl)

module _ (ns : List NeighbourEntry) (history : List Row) (s : Stands ns history) where
  pub next_is_due : (next : Option ℕ) → next_in ns ≡ next → NextDue history next
  next_is_due None is = λ moment key due.
      let d = due_entry ns history s moment key due in
      AtMost-none (next_in ns) d.0.due is (least_at_most address date_of key ns d.0 d.0.due d.1 (omega arith))
  next_is_due (Some next) is =
      let f = least_found address date_of ns next s.order is in (
        (f.0.key, subst (λ (m : ℕ). IsDue history m f.0.key) (same_Some f.0.due next f.2) (entry_due ns history s f.0.key f.0 f.1)),
        λ moment key due.
            let d = due_entry ns history s moment key due in
            subst (λ (m : ℕ). next ≤ m) d.2 (AtMost-some (next_in ns) d.0.due next is (least_at_most address date_of key ns d.0 d.0.due d.1 (omega arith))),
      )

turns-set : (ns : List NeighbourEntry) (i : ℕ) (n m : NeighbourEntry) → i < length ns → n ≡ get_or ns i n → turns_left (set ns i m) + turns_to n.stage ≡ turns_left ns + turns_to m.stage
turns-set [] i n m lt is = absurd (omega arith)
turns-set (x ∷ ns) zero n m lt is = let e : turns_to n.stage ≡ turns_to x.stage = ap (λ (y : NeighbourEntry). turns_to y.stage) is in omega arith
turns-set (x ∷ ns) (suc i) n m lt is = omega (arith, turns-set ns i n m (omega arith) is)

turns-remove : (ns : List NeighbourEntry) (i : ℕ) (n : NeighbourEntry) → i < length ns → n ≡ get_or ns i n → turns_left (remove ns i) + turns_to n.stage ≡ turns_left ns
turns-remove [] i n lt is = absurd (omega arith)
turns-remove (x ∷ ns) zero n lt is = let e : turns_to n.stage ≡ turns_to x.stage = ap (λ (y : NeighbourEntry). turns_to y.stage) is in omega arith
turns-remove (x ∷ ns) (suc i) n lt is = omega (arith, turns-remove ns i n (omega arith) is)

some_turn : (k : Stage) → 0 < turns_to k
some_turn (Resolving r t b ws) = omega arith
some_turn (Known mac c since None) = omega arith
some_turn (Known mac c since (Some p)) = omega arith

fewer_to : (now : ℕ) (n : NeighbourEntry) (k : Stage) → n.stage ≡ k → stays (falls_to n.key k) ≡ true → turns_to (solicited now n).stage < turns_to n.stage
fewer_to now n (Resolving r t b ws) kept left =
    let lt : t < 2 = grind (arith, nat_tests, left) in rw kept (omega arith)
fewer_to now n (Known mac c since None) kept left = absurd (true≢false (sym left))
fewer_to now n (Known mac c since (Some p)) kept left =
    let lt : p.sent < 3 = grind (arith, nat_tests, left) in rw kept (omega arith)

-- a turn leaves fewer turns
pub turned_fewer : (now : ℕ) (old new : List NeighbourEntry) (what : Falls) → Turns now old new what → turns_left new < turns_left old
turned_fewer now old new what t = elim (cases_Bool (stays (falls t.entry))) [
  | inl left ↦
      let is : new ≡ set old t.at (solicited now t.entry) = t.new_is ∙ cond-true (stays (falls t.entry)) _ (remove old t.at) left in
      rw is (omega (arith, turns-set old t.at t.entry (solicited now t.entry) t.within t.is, fewer_to now t.entry t.entry.stage refl left))
  | inr none ↦
      let is : new ≡ remove old t.at = t.new_is ∙ cond-false (stays (falls t.entry)) (set old t.at (solicited now t.entry)) _ none in
      rw is (omega (arith, turns-remove old t.at t.entry t.within t.is, some_turn t.entry.stage))
]

later_to : (now : ℕ) (n : NeighbourEntry) (k : Stage) → n.stage ≡ k → stays (falls_to n.key k) ≡ true → now ≤ (solicited now n).due
later_to now n (Resolving r t b ws) kept left = rw kept (omega arith)
later_to now n (Known mac c since None) kept left = absurd (true≢false (sym left))
later_to now n (Known mac c since (Some p)) kept left = rw kept (omega arith)

-- after a turn nothing is due before the moment
pub turned_later : (now : ℕ) (old new : List NeighbourEntry) (what : Falls) → Turns now old new what → NoneBefore old now → NoneBefore new now
turned_later now old new what t h = elim (cases_Bool (stays (falls t.entry))) [
  | inl left ↦
      let is : new ≡ set old t.at (solicited now t.entry) = t.new_is ∙ cond-true (stays (falls t.entry)) _ (remove old t.at) left in
      rw is (NotBefore-set date_of now old t.at (solicited now t.entry) h (later_to now t.entry t.entry.stage refl left))
  | inr none ↦
      let is : new ≡ remove old t.at = t.new_is ∙ cond-false (stays (falls t.entry)) (set old t.at (solicited now t.entry)) _ none in
      rw is (NotBefore-remove date_of now old t.at h)
]
