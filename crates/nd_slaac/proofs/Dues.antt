-- What a turn, and the moment of the next one, say of the history that the table stands for.
use Rattle.std.proofs.Common.{◌≡◌, ℕ, ◌+◌, ◌<◌, ◌≤◌, Bool, true, false, cond, ltb, List, [], ◌∷◌, length, get_or, set, Option, Some, None, refl, sym, ◌∙◌, ap, subst, arith, suc, zero, ◌⊎◌, inl, inr}
use Rattle.std.specs.Prelude.{is_some, ◌&&◌, not}
use Rattle.std.specs.List.{remove}
use Rattle.std.proofs.lemmas.Bool.Decides.{nat_tests}
use Rattle.std.proofs.lemmas.Bool.{true≢false, cases_Bool}
use Rattle.nd_table.specs.DueKept.{NotBefore}
use Rattle.nd_slaac.specs.declared.stage.Stage.{Stage}
use Rattle.nd_slaac.specs.declared.stage.Stage.TheVariants.{Detecting, Failed, Passed}
use Rattle.nd_slaac.specs.History.{Row, Story, story, is_end}
use Rattle.nd_slaac.specs.State.{Forming, forming_of, is_known, has_conflict, was_assigned, sent_of, is_tentative, step_at}
use Rattle.nd_slaac.specs.AddressKept.{Address, stage_by, address_of}
use Rattle.nd_slaac.specs.TableKept.{key_of, address_in, Stands, GainsRow}
use Rattle.nd_slaac.specs.Due.{Falls, Ends, Solicits, Assigns, IsStep, date_by, IsDue, key_in, pass_of, NotAfter, IsFirst, FirstDue, NextDue, happens, due_row}
use Rattle.nd_slaac.specs.Dates.{earlier, end_date, stage_date, next_step, first_at, next_in, NoneBefore, falls_by, stage_after, stepped, Turns, Goes, Steps, Rests, turns_to, turns_left}
use Rattle.nd_slaac.specs.MayCome.{IsTurn, MayCome}
use Rattle.nd_table.proofs.Due.{AtMost, AtMost-some, AtMost-none, AtMost-from, due_now, due_has, due_least, none_due, least_at_most, least_found, lesser_is, NotBefore-both, NotBefore-set, NotBefore-remove}
use Rattle.nd_slaac.proofs.First.{at_most_end, at_most_step, NoneBefore-at}
use Rattle.nd_slaac.proofs.Stories.{made, was_formed, known_forming, formed_is, steps}
use Rattle.nd_slaac.proofs.Changes.{when_stepped}
use Rattle.nd_slaac.proofs.Steps.{changing, leaving}

-- the date that is asked of what falls
abbrev pub date_of : Falls → Address → Option ℕ
date_of (Ends key) = end_date
date_of (Solicits key) = next_step
date_of (Assigns key) = next_step

known_is : (s : Story) (f : Forming) → forming_of s ≡ Some f → is_known s ≡ true
known_is s f is = ap is_some is

tentative_by : (k c w : Bool) → k ≡ true → c ≡ false → w ≡ false → (k && not c && not w) ≡ true
tentative_by k c w a b d = rw (a, b, d) refl

by_tentative : (k c w : Bool) → (k && not c && not w) ≡ true → (k ≡ true) × (c ≡ false) × (w ≡ false)
by_tentative true false false h = (refl, refl, refl)
by_tentative true false true h = absurd (true≢false (sym h))
by_tentative true true w h = absurd (true≢false (sym h))
by_tentative false false w h = absurd (true≢false (sym h))
by_tentative false true w h = absurd (true≢false (sym h))

-- of an address that is tentative
pub tentative_parts : (s : Story) → is_tentative s ≡ true → (is_known s ≡ true) × (has_conflict s ≡ false) × (was_assigned s ≡ false)
tentative_parts s h = by_tentative (is_known s) (has_conflict s) (was_assigned s) h

-- a step that is kept is due by the story
step_is : (key : ℕ) (s : Story) (a : Address) (now : ℕ) → address_of key s ≡ Some a → next_step a ≡ Some now → IsStep s now
step_is key s a now there h =
    let was = was_formed key s a there in
    let step = steps key s a was.0 now was.2 h in
    record {
      tentative = tentative_by (is_known s) (has_conflict s) (was_assigned s) (known_is s was.0 was.1) step.0 step.1;
      date = ap (λ o. date_by o (sent_of s)) was.1 ∙ ap Some step.2;
    }

-- a detection sends so many solicitations
module _ (transmits : ℕ) where
  stage_sent : (f : Forming) (c w : Bool) (sent key : ℕ) → c ≡ false → w ≡ false → falls_by transmits key (stage_by f c w sent) ≡ cond (ltb sent transmits) (Solicits key) (Assigns key)
  stage_sent f c w sent key not_c not_w = rw (not_c, not_w) refl

  -- which step it is
  falls_is : (key : ℕ) (s : Story) (a : Address) (now : ℕ) → address_of key s ≡ Some a → next_step a ≡ Some now → falls_by transmits key a.stage ≡ cond (ltb (sent_of s) transmits) (Solicits key) (Assigns key)
  falls_is key s a now there h =
      let was = was_formed key s a there in
      let step = steps key s a was.0 now was.2 h in
      ap (λ (m : Address). falls_by transmits key m.stage) was.2 ∙ stage_sent was.0 (has_conflict s) (was_assigned s) (sent_of s) key step.0 step.1

  step_due : (history : List Row) (key : ℕ) (a : Address) (now : ℕ) → address_of key (story key history) ≡ Some a → next_step a ≡ Some now → IsDue transmits history now (falls_by transmits key a.stage)
  step_due history key a now there h =
      let s = story key history in
      let step = step_is key s a now there h in
      elim (cases_Bool (ltb (sent_of s) transmits)) [
        | inl more ↦
            let e : falls_by transmits key a.stage ≡ Solicits key = falls_is key s a now there h ∙ rw more refl in
            subst (IsDue transmits history now) (sym e) (step, grind (arith, nat_tests, more))
        | inr last ↦
            let e : falls_by transmits key a.stage ≡ Assigns key = falls_is key s a now there h ∙ rw last refl in
            subst (IsDue transmits history now) (sym e) (step, grind (arith, nat_tests, last))
      ]

  date_stage : (f : Forming) (c w : Bool) (sent : ℕ) → c ≡ false → w ≡ false → stage_date (stage_by f c w sent) ≡ Some (step_at f sent)
  date_stage f c w sent not_c not_w = rw (not_c, not_w) refl

  -- a step that is due is kept
  step_kept : (key : ℕ) (s : Story) (now : ℕ) → IsStep s now → (f : Forming) × (forming_of s ≡ Some f) × (next_step (made key f s) ≡ Some now)
  step_kept key s now step =
      let parts = tentative_parts s step.tentative in
      let f = known_forming s parts.0 in
      let d : Some (step_at f.0 (sent_of s)) ≡ Some now = sym (ap (λ o. date_by o (sent_of s)) f.1) ∙ step.date in
      (f.0, f.1, date_stage f.0 (has_conflict s) (was_assigned s) (sent_of s) parts.1 parts.2 ∙ d)

  module _ (xs : List Address) (history : List Row) (s : Stands xs history) where
    kept_step : (key moment : ℕ) → IsStep (story key history) moment → (a : Address) × (address_in key xs ≡ Some a) × (next_step a ≡ Some moment)
    kept_step key moment step =
        let k = step_kept key (story key history) moment step in
        (made key k.0 (story key history), s.each key ∙ formed_is key (story key history) k.0 k.1, k.2)

    -- what is due by the history is due in the table
    due_address : (moment : ℕ) (falls : Falls) → IsDue transmits history moment falls → (a : Address) × (address_in (key_in falls) xs ≡ Some a) × (date_of falls a ≡ Some moment)
    due_address moment (Ends key) due =
        let f = known_forming (story key history) due.0 in
        (made key f.0 (story key history), s.each key ∙ formed_is key (story key history) f.0 f.1, due.1)
    due_address moment (Solicits key) due = kept_step key moment due.0
    due_address moment (Assigns key) due = kept_step key moment due.0

    -- and the other way
    end_due : (moment key : ℕ) (a : Address) → address_in key xs ≡ Some a → end_date a ≡ Some moment → IsDue transmits history moment (Ends key)
    end_due moment key a is h =
        let was = was_formed key (story key history) a (sym (s.each key) ∙ is) in
        (known_is (story key history) was.0 was.1, ap end_date (sym was.2) ∙ h)

    kept_due : (moment key : ℕ) (a : Address) → address_in key xs ≡ Some a → next_step a ≡ Some moment → IsDue transmits history moment (falls_by transmits key a.stage)
    kept_due moment key a is h = step_due history key a moment (sym (s.each key) ∙ is) h

  stage_falls : (key now : ℕ) (st : Stage) → stage_date st ≡ Some now → (falls_by transmits key st ≡ Solicits key) ⊎ (falls_by transmits key st ≡ Assigns key)
  stage_falls key now Failed h = absurd (cc)
  stage_falls key now Passed h = absurd (cc)
  stage_falls key now (Detecting sent retrans due) h = elim (cases_Bool (ltb sent transmits)) [
    | inl more ↦ inl (rw more refl)
    | inr last ↦ inr (rw last refl)
  ]

  -- a step comes before none but an end
  step_first : (key : ℕ) (falls others : Falls) → (falls ≡ Solicits key) ⊎ (falls ≡ Assigns key) → pass_of others ≡ 1 → key ≤ key_in others → NotAfter falls others
  step_first key falls others (inl e) pass le = rw e (inr (sym pass, le))
  step_first key falls others (inr e) pass le = rw e (inr (sym pass, le))

  module _ (xs : List Address) (history : List Row) (s : Stands xs history) where
    end_falls : (now : ℕ) (a : Address) → first_at end_date now xs ≡ Some a → IsFirst transmits history now (Ends a.key)
    end_falls now a first =
        let has = due_has key_of end_date now xs a s.order first in
        record {
          due = end_due xs history s now a.key a has (due_now end_date now xs a first);
          first = λ others due. end_before others due;
        }
      where
        end_before : (others : Falls) → IsDue transmits history now others → NotAfter (Ends a.key) others
        end_before (Ends key) due = let d = due_address xs history s now (Ends key) due in inr (refl, due_least key_of end_date now key xs a d.0 s.order first d.1 d.2)
        end_before (Solicits key) due = inl (omega arith)
        end_before (Assigns key) due = inl (omega arith)

    step_falls : (now : ℕ) (a : Address) → first_at end_date now xs ≡ None → first_at next_step now xs ≡ Some a → IsFirst transmits history now (falls_by transmits a.key a.stage)
    step_falls now a none first =
        let has = due_has key_of next_step now xs a s.order first in
        record {
          due = kept_due xs history s now a.key a has (due_now next_step now xs a first);
          first = λ others due. step_before others due;
        }
      where
        which : (falls_by transmits a.key a.stage ≡ Solicits a.key) ⊎ (falls_by transmits a.key a.stage ≡ Assigns a.key)
        which = stage_falls a.key now a.stage (due_now next_step now xs a first)

        step_before : (others : Falls) → IsDue transmits history now others → NotAfter (falls_by transmits a.key a.stage) others
        step_before (Ends key) due = let d = due_address xs history s now (Ends key) due in absurd (none_due key_of end_date now key xs d.0 none d.1 d.2)
        step_before (Solicits key) due =
            let d = due_address xs history s now (Solicits key) due in
            step_first a.key (falls_by transmits a.key a.stage) (Solicits key) which refl (due_least key_of next_step now key xs a d.0 s.order first d.1 d.2)
        step_before (Assigns key) due =
            let d = due_address xs history s now (Assigns key) due in
            step_first a.key (falls_by transmits a.key a.stage) (Assigns key) which refl (due_least key_of next_step now key xs a d.0 s.order first d.1 d.2)

    pub turn_falls : (now : ℕ) (new : List Address) (what : Falls) → Turns transmits now xs new what → IsFirst transmits history now what
    turn_falls now new what (Goes i a lt is first what_is new_is) = subst (IsFirst transmits history now) (sym what_is) (end_falls now a first)
    turn_falls now new what (Steps i a lt is none first what_is new_is) = subst (IsFirst transmits history now) (sym what_is) (step_falls now a none first)

    pub rest_falls : (now : ℕ) → Rests now xs → FirstDue transmits history now None
    rest_falls now rests (Ends key) due = let d = due_address xs history s now (Ends key) due in none_due key_of end_date now key xs d.0 rests.ends d.1 d.2
    rest_falls now rests (Solicits key) due = let d = due_address xs history s now (Solicits key) due in none_due key_of next_step now key xs d.0 rests.steps d.1 d.2
    rest_falls now rests (Assigns key) due = let d = due_address xs history s now (Assigns key) due in none_due key_of next_step now key xs d.0 rests.steps d.1 d.2

    -- a date of the table isn't before the next one
    next_least : (moment : ℕ) (falls : Falls) → IsDue transmits history moment falls → AtMost (next_in xs) moment
    next_least moment (Ends key) due = let d = due_address xs history s moment (Ends key) due in least_at_most key_of earlier key xs d.0 moment d.1 (at_most_end moment d.0 d.2)
    next_least moment (Solicits key) due = let d = due_address xs history s moment (Solicits key) due in least_at_most key_of earlier key xs d.0 moment d.1 (at_most_step moment d.0 d.2)
    next_least moment (Assigns key) due = let d = due_address xs history s moment (Assigns key) due in least_at_most key_of earlier key xs d.0 moment d.1 (at_most_step moment d.0 d.2)

    pub next_is_due : (next : Option ℕ) → next_in xs ≡ next → NextDue transmits history next
    next_is_due None is = λ moment falls due. AtMost-none (next_in xs) moment is (next_least moment falls due)
    next_is_due (Some next) is =
        let f = least_found key_of earlier xs next s.order is in (
          elim (lesser_is (end_date f.0) (next_step f.0) next f.2) [
            | inl e ↦ (Ends f.0.key, end_due xs history s next f.0.key f.0 f.1 e)
            | inr e ↦ (falls_by transmits f.0.key f.0.stage, kept_due xs history s next f.0.key f.0 f.1 e)
          ],
          λ moment falls due. AtMost-some (next_in xs) moment next is (next_least moment falls due),
        )

  -- what a turn tells may come
  module _ (xs : List Address) (history : List Row) (s : Stands xs history) (now : ℕ) (none : NoneBefore xs now) where
    is_turn : (falls : Falls) → IsFirst transmits history now falls → IsTurn transmits history now falls
    is_turn falls first = record { first = first; none_before = λ moment others due. AtMost-from now moment (next_in xs) none (next_least xs history s moment others due) }

    comes : (falls : Falls) → IsFirst transmits history now falls → MayCome transmits (due_row now falls) history
    comes (Ends key) first = first.due.0
    comes (Solicits key) first = is_turn (Solicits key) first
    comes (Assigns key) first = is_turn (Assigns key) first

    pub turn_comes : (new : List Address) (what : Falls) → Turns transmits now xs new what → MayCome transmits (due_row now what) history
    turn_comes new what t = comes what (turn_falls xs history s now new what t)

  stepped_falls : (now : ℕ) (a : Address) → (falls_by transmits a.key a.stage ≡ Solicits a.key) ⊎ (falls_by transmits a.key a.stage ≡ Assigns a.key) → due_row now (falls_by transmits a.key a.stage) ≡ (now, a.key, happens (falls_by transmits a.key a.stage))
  stepped_falls now a (inl e) = rw e refl
  stepped_falls now a (inr e) = rw e refl

  step_stays : (falls : Falls) (key : ℕ) → (falls ≡ Solicits key) ⊎ (falls ≡ Assigns key) → is_end (happens falls) ≡ false
  step_stays falls key (inl e) = rw e refl
  step_stays falls key (inr e) = rw e refl

  -- a turn adds its row
  pub turn_gains : (now : ℕ) (old new : List Address) (what : Falls) → Turns transmits now old new what → GainsRow old new (due_row now what)
  turn_gains now old new what (Goes i a lt is first what_is new_is) =
      subst (λ (f : Falls). GainsRow old new (due_row now f)) (sym what_is) (leaving old new a.key now i a lt is refl new_is)
  turn_gains now old new what (Steps i a lt is none first what_is new_is) =
      let at : next_step a ≡ Some now = due_now next_step now old a first in
      let which = stage_falls a.key now a.stage at in
      let gains : GainsRow old new (now, a.key, happens (falls_by transmits a.key a.stage)) =
      changing old new a.key now (happens (falls_by transmits a.key a.stage)) i a (stepped transmits now a) (step_stays (falls_by transmits a.key a.stage) a.key which) lt is refl refl new_is
      (λ history s. due_has key_of next_step now old a s.order first) (λ s there. when_stepped transmits a.key now s a there at) in
      subst (λ (f : Falls). GainsRow old new (due_row now f)) (sym what_is) (subst (GainsRow old new) (sym (stepped_falls now a which)) gains)

  turns-set : (xs : List Address) (i : ℕ) (a m : Address) → i < length xs → a ≡ get_or xs i a → turns_left transmits (set xs i m) + turns_to transmits a.stage ≡ turns_left transmits xs + turns_to transmits m.stage
  turns-set [] i a m lt is = absurd (omega arith)
  turns-set (x ∷ xs) zero a m lt is = let e : turns_to transmits a.stage ≡ turns_to transmits x.stage = ap (λ (y : Address). turns_to transmits y.stage) is in omega arith
  turns-set (x ∷ xs) (suc i) a m lt is = omega (arith, turns-set xs i a m (omega arith) is)

  turns-remove : (xs : List Address) (i : ℕ) (a : Address) → i < length xs → a ≡ get_or xs i a → turns_left transmits (remove xs i) + turns_to transmits a.stage ≡ turns_left transmits xs
  turns-remove [] i a lt is = absurd (omega arith)
  turns-remove (x ∷ xs) zero a lt is = let e : turns_to transmits a.stage ≡ turns_to transmits x.stage = ap (λ (y : Address). turns_to transmits y.stage) is in omega arith
  turns-remove (x ∷ xs) (suc i) a lt is = omega (arith, turns-remove xs i a (omega arith) is)

  some_turn : (st : Stage) → 0 < turns_to transmits st
  some_turn (Detecting sent retrans due) = omega arith
  some_turn Failed = omega arith
  some_turn Passed = omega arith

  fewer_to : (now : ℕ) (st : Stage) → stage_date st ≡ Some now → turns_to transmits (stage_after transmits now st) < turns_to transmits st
  fewer_to now Failed h = absurd (cc)
  fewer_to now Passed h = absurd (cc)
  fewer_to now (Detecting sent retrans due) h = elim (cases_Bool (ltb sent transmits)) [
    | inl more ↦ let lt : sent < transmits = grind (arith, nat_tests, more) in rw more (omega arith)
    | inr last ↦ rw last (omega arith)
  ]

  -- a turn leaves fewer turns
  pub turn_fewer : (now : ℕ) (old new : List Address) (what : Falls) → Turns transmits now old new what → turns_left transmits new < turns_left transmits old
  turn_fewer now old new what (Goes i a lt is first what_is new_is) = rw new_is (omega (arith, turns-remove old i a lt is, some_turn a.stage))
  turn_fewer now old new what (Steps i a lt is none first what_is new_is) =
      rw new_is (omega (arith, turns-set old i a (stepped transmits now a) lt is, fewer_to now a.stage (due_now next_step now old a first)))

  later_to : (now : ℕ) (st : Stage) → NotBefore now (stage_date (stage_after transmits now st))
  later_to now Failed = tt
  later_to now Passed = tt
  later_to now (Detecting sent retrans due) = elim (cases_Bool (ltb sent transmits)) [
    | inl more ↦ rw more (omega arith)
    | inr last ↦ rw last tt
  ]

  -- after a turn nothing is due before the moment
  pub turn_later : (now : ℕ) (old new : List Address) (what : Falls) → Turns transmits now old new what → NoneBefore old now → NoneBefore new now
  turn_later now old new what (Goes i a lt is first what_is new_is) h = rw new_is (NotBefore-remove earlier now old i h)
  turn_later now old new what (Steps i a lt is none first what_is new_is) h =
      rw new_is (NotBefore-set earlier now old i (stepped transmits now a) h (NotBefore-both now (end_date (stepped transmits now a)) (next_step (stepped transmits now a)) (NoneBefore-at now old i a h lt is) (later_to now a.stage)))
