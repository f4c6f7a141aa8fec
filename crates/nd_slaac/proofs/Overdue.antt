-- Nothing that happens to one of the node's addresses is due in the past.
use Rattle.std.proofs.Common.{◌≡◌, ℕ, ◌+◌, ◌*◌, ◌≤◌, true, false, cond, eqb, ltb, List, [], ◌∷◌, Option, Some, None, refl, sym, arith, ⊎_elim}
use Rattle.std.specs.Prelude.{max}
use Rattle.std.proofs.lemmas.Bool.{true≢false, cond_both, cases_lt}
use Rattle.nd_table.specs.DueKept.{NotBefore}
use Rattle.nd_table.specs.Ends.{end_time}
use Rattle.nd_slaac.specs.History.{Row, Story, story, RowKind, Formed, SetByHand, Announced, Solicited, Conflict, Assigned, Ended, is_end}
use Rattle.nd_slaac.specs.Ends.{valid_end}
use Rattle.nd_slaac.specs.TwoHours.{two_hours, renewed, within_two_hours}
use Rattle.nd_slaac.specs.State.{Forming, forming_of, is_known, sent_of, step_at}
use Rattle.nd_slaac.specs.AddressKept.{Address}
use Rattle.nd_slaac.specs.TableKept.{Stands}
use Rattle.nd_slaac.specs.Due.{Falls, Ends, Solicits, Assigns, IsStep, date_by, IsDue, NextDue, NoneOverdue}
use Rattle.nd_slaac.specs.Dates.{next_in, NoneBefore}
use Rattle.nd_slaac.proofs.Dues.{next_is_due, tentative_parts}

-- what is due for one address, by its story, was not due before the moment
record NoneLate (s : Story) (now : ℕ) : Type 0 where
  ends : (moment : ℕ) → is_known s ≡ true → valid_end s ≡ Some moment → now ≤ moment
  steps : (moment : ℕ) → IsStep s moment → now ≤ moment

end_later : (now lifetime moment : ℕ) → end_time now lifetime ≡ Some moment → now ≤ moment
end_later now lifetime moment = cond_both (eqb lifetime 4294967295) None (Some (now + 1000 * lifetime)) (λ (o : Option ℕ). o ≡ Some moment → now ≤ moment)
    (λ _ is. let no : ⊥ = cc in absurd no) (λ _ is. let e : now + 1000 * lifetime ≡ moment = cc in omega arith)

renewed_later : (now valid moment : ℕ) (end : Option ℕ) → renewed now end valid ≡ Some moment → now ≤ moment
renewed_later now valid moment end = cond_both (ltb two_hours valid) (end_time now valid) (Some (max (now + 1000 * valid) (within_two_hours now end))) (λ (o : Option ℕ). o ≡ Some moment → now ≤ moment)
    (λ _ is. end_later now valid moment is) (λ _ is. let e : max (now + 1000 * valid) (within_two_hours now end) ≡ moment = cc in omega arith)

module _ (now : ℕ) (s : Story) (late : NoneLate s now) where
  step_later : (o : Option Forming) (sent moment : ℕ) → ((m : ℕ) → date_by o sent ≡ Some m → now ≤ m) → date_by o (sent + 1) ≡ Some moment → now ≤ moment
  step_later None sent moment le is = let no : ⊥ = cc in absurd no
  step_later (Some f) sent moment le is =
      let e : step_at f (sent + 1) ≡ moment = cc in
      let l : now ≤ step_at f sent = le (step_at f sent) refl in
      omega (arith, e, l)

  -- in all cases now, what is due for the address isn't due before now
  story_later : (kind : RowKind) → is_end kind ≡ false → NoneLate ((now, kind) ∷ s) now
  story_later (Formed delay retrans None) e = record {
    ends = λ moment known is. let no : ⊥ = cc in absurd no;
    steps = λ moment step. let e : now + delay + 0 * retrans ≡ moment = let d = step.date in cc in omega arith;
  }
  story_later (Formed delay retrans (Some lifetimes)) e = record {
    ends = λ moment known is. end_later now lifetimes.valid moment is;
    steps = λ moment step. let e : now + delay + 0 * retrans ≡ moment = let d = step.date in cc in omega arith;
  }
  story_later (SetByHand lifetimes) e = record {
    ends = λ moment known is. end_later now lifetimes.valid moment is;
    steps = λ moment step. late.steps moment (record { tentative = step.tentative; date = step.date });
  }
  story_later (Announced lifetimes) e = record {
    ends = λ moment known is. renewed_later now lifetimes.valid moment (valid_end s) is;
    steps = λ moment step. late.steps moment (record { tentative = step.tentative; date = step.date });
  }
  story_later Solicited e = record {
    ends = λ moment known is. late.ends moment known is;
    steps = λ moment step. step_later (forming_of s) (sent_of s) moment (λ m d. late.steps m (record { tentative = step.tentative; date = d })) step.date;
  }
  story_later Conflict e = record {
    ends = λ moment known is. late.ends moment known is;
    steps = λ moment step. absurd (true≢false (tentative_parts ((now, Conflict) ∷ s) step.tentative).1);
  }
  story_later Assigned e = record {
    ends = λ moment known is. late.ends moment known is;
    steps = λ moment step. absurd (true≢false (tentative_parts ((now, Assigned) ∷ s) step.tentative).2);
  }
  story_later Ended e = absurd (true≢false e)

-- a detection sends so many solicitations
module _ (transmits : ℕ) where
  late_in : (history : List Row) (now key : ℕ) → NoneOverdue transmits history now → NoneLate (story key history) now
  late_in history now key none = record {
    ends = λ moment known is. none.none moment (Ends key) (known, is);
    steps = λ moment step. ⊎_elim (λ lt. none.none moment (Solicits key) (step, lt)) (λ ge. none.none moment (Assigns key) (step, ge)) (cases_lt (sent_of (story key history)) transmits);
  }

  late_none : (now : ℕ) → NoneLate [] now
  late_none now = record {
    ends = λ moment known is. absurd (true≢false (sym known));
    steps = λ moment step. absurd (true≢false (sym step.tentative));
  }

  late_after : (history : List Row) (now key k : ℕ) (kind : RowKind) → NoneOverdue transmits history now → NoneLate (story k ((now, key, kind) ∷ history)) now
  late_after history now key k kind none =
      cond_both (eqb key k) (cond (is_end kind) [] ((now, kind) ∷ story k history)) (story k history) (λ (s : Story). NoneLate s now)
      (λ _. cond_both (is_end kind) [] ((now, kind) ∷ story k history) (λ (s : Story). NoneLate s now) (λ _. late_none now) (λ e. story_later now (story k history) (late_in history now k none) kind e))
      (λ _. late_in history now k none)

  -- what happens now makes nothing due in the past
  pub still_none : (history : List Row) (now key : ℕ) (kind : RowKind) → NoneOverdue transmits history now → NoneOverdue transmits ((now, key, kind) ∷ history) now
  still_none history now key kind none = record { none = λ moment falls due. by_late falls moment due }
    where
      by_late : (falls : Falls) (moment : ℕ) → IsDue transmits ((now, key, kind) ∷ history) moment falls → now ≤ moment
      by_late (Ends k) moment due = (late_after history now key k kind none).ends moment due.0 due.1
      by_late (Solicits k) moment due = (late_after history now key k kind none).steps moment due.0
      by_late (Assigns k) moment due = (late_after history now key k kind none).steps moment due.0

  -- and the table says so
  pub by_table : (addresses : List Address) (history : List Row) → Stands addresses history → (now : ℕ) → NoneBefore addresses now → NoneOverdue transmits history now
  by_table addresses history s now h = record { none = least (next_in addresses) (next_is_due transmits addresses history s (next_in addresses) refl) h }
    where
      least : (next : Option ℕ) → NextDue transmits history next → NotBefore now next → (moment : ℕ) (falls : Falls) → IsDue transmits history moment falls → now ≤ moment
      least None due h moment falls is = absurd (due moment falls is)
      least (Some next) due h moment falls is = omega (arith, due.1 moment falls is)

  pub to_table : (addresses : List Address) (history : List Row) → Stands addresses history → (now : ℕ) → NoneOverdue transmits history now → NoneBefore addresses now
  to_table addresses history s now none = least (next_in addresses) (next_is_due transmits addresses history s (next_in addresses) refl)
    where
      least : (next : Option ℕ) → NextDue transmits history next → NotBefore now next
      least None due = tt
      least (Some next) due = none.none next due.0.0 due.0.1
