-- What a came says of an address that is tentative, and of one that is assigned.
use Rattle.std.proofs.Common.{◌≡◌, ℕ, ◌+◌, ◌-◌, ◌*◌, ◌<◌, ◌≤◌, Bool, true, false, eqb, ltb, List, [], ◌∷◌, Option, Some, None, refl, sym, ◌∙◌, ap, subst, arith, inl, inr}
use Rattle.std.specs.Prelude.{◌&&◌, not}
use Rattle.std.proofs.Math.Nat.{add-mul}
use Rattle.std.proofs.lemmas.Bool.Decides.{nat_tests}
use Rattle.std.proofs.lemmas.Bool.{true≢false, eqb-true, eq-eqb, cases_Bool}
use Rattle.nd_slaac.specs.History.{RowKind, Formed, SetByHand, Announced, Solicited, Conflict, Assigned, Ended, Lifetimes, Row, Story, story, is_end}
use Rattle.nd_table.specs.Ends.{is_before}
use Rattle.nd_table.proofs.Pasts.{past-length, past-same}
use Rattle.nd_slaac.specs.Ends.{valid_end}
use Rattle.nd_slaac.specs.State.{Forming, forming_of, is_known, has_conflict, was_assigned, sent_of, is_tentative, is_assigned, step_at}
use Rattle.nd_slaac.specs.Due.{Falls, Ends, Assigns, step_date, date_by, IsDue}
use Rattle.nd_slaac.specs.MayCome.{IsTurn, MayCome, IsHistory, Tried, Held}
use Rattle.nd_slaac.proofs.Steps.{other_story, same_story, ended_story}
use Rattle.nd_slaac.proofs.Dues.{tentative_parts}

unknown_tentative : is_tentative [] ≡ true → ⊥
unknown_tentative h = true≢false (sym h)

pub conflict_by : (k w : Bool) → (k && not true && w) ≡ true → ⊥
conflict_by true w h = true≢false (sym h)
conflict_by false w h = true≢false (sym h)

pub assigned_tentative : (k c : Bool) → (k && not c && not true) ≡ true → ⊥
assigned_tentative true true h = true≢false (sym h)
assigned_tentative true false h = true≢false (sym h)
assigned_tentative false c h = true≢false (sym h)

-- so many RetransTimers after the beginning, and so many before the end
counted_back : (begin retrans count back : ℕ) → back ≤ count → begin + count * retrans ≡ begin + (count - back) * retrans + back * retrans
counted_back begin retrans count back le =
    let e : count ≡ count - back + back = omega (arith, le) in
    let f : count * retrans ≡ (count - back) * retrans + back * retrans = ap (λ n. n * retrans) e ∙ add-mul (count - back) back retrans in
    omega (arith, f)

-- a detection sends so many solicitations
module _ (transmits : ℕ) where
  -- an address that is tentative was tried since it was formed
  record TriedNow (key : ℕ) (history : List Row) : Type 0 where
    formed : ℕ
    delay : ℕ
    retrans : ℕ
    lifetimes : Option Lifetimes
    below : List Row
    tried : Tried key history formed delay retrans (sent_of (story key history)) lifetimes below
    forming : forming_of (story key history) ≡ Some (record { at = formed; delay = delay; retrans = retrans })
    few : sent_of (story key history) ≤ transmits

  -- one more row that is no solicitation for it
  module _ (key : ℕ) (row : Row) (history : List Row) where
    goes_on : (formed delay retrans sent : ℕ) (lifetimes : Option Lifetimes) (below : List Row) → Tried key history formed delay retrans sent lifetimes below → is_tentative (story key (row ∷ history)) ≡ true → ((moment : ℕ) → row ≡ (moment, key, Solicited) → ⊥) → Tried key (row ∷ history) formed delay retrans sent lifetimes below
    goes_on formed delay retrans sent lifetimes below t now differs = record {
      formed_at = inr t.formed_at;
      positive = t.positive;
      tentative = λ h p q. elim p [
        | inl e ↦ ap (λ l. is_tentative (story key l)) e ∙ now
        | inr p' ↦ t.tentative h p' q
      ];
      solicited = λ number lt. let s = t.solicited number lt in (s.0, inr s.1, s.2);
      only = λ moment earlier p q. elim p [
        | inl e ↦ absurd (differs moment (let f : (moment, key, Solicited) ≡ row = cc in sym f))
        | inr p' ↦ t.only moment earlier p' q
      ];
    }

  abbrev first_moment : List Row → ℕ
  first_moment [] = 0
  first_moment (row ∷ history) = row.0

  -- a solicitation for it at its date
  solicits : (key : ℕ) (history : List Row) (formed delay retrans sent at : ℕ) (lifetimes : Option Lifetimes) (below : List Row) → Tried key history formed delay retrans sent lifetimes below → is_tentative (story key ((at, key, Solicited) ∷ history)) ≡ true → at ≡ formed + delay + sent * retrans → Tried key ((at, key, Solicited) ∷ history) formed delay retrans (sent + 1) lifetimes below
  solicits key history formed delay retrans sent at lifetimes below t now date = record {
    formed_at = inr t.formed_at;
    positive = t.positive;
    tentative = λ h p q. elim p [
      | inl e ↦ ap (λ l. is_tentative (story key l)) e ∙ now
      | inr p' ↦ t.tentative h p' q
    ];
    solicited = λ number lt. elim (cases_Bool (ltb number sent)) [
      | inl below' ↦ let s = t.solicited number (grind (arith, nat_tests, below')) in (s.0, inr s.1, s.2)
      | inr last ↦
          let e : number ≡ sent = grind (arith, nat_tests, last, lt) in
          let d : formed + delay + number * retrans ≡ at = ap (λ n. formed + delay + n * retrans) e ∙ sym date in
          (history, inl (ap (λ (m : ℕ). (m, key, Solicited) ∷ history) d), t.formed_at)
    ];
    only = λ moment earlier p q. elim p [
      | inl e ↦ omega (arith, ap first_moment e, date)
      | inr p' ↦ omega (arith, t.only moment earlier p' q)
    ];
  }

  -- the date of a step, by the forming
  date_is : (s : Story) (formed delay retrans at : ℕ) → forming_of s ≡ Some (record { at = formed; delay = delay; retrans = retrans }) → step_date s ≡ Some at → at ≡ formed + delay + sent_of s * retrans
  date_is s formed delay retrans at is date =
      let f : Forming = record { at = formed; delay = delay; retrans = retrans } in
      let e : Some (step_at f (sent_of s)) ≡ Some at = sym (ap (λ o. date_by o (sent_of s)) is) ∙ date in
      let e' : step_at f (sent_of s) ≡ at = cc in sym e'

  -- the history go on with one of the address itself
  module _ (key at : ℕ) (history : List Row) (before : is_tentative (story key history) ≡ true → TriedNow key history) where
    same_at : (h : RowKind) → is_end h ≡ false → story key ((at, key, h) ∷ history) ≡ (at, h) ∷ story key history
    same_at h goes = same_story key at h history goes

    still : (h : RowKind) → is_end h ≡ false → ((s : Story) → is_tentative ((at, h) ∷ s) ≡ is_tentative s) → ((s : Story) → forming_of ((at, h) ∷ s) ≡ forming_of s) → ((s : Story) → sent_of ((at, h) ∷ s) ≡ sent_of s) → ((moment : ℕ) → h ≡ Solicited → ⊥) → is_tentative (story key ((at, key, h) ∷ history)) ≡ true → TriedNow key ((at, key, h) ∷ history)
    still h goes tentative forming sent differs now =
        let s = story key history in
        let t = before (sym (tentative s) ∙ (sym (ap is_tentative (same_at h goes)) ∙ now)) in
        let sent_is : sent_of (story key ((at, key, h) ∷ history)) ≡ sent_of s = ap sent_of (same_at h goes) ∙ sent s in
        record {
          formed = t.formed;
          delay = t.delay;
          retrans = t.retrans;
          lifetimes = t.lifetimes;
          below = t.below;
          tried = subst (λ (n : ℕ). Tried key ((at, key, h) ∷ history) t.formed t.delay t.retrans n t.lifetimes t.below) (sym sent_is)
              (goes_on key (at, key, h) history t.formed t.delay t.retrans (sent_of s) t.lifetimes t.below t.tried now (λ moment e. differs moment (ap (λ (r : Row). r.2) e)));
          forming = ap forming_of (same_at h goes) ∙ (forming s ∙ t.forming);
          few = subst (λ (n : ℕ). n ≤ transmits) (sym sent_is) t.few;
        }

    tried_on : (h : RowKind) → MayCome transmits (at, key, h) history → is_tentative (story key ((at, key, h) ∷ history)) ≡ true → TriedNow key ((at, key, h) ∷ history)
    tried_on (Formed delay retrans lifetimes) may now =
        let made : story key ((at, key, Formed delay retrans lifetimes) ∷ history) ≡ (at, Formed delay retrans lifetimes) ∷ story key history = same_at (Formed delay retrans lifetimes) refl in
        let none : sent_of (story key ((at, key, Formed delay retrans lifetimes) ∷ history)) ≡ 0 = ap sent_of made in
        record {
          formed = at;
          delay = delay;
          retrans = retrans;
          lifetimes = lifetimes;
          below = history;
          tried = subst (λ (n : ℕ). Tried key ((at, key, Formed delay retrans lifetimes) ∷ history) at delay retrans n lifetimes history) (sym none) (record {
            formed_at = inl refl;
            positive = may.1;
            tentative = λ h p q. ap (λ l. is_tentative (story key l)) (past-same h (at, key, Formed delay retrans lifetimes) history p q) ∙ now;
            solicited = λ number lt. absurd (omega arith);
            only = λ moment earlier p q. absurd (omega (arith, past-length ((moment, key, Solicited) ∷ earlier) ((at, key, Formed delay retrans lifetimes) ∷ history) p, past-length ((at, key, Formed delay retrans lifetimes) ∷ history) earlier q));
          });
          forming = ap forming_of made;
          few = omega (arith, none);
        }
    tried_on (SetByHand lifetimes) may now = still (SetByHand lifetimes) refl (λ s. refl) (λ s. refl) (λ s. refl) (λ moment e. cc) now
    tried_on (Announced lifetimes) may now = still (Announced lifetimes) refl (λ s. refl) (λ s. refl) (λ s. refl) (λ moment e. cc) now
    tried_on Solicited may now =
        let s = story key history in
        let made : story key ((at, key, Solicited) ∷ history) ≡ (at, Solicited) ∷ s = same_at Solicited refl in
        let step = may.first.due in
        let t = before step.0.tentative in
        let date : at ≡ t.formed + t.delay + sent_of s * t.retrans = date_is s t.formed t.delay t.retrans at t.forming step.0.date in
        let sent_is : sent_of (story key ((at, key, Solicited) ∷ history)) ≡ sent_of s + 1 = ap sent_of made in
        record {
          formed = t.formed;
          delay = t.delay;
          retrans = t.retrans;
          lifetimes = t.lifetimes;
          below = t.below;
          tried = subst (λ (n : ℕ). Tried key ((at, key, Solicited) ∷ history) t.formed t.delay t.retrans n t.lifetimes t.below) (sym sent_is)
              (solicits key history t.formed t.delay t.retrans (sent_of s) at t.lifetimes t.below t.tried now date);
          forming = ap forming_of made ∙ t.forming;
          few = omega (arith, sent_is, step.1);
        }
    tried_on Conflict may now = absurd (conflict_by (is_known (story key history)) (not (was_assigned (story key history))) (sym (ap is_tentative (same_at Conflict refl)) ∙ now))
    tried_on Assigned may now = absurd (assigned_tentative (is_known (story key history)) (has_conflict (story key history)) (sym (ap is_tentative (same_at Assigned refl)) ∙ now))
    tried_on Ended may now = absurd (unknown_tentative (sym (ap is_tentative (ended_story key at history)) ∙ now))

  -- and with one of another address
  tried_beside : (key at k : ℕ) (h : RowKind) (history : List Row) → eqb k key ≡ false → (is_tentative (story key history) ≡ true → TriedNow key history) → is_tentative (story key ((at, k, h) ∷ history)) ≡ true → TriedNow key ((at, k, h) ∷ history)
  tried_beside key at k h history differ before now =
      let same : story key ((at, k, h) ∷ history) ≡ story key history = other_story key k at h history differ in
      let t = before (sym (ap is_tentative same) ∙ now) in
      record {
        formed = t.formed;
        delay = t.delay;
        retrans = t.retrans;
        lifetimes = t.lifetimes;
        below = t.below;
        tried = subst (λ (n : ℕ). Tried key ((at, k, h) ∷ history) t.formed t.delay t.retrans n t.lifetimes t.below) (sym (ap sent_of same))
            (goes_on key (at, k, h) history t.formed t.delay t.retrans (sent_of (story key history)) t.lifetimes t.below t.tried now
            (λ moment e. let f : k ≡ key = ap (λ (r : Row). r.1) e in true≢false (sym (eq-eqb k key f) ∙ differ)));
        forming = ap forming_of same ∙ t.forming;
        few = subst (λ (n : ℕ). n ≤ transmits) (sym (ap sent_of same)) t.few;
      }

  tried : (key : ℕ) (history : List Row) → IsHistory transmits history → is_tentative (story key history) ≡ true → TriedNow key history
  tried key [] came now = absurd (unknown_tentative now)
  tried key ((at, k, h) ∷ history) came now = elim (cases_Bool (eqb k key)) [
    | inl same ↦
        let e : k ≡ key = eqb-true k key same in
        subst (λ (j : ℕ). MayCome transmits (at, j, h) history → is_tentative (story key ((at, j, h) ∷ history)) ≡ true → TriedNow key ((at, j, h) ∷ history)) (sym e)
        (tried_on key at history (tried key history came.1) h) came.0 now
    | inr differ ↦ tried_beside key at k h history differ (tried key history came.1) now
  ]

  -- an address that is assigned
  module _ (key : ℕ) (row : Row) (history : List Row) where
    holds_on : Held transmits key history → is_assigned (story key (row ∷ history)) ≡ true → Held transmits key (row ∷ history)
    holds_on held now = record {
      formed = held.formed;
      delay = held.delay;
      retrans = held.retrans;
      lifetimes = held.lifetimes;
      below = held.below;
      assigned = held.assigned;
      over = held.over;
      assigned_at = inr held.assigned_at;
      tried = held.tried;
      solicited = held.solicited;
      date = held.date;
      valid = held.valid;
      since = λ h p q. elim p [
        | inl e ↦ ap (λ l. is_assigned (story key l)) e ∙ now
        | inr p' ↦ held.since h p' q
      ];
    }

  -- an end that is known comes first
  before_end : (history : List Row) (key at : ℕ) (o : Option ℕ) → valid_end (story key history) ≡ o → is_known (story key history) ≡ true → IsTurn transmits history at (Assigns key) → is_before at o ≡ true
  before_end history key at None is known turn = refl
  before_end history key at (Some end) is known turn =
      let le : at ≤ end = turn.none_before end (Ends key) (known, is) in
      elim (cases_Bool (ltb at end)) [
        | inl lt ↦ lt
        | inr ge ↦
            let e : end ≡ at = grind (arith, nat_tests, ge, le) in
            elim (turn.first.first (Ends key) (known, is ∙ ap Some e)) [
              | inl lt ↦ absurd (omega (arith, lt))
              | inr same ↦ absurd (omega (arith, same.0))
            ]
      ]

  module _ (key at : ℕ) (history : List Row) (came : IsHistory transmits history) (before : is_assigned (story key history) ≡ true → Held transmits key history) where
    held_still : (h : RowKind) → is_end h ≡ false → ((s : Story) → is_assigned ((at, h) ∷ s) ≡ is_assigned s) → is_assigned (story key ((at, key, h) ∷ history)) ≡ true → Held transmits key ((at, key, h) ∷ history)
    held_still h goes assigned now =
        holds_on key (at, key, h) history (before (sym (assigned (story key history)) ∙ (sym (ap is_assigned (same_story key at h history goes)) ∙ now))) now

    held_on : (h : RowKind) → MayCome transmits (at, key, h) history → is_assigned (story key ((at, key, h) ∷ history)) ≡ true → Held transmits key ((at, key, h) ∷ history)
    held_on (Formed delay retrans lifetimes) may now = absurd (true≢false (sym (sym (ap is_assigned (same_story key at (Formed delay retrans lifetimes) history refl)) ∙ now)))
    held_on (SetByHand lifetimes) may now = held_still (SetByHand lifetimes) refl (λ s. refl) now
    held_on (Announced lifetimes) may now = held_still (Announced lifetimes) refl (λ s. refl) now
    held_on Solicited may now = held_still Solicited refl (λ s. refl) now
    held_on Conflict may now = absurd (conflict_by (is_known (story key history)) (was_assigned (story key history)) (sym (ap is_assigned (same_story key at Conflict history refl)) ∙ now))
    held_on Assigned may now =
        let s = story key history in
        let step = may.first.due in
        let t = tried key history came step.0.tentative in
        let sent_is : sent_of s ≡ transmits = omega (arith, t.few, step.1) in
        let parts = tentative_parts s step.0.tentative in
        let was : Tried key history t.formed t.delay t.retrans transmits t.lifetimes t.below = subst (λ (n : ℕ). Tried key history t.formed t.delay t.retrans n t.lifetimes t.below) sent_is t.tried in
        let date : at ≡ t.formed + t.delay + transmits * t.retrans = date_is s t.formed t.delay t.retrans at t.forming step.0.date ∙ ap (λ n. t.formed + t.delay + n * t.retrans) sent_is in
        record {
          formed = t.formed;
          delay = t.delay;
          retrans = t.retrans;
          lifetimes = t.lifetimes;
          below = t.below;
          assigned = at;
          over = history;
          assigned_at = inl refl;
          tried = was;
          solicited = λ back some le. let s = was.solicited (transmits - back) (omega (arith, some, le)) in
              (t.formed + t.delay + (transmits - back) * t.retrans, s.0, date ∙ counted_back (t.formed + t.delay) t.retrans transmits back le, s.1, s.2);
          date = date;
          valid = before_end history key at (valid_end s) refl parts.0 may;
          since = λ h p q. ap (λ l. is_assigned (story key l)) (past-same h (at, key, Assigned) history p q) ∙ now;
        }
    held_on Ended may now = absurd (true≢false (sym (sym (ap is_assigned (ended_story key at history)) ∙ now)))

  pub held : (history : List Row) (key : ℕ) → IsHistory transmits history → is_assigned (story key history) ≡ true → Held transmits key history
  held [] key came now = absurd (true≢false (sym now))
  held ((at, k, h) ∷ history) key came now = elim (cases_Bool (eqb k key)) [
    | inl same ↦
        let e : k ≡ key = eqb-true k key same in
        subst (λ (j : ℕ). MayCome transmits (at, j, h) history → is_assigned (story key ((at, j, h) ∷ history)) ≡ true → Held transmits key ((at, j, h) ∷ history)) (sym e)
        (held_on key at history came.1 (held history key came.1) h) came.0 now
    | inr differ ↦
        let same : story key ((at, k, h) ∷ history) ≡ story key history = other_story key k at h history differ in
        holds_on key (at, k, h) history (held history key came.1 (sym (ap is_assigned same) ∙ now)) now
  ]

  -- where nothing is due up to a moment, the moment is before the valid end of each address that is known
  pub valid_by : (history : List Row) (t : ℕ) → ((moment : ℕ) (falls : Falls) → IsDue transmits history moment falls → t < moment) → (key : ℕ) → is_known (story key history) ≡ true → is_before t (valid_end (story key history)) ≡ true
  valid_by history t settled key known = by_end (valid_end (story key history)) refl
    where
      by_end : (o : Option ℕ) → valid_end (story key history) ≡ o → is_before t o ≡ true
      by_end None is = refl
      by_end (Some end) is = let lt : t < end = settled end (Ends key) (known, is) in grind (arith, nat_tests, lt)
