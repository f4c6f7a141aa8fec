-- What the least numbers of the entries say of the history that they stand for.
use Rattle.std.proofs.Common.{◌≡◌, ℕ, ◌<◌, ◌≤◌, cond, eqb, List, [], ◌∷◌, length, Option, Some, None, refl, sym, ◌∙◌, ap, subst, arith, ⊎_elim}
use Rattle.std.specs.Prelude.{not}
use Rattle.std.proofs.lemmas.Bool.Decides.{nat_tests}
use Rattle.std.proofs.lemmas.Bool.{cond_both, eqb-true, eq-eqb, ne_eqb, cond-true, cond-false}
use Rattle.nd_table.specs.declared.lasting.Lasting.{Lasting}
use Rattle.nd_table.specs.Announcements.{place}
use Rattle.nd_table.specs.Listing.{end_in, AllAfter, Rises, without}
use Rattle.nd_table.specs.ListingKept.{StandsUntilTold}
use Rattle.nd_routers.specs.History.{RouterRow, announcements}
use Rattle.nd_routers.specs.Routers.{same}
use Rattle.nd_routers.specs.RoutersKept.{NoneBefore, next_end, key_at, first_due}
use Rattle.nd_table.specs.Due.{lesser}
use Rattle.nd_table.specs.DueKept.{is_at, least_date}
use Rattle.nd_table.proofs.Due.{AtMost, AtMost-left, AtMost-right, AtMost-same, AtMost-some, AtMost-none, lesser_is, NotBefore-left, NotBefore-right, NotBefore-both}
use Rattle.nd_routers.specs.Due.{IsDue, FirstDue, NextDue}

least_at_most : (number : Lasting ℕ → Option ℕ) (es : List (Lasting ℕ)) (key n : ℕ) (end : Option ℕ) → end_in same key es ≡ Some end → ((e : Lasting ℕ) → e.key ≡ key → e.end ≡ end → AtMost (number e) n) → AtMost (least_date number es) n
least_at_most number [] key n end h f = absurd (grind arith)
least_at_most number (e ∷ es) key n end h f =
    cond_both (eqb e.key key) (Some e.end) (end_in same key es) (λ (o : Option (Option ℕ)). o ≡ Some end → AtMost (lesser (number e) (least_date number es)) n)
    (λ at is. AtMost-left (number e) (least_date number es) n (f e (eqb-true e.key key at) (grind arith)))
    (λ _ is. AtMost-right (number e) (least_date number es) n (least_at_most number es key n end is f)) h

-- a key behind e comes later
pub AllAfter-other : (f : ℕ → ℕ) (n : ℕ) (es : List (Lasting ℕ)) (key : ℕ) (end : Option ℕ) → AllAfter same f n es → end_in same key es ≡ Some end → n < f key
AllAfter-other f n [] key end h is = absurd (grind arith)
AllAfter-other f n (e ∷ es) key end h is =
    cond_both (eqb e.key key) (Some e.end) (end_in same key es) (λ (o : Option (Option ℕ)). o ≡ Some end → n < f key)
    (λ at _. subst (λ (k : ℕ). n < f k) (eqb-true e.key key at) h.0) (λ _ is'. AllAfter-other f n es key end h.1 is') is

pub key_at-now : (now : ℕ) (e : Lasting ℕ) (key : ℕ) → e.key ≡ key → e.end ≡ Some now → key_at now e ≡ Some key
key_at-now now e key at is = ap (λ o. cond (is_at now o) (Some e.key) None) is ∙ (cond-true (eqb now now) (Some e.key) None (eq-eqb now now refl) ∙ ap Some at)

at-key-by : (now key k : ℕ) (end : Option ℕ) → cond (is_at now end) (Some k) None ≡ Some key → (k ≡ key) × (end ≡ Some now)
at-key-by now key k None h = absurd (grind arith)
at-key-by now key k (Some m) h = (grind (arith, nat_tests, h), grind (arith, nat_tests, h))

pub at-key : (now : ℕ) (e : Lasting ℕ) (key : ℕ) → key_at now e ≡ Some key → (e.key ≡ key) × (e.end ≡ Some now)
at-key now e key h = at-key-by now key e.key e.end h

lesser_is_none : (a b : Option ℕ) → lesser a b ≡ None → (a ≡ None) × (b ≡ None)
lesser_is_none None b h = (refl, h)
lesser_is_none (Some x) None h = absurd (grind arith)
lesser_is_none (Some x) (Some y) h = absurd (grind arith)

some_not_none : {x : ℕ} → Some x ≡ None → ⊥
some_not_none h = cc

-- the least number is that of an entry, and where the entries rise that entry is its key's
least_found : (f : ℕ → ℕ) (number : Lasting ℕ → Option ℕ) (es : List (Lasting ℕ)) (n : ℕ) → Rises same f es → least_date number es ≡ Some n → (e : Lasting ℕ) × (end_in same e.key es ≡ Some e.end) × (number e ≡ Some n)
least_found f number [] n r h = absurd (grind arith)
least_found f number (e ∷ es) n r h = ⊎_elim
    (λ p. (e, cond-true (eqb e.key e.key) (Some e.end) (end_in same e.key es) (eq-eqb e.key e.key refl), p))
    (λ q.
    let found = least_found f number es n r.1 q in
    let later : f e.key < f found.0.key = AllAfter-other f (f e.key) es found.0.key found.0.end r.0 found.1 in
    (found.0, cond-false (eqb e.key found.0.key) (Some e.end) (end_in same found.0.key es) (ne_eqb e.key found.0.key (λ at. let low = ap f at in absurd (omega (arith, later, low)))) ∙ found.1, found.2))
    (lesser_is (number e) (least_date number es) n h)

module _ (es : List (Lasting ℕ)) (history : List RouterRow) (s : StandsUntilTold same es (announcements history)) where
  -- an end that is due is at least the earliest end
  due_at_most : (moment key : ℕ) → IsDue history moment key → AtMost (next_end es) moment
  due_at_most moment key due =
      least_at_most (λ e. e.end) es key moment (Some moment) (s.ends key ∙ due) (λ e _ is. AtMost-same e.end moment is)

  pub next_is_due : (next : Option ℕ) → next_end es ≡ next → NextDue history next
  next_is_due None is = λ moment key due. AtMost-none (next_end es) moment is (due_at_most moment key due)
  next_is_due (Some next) is =
      let found = least_found (λ key. place same key (announcements history)) (λ e. e.end) es next s.order is in
      ((found.0.key, sym (s.ends found.0.key) ∙ (found.1 ∙ ap Some found.2)), λ moment key due. AtMost-some (next_end es) moment next is (due_at_most moment key due))

  first_at_most : (now key : ℕ) → IsDue history now key → AtMost (first_due now es) key
  first_at_most now key due =
      least_at_most (key_at now) es key key (Some now) (s.ends key ∙ due)
      (λ e at is. AtMost-same (key_at now e) key (key_at-now now e key at is))

  pub first_is_due : (now : ℕ) (first : Option ℕ) → first_due now es ≡ first → FirstDue history now first
  first_is_due now None is = λ key due. AtMost-none (first_due now es) key is (first_at_most now key due)
  first_is_due now (Some first) is =
      let found = least_found (λ key. place same key (announcements history)) (key_at now) es first s.order is in
      let at = at-key now found.0 first found.2 in
      (sym (s.ends first) ∙ (ap (λ k. end_in same k es) (sym at.0) ∙ (found.1 ∙ ap Some at.1)), λ key due. AtMost-some (first_due now es) key first is (first_at_most now key due))

pub NoneBefore-without : (now key : ℕ) (es : List (Lasting ℕ)) → NoneBefore es now → NoneBefore (without same key es) now
NoneBefore-without now key [] h = tt
NoneBefore-without now key (e ∷ es) h =
    let rest = NoneBefore-without now key es (NotBefore-right now e.end (next_end es) h) in
    cond_both (not (eqb e.key key)) (e ∷ without same key es) (without same key es) (λ xs. NoneBefore xs now)
    (λ _. NotBefore-both now e.end (next_end (without same key es)) (NotBefore-left now e.end (next_end es) h) rest) (λ _. rest)

shorter : (key : ℕ) (es : List (Lasting ℕ)) → length (without same key es) ≤ length es
shorter key [] = omega arith
shorter key (e ∷ es) = grind (arith, nat_tests, shorter key es)

pub length-without : (key : ℕ) (end : Option ℕ) (es : List (Lasting ℕ)) → end_in same key es ≡ Some end → length (without same key es) < length es
length-without key end [] h = absurd (grind arith)
length-without key end (e ∷ es) h = grind (arith, nat_tests, h, shorter key es, length-without key end es)

-- where first_due has a key there is an entry of that key
pub first_has : (now key : ℕ) (es : List (Lasting ℕ)) → first_due now es ≡ Some key → (end : Option ℕ) × (end_in same key es ≡ Some end)
first_has now key [] h = absurd (grind arith)
first_has now key (e ∷ es) h = ⊎_elim
    (λ p. (e.end, cond-true (eqb e.key key) (Some e.end) (end_in same key es) (eq-eqb e.key key (at-key now e key p).0)))
    (λ q. cond_both (eqb e.key key) (Some e.end) (end_in same key es) (λ (o : Option (Option ℕ)). (end : Option ℕ) × (o ≡ Some end)) (λ _. (e.end, refl)) (λ _. first_has now key es q))
    (lesser_is (key_at now e) (first_due now es) key h)

-- where the earliest end is now, a key is due now
pub first_at_next : (now : ℕ) (es : List (Lasting ℕ)) → next_end es ≡ Some now → first_due now es ≡ None → ⊥
first_at_next now [] h none = absurd (grind arith)
first_at_next now (e ∷ es) h none =
    let parts = lesser_is_none (key_at now e) (first_due now es) none in
    ⊎_elim
    (λ p. absurd (some_not_none (sym (key_at-now now e e.key refl p) ∙ parts.0)))
    (λ q. first_at_next now es q parts.1)
    (lesser_is e.end (next_end es) now h)
