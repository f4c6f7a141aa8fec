-- What is due first in a list in the order of its numbers, and the least moment of it.
use Rattle.std.proofs.Common.{◌≡◌, ℕ, ◌<◌, ◌≤◌, true, eqb, List, [], ◌∷◌, set, Option, Some, None, refl, sym, ◌∙◌, ap, subst, arith, suc, zero, ◌⊎◌, inl, inr}
use Rattle.std.specs.List.{remove}
use Rattle.std.proofs.lemmas.Bool.Decides.{nat_tests}
use Rattle.std.proofs.lemmas.Bool.{cond_both, cond-true, cond-false, eqb-true, eq-eqb, ne_eqb, true≢false, cases_Bool}
use Rattle.nd_table.specs.Keyed.{at_key, Rises}
use Rattle.nd_table.specs.KeyedKept.{Unique}
use Rattle.nd_table.specs.Due.{lesser}
use Rattle.nd_table.specs.DueKept.{is_at, least_date, first_at, NotBefore}
use Rattle.nd_table.proofs.Keyed.{above_in, Rises-unique}

-- the least is at most this
abbrev pub AtMost : Option ℕ → ℕ → Type 0
AtMost None n = ⊥
AtMost (Some x) n = x ≤ n

pub AtMost-left : (a o : Option ℕ) (n : ℕ) → AtMost a n → AtMost (lesser a o) n
AtMost-left None o n h = absurd h
AtMost-left (Some x) None n h = h
AtMost-left (Some x) (Some y) n h = omega arith

pub AtMost-right : (a o : Option ℕ) (n : ℕ) → AtMost o n → AtMost (lesser a o) n
AtMost-right None o n h = h
AtMost-right (Some x) None n h = absurd h
AtMost-right (Some x) (Some y) n h = omega arith

pub AtMost-same : (o : Option ℕ) (n : ℕ) → o ≡ Some n → AtMost o n
AtMost-same None n is = absurd (cc)
AtMost-same (Some x) n is = grind arith

pub AtMost-some : (o : Option ℕ) (n m : ℕ) → o ≡ Some m → AtMost o n → m ≤ n
AtMost-some None n m is h = absurd h
AtMost-some (Some x) n m is h = grind arith

pub AtMost-none : (o : Option ℕ) (n : ℕ) → o ≡ None → AtMost o n → ⊥
AtMost-none None n is h = h
AtMost-none (Some x) n is h = absurd (cc)

-- the least is not before this moment, so that moment isn't
pub AtMost-from : (now n : ℕ) (o : Option ℕ) → NotBefore now o → AtMost o n → now ≤ n
AtMost-from now n None from most = absurd most
AtMost-from now n (Some x) from most = omega (arith, from, most)

-- it is this moment
pub AtMost-now : (now : ℕ) (o : Option ℕ) → NotBefore now o → AtMost o now → (o ≡ Some now → ⊥) → ⊥
AtMost-now now None from most other = most
AtMost-now now (Some x) from most other = other (ap Some (omega (arith, from, most)))

lesser_assoc : (a b c : Option ℕ) → lesser a (lesser b c) ≡ lesser (lesser a b) c
lesser_assoc None b c = refl
lesser_assoc (Some x) None c = refl
lesser_assoc (Some x) (Some y) None = refl
lesser_assoc (Some x) (Some y) (Some z) = ap Some (omega arith)

lesser_comm : (a b : Option ℕ) → lesser a b ≡ lesser b a
lesser_comm None None = refl
lesser_comm None (Some y) = refl
lesser_comm (Some x) None = refl
lesser_comm (Some x) (Some y) = ap Some (omega arith)

lesser_swap : (a b c d : Option ℕ) → lesser (lesser a b) (lesser c d) ≡ lesser (lesser a c) (lesser b d)
lesser_swap a b c d =
    sym (lesser_assoc a b (lesser c d))
    ∙ (ap (lesser a) (lesser_assoc b c d ∙ (ap (λ o. lesser o d) (lesser_comm b c) ∙ sym (lesser_assoc c b d)))
    ∙ lesser_assoc a c (lesser b d))

-- where entries have two dates, the least of all is the lesser of the least of each kind
pub least_both : {N : Type 0} (f g : N → Option ℕ) (ns : List N) → least_date (λ n. lesser (f n) (g n)) ns ≡ lesser (least_date f ns) (least_date g ns)
least_both f g [] = refl
least_both f g (n ∷ ns) =
    ap (lesser (lesser (f n) (g n))) (least_both f g ns) ∙ lesser_swap (f n) (g n) (least_date f ns) (least_date g ns)

pub lesser_is : (a b : Option ℕ) (n : ℕ) → lesser a b ≡ Some n → (a ≡ Some n) ⊎ (b ≡ Some n)
lesser_is None b n h = inr h
lesser_is (Some x) None n h = inl h
lesser_is (Some x) (Some y) n h = grind arith

pub NotBefore-left : (n : ℕ) (a o : Option ℕ) → NotBefore n (lesser a o) → NotBefore n a
NotBefore-left n None o h = tt
NotBefore-left n (Some x) None h = h
NotBefore-left n (Some x) (Some y) h = omega arith

pub NotBefore-right : (n : ℕ) (a o : Option ℕ) → NotBefore n (lesser a o) → NotBefore n o
NotBefore-right n None o h = h
NotBefore-right n (Some x) None h = tt
NotBefore-right n (Some x) (Some y) h = omega arith

pub NotBefore-both : (n : ℕ) (a o : Option ℕ) → NotBefore n a → NotBefore n o → NotBefore n (lesser a o)
NotBefore-both n None o h k = k
NotBefore-both n (Some x) None h k = h
NotBefore-both n (Some x) (Some y) h k = omega arith

pub at_is : (now : ℕ) (o : Option ℕ) → is_at now o ≡ true → o ≡ Some now
at_is now None h = absurd (true≢false (sym h))
at_is now (Some x) h = ap Some (eqb-true x now h)

pub is_there : (now : ℕ) (o : Option ℕ) → o ≡ Some now → is_at now o ≡ true
is_there now o e = rw e (eq-eqb now now refl)

module _ {N : Type 0} (date : N → Option ℕ) where
  pub due_now : (now : ℕ) (ns : List N) (n : N) → first_at date now ns ≡ Some n → date n ≡ Some now
  due_now now [] n is = absurd (cc)
  due_now now (x ∷ ns) n is =
      cond_both (is_at now (date x)) (Some x) (first_at date now ns) (λ o. o ≡ Some n → date n ≡ Some now)
      (λ here e. let e' : x ≡ n = cc in ap date (sym e') ∙ at_is now (date x) here) (λ _ e. due_now now ns n e) is

  -- the head hasn't the date where there is none
  pub head_none : (now : ℕ) (x : N) (ns : List N) → first_at date now (x ∷ ns) ≡ None → (date x ≡ Some now → ⊥) × (first_at date now ns ≡ None)
  head_none now x ns none = elim (cases_Bool (is_at now (date x))) [
    | inl here ↦ let f : Some x ≡ None = sym (cond-true (is_at now (date x)) (Some x) (first_at date now ns) here) ∙ none in absurd (cc)
    | inr later ↦ ((λ e. absurd (true≢false (sym (is_there now (date x) e) ∙ later))), sym (cond-false (is_at now (date x)) (Some x) (first_at date now ns) later) ∙ none)
  ]

  -- where the next moment is now, something is due now
  pub next_not_now : (now : ℕ) (ns : List N) → least_date date ns ≡ Some now → first_at date now ns ≡ None → ⊥
  next_not_now now [] h none = cc
  next_not_now now (x ∷ ns) h none =
      let rest = head_none now x ns none in
      elim (lesser_is (date x) (least_date date ns) now h) [
        | inl e ↦ rest.0 e
        | inr e ↦ next_not_now now ns e rest.1
      ]

  pub NotBefore-set : (now : ℕ) (ns : List N) (i : ℕ) (m : N) → NotBefore now (least_date date ns) → NotBefore now (date m) → NotBefore now (least_date date (set ns i m))
  NotBefore-set now [] i m h le = tt
  NotBefore-set now (x ∷ ns) zero m h le = NotBefore-both now (date m) (least_date date ns) le (NotBefore-right now (date x) (least_date date ns) h)
  NotBefore-set now (x ∷ ns) (suc i) m h le =
      NotBefore-both now (date x) (least_date date (set ns i m)) (NotBefore-left now (date x) (least_date date ns) h)
      (NotBefore-set now ns i m (NotBefore-right now (date x) (least_date date ns) h) le)

  pub NotBefore-remove : (now : ℕ) (ns : List N) (i : ℕ) → NotBefore now (least_date date ns) → NotBefore now (least_date date (remove ns i))
  NotBefore-remove now [] zero h = tt
  NotBefore-remove now [] (suc i) h = tt
  NotBefore-remove now (x ∷ ns) zero h = NotBefore-right now (date x) (least_date date ns) h
  NotBefore-remove now (x ∷ ns) (suc i) h =
      NotBefore-both now (date x) (least_date date (remove ns i)) (NotBefore-left now (date x) (least_date date ns) h)
      (NotBefore-remove now ns i (NotBefore-right now (date x) (least_date date ns) h))

module _ {N : Type 0} (key : N → ℕ) (date : N → Option ℕ) where
  -- the first that is due is the entry of its number
  pub due_has : (now : ℕ) (ns : List N) (n : N) → Rises key ns → first_at date now ns ≡ Some n → at_key key (key n) ns ≡ Some n
  due_has now [] n r first = absurd (cc)
  due_has now (x ∷ ns) n r first = elim (cases_Bool (is_at now (date x))) [
    | inl here ↦
        let e : x ≡ n = let f : Some x ≡ Some n = sym (cond-true (is_at now (date x)) (Some x) (first_at date now ns) here) ∙ first in cc in
        subst (λ (y : N). at_key key (key y) (x ∷ ns) ≡ Some y) e (cond-true (eqb (key x) (key x)) (Some x) (at_key key (key x) ns) (eq-eqb (key x) (key x) refl))
    | inr later ↦
        let f : first_at date now ns ≡ Some n = sym (cond-false (is_at now (date x)) (Some x) (first_at date now ns) later) ∙ first in
        let rest : at_key key (key n) ns ≡ Some n = due_has now ns n r.1 f in
        let above : key x < key n = above_in key (key n) (key x) ns n r.0 rest in
        grind (arith, nat_tests, above, rest)
  ]

  -- none that is due has a lower number than the first
  pub due_least : (now k : ℕ) (ns : List N) (n m : N) → Rises key ns → first_at date now ns ≡ Some n → at_key key k ns ≡ Some m → date m ≡ Some now → key n ≤ k
  due_least now k [] n m r first is at = absurd (cc)
  due_least now k (x ∷ ns) n m r first is at = elim (cases_Bool (is_at now (date x))) [
    | inl here ↦
        let e : x ≡ n = let f : Some x ≡ Some n = sym (cond-true (is_at now (date x)) (Some x) (first_at date now ns) here) ∙ first in cc in
        let e' : key x ≡ key n = ap key e in
        cond_both (eqb (key x) k) (Some x) (at_key key k ns) (λ o. o ≡ Some m → key n ≤ k)
        (λ same _. let same' : key x ≡ k = eqb-true (key x) k same in omega arith) (λ _ f. let above : key x < k = above_in key k (key x) ns m r.0 f in omega arith) is
    | inr later ↦
        let f : first_at date now ns ≡ Some n = sym (cond-false (is_at now (date x)) (Some x) (first_at date now ns) later) ∙ first in
        cond_both (eqb (key x) k) (Some x) (at_key key k ns) (λ o. o ≡ Some m → key n ≤ k)
        (λ _ g. let e : x ≡ m = cc in absurd (true≢false (sym (is_there now (date x) (ap date e ∙ at)) ∙ later)))
        (λ _ g. due_least now k ns n m r.1 f g at) is
  ]

  -- where none is due, no entry has that moment
  pub none_due : (now k : ℕ) (ns : List N) (m : N) → first_at date now ns ≡ None → at_key key k ns ≡ Some m → date m ≡ Some now → ⊥
  none_due now k [] m none is at = cc
  none_due now k (x ∷ ns) m none is at =
      let rest = head_none date now x ns none in
      cond_both (eqb (key x) k) (Some x) (at_key key k ns) (λ o. o ≡ Some m → ⊥)
      (λ _ g. let e : x ≡ m = cc in rest.0 (ap date e ∙ at)) (λ _ g. none_due now k ns m rest.1 g at) is

  -- the least moment isn't later than that of any entry
  pub least_at_most : (k : ℕ) (ns : List N) (m : N) (moment : ℕ) → at_key key k ns ≡ Some m → AtMost (date m) moment → AtMost (least_date date ns) moment
  least_at_most k [] m moment is at = absurd (cc)
  least_at_most k (x ∷ ns) m moment is at =
      cond_both (eqb (key x) k) (Some x) (at_key key k ns) (λ o. o ≡ Some m → AtMost (least_date date (x ∷ ns)) moment)
      (λ _ e. let e' : x ≡ m = cc in AtMost-left (date x) (least_date date ns) moment (subst (λ (y : N). AtMost (date y) moment) (sym e') at))
      (λ _ e. AtMost-right (date x) (least_date date ns) moment (least_at_most k ns m moment e at)) is

  -- and it is that of an entry
  pub least_unique : (ns : List N) (n : ℕ) → Unique key ns → least_date date ns ≡ Some n → (m : N) × (at_key key (key m) ns ≡ Some m) × (date m ≡ Some n)
  least_unique [] n u h = absurd (cc)
  least_unique (x ∷ ns) n u h = elim (lesser_is (date x) (least_date date ns) n h) [
    | inl e ↦ (x, cond-true (eqb (key x) (key x)) (Some x) (at_key key (key x) ns) (eq-eqb (key x) (key x) refl), e)
    | inr e ↦
        let f = least_unique ns n u.1 e in
        let rest : at_key key (key f.0) ns ≡ Some f.0 = f.1 in
        let other : (key x ≡ key f.0) → ⊥ = λ same. let g : None ≡ Some f.0 = sym (ap (λ k. at_key key k ns) (sym same) ∙ u.0) ∙ rest in cc in
        (f.0, cond-false (eqb (key x) (key f.0)) (Some x) (at_key key (key f.0) ns) (ne_eqb (key x) (key f.0) other) ∙ rest, f.2)
  ]

  pub least_found : (ns : List N) (n : ℕ) → Rises key ns → least_date date ns ≡ Some n → (m : N) × (at_key key (key m) ns ≡ Some m) × (date m ≡ Some n)
  least_found ns n r h = least_unique ns n (Rises-unique key ns r) h
