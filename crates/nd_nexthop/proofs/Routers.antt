-- The default router that is chosen, where the list is gone through from its front.
use Rattle.std.proofs.Common.{◌≡◌, ℕ, ◌+◌, ◌*◌, ◌≤◌, zero, suc, drop, slice_get, Bool, true, false, cond, ltb, List, [], ◌∷◌, ◌++◌, Option, Some, None, refl, sym, ◌∙◌, ap, arith, inl, inr}
use Rattle.std.specs.Prelude.{option_map}
use Rattle.std.proofs.lemmas.Bool.{cond-true, cond-false, cases_Bool}
use Rattle.std.proofs.lemmas.Bool.Decides.{nat_tests}
use Rattle.nd_addr.specs.Preference.{is_preferred, place_of}
use Rattle.nd_addr.specs.declared.preference.Preference.{Preference}
use Rattle.nd_addr.specs.declared.preference.Preference.TheVariants.{High, Medium, Low}
use Rattle.nd_nexthop.specs.DefaultRouter.{AllLater, AllLessPreferred, DefaultRouter, NoneBefore, NonePreferred, NoneUsable, best, better, chosen_router, comes_before, failed_before, is_less_recent}
use Rattle.nd_nexthop.specs.DefaultRouterKept.{better_of}

-- ---- the order of routers, by a number for each

-- a failure as a number, none being 0
abbrev rank : Option ℕ → ℕ
rank None = 0
rank (Some n) = suc n

by_rank : (a b : Option ℕ) → failed_before a b ≡ ltb (rank a) (rank b)
by_rank None None = grind (arith, nat_tests)
by_rank None (Some b) = grind (arith, nat_tests)
by_rank (Some a) None = grind (arith, nat_tests)
by_rank (Some a) (Some b) = grind (arith, nat_tests)

three_places : (p : Preference) → place_of p ≤ 2
three_places High = omega arith
three_places Medium = omega arith
three_places Low = omega arith

-- the routers that are usable, by their preferences, and then the others, by their failures and preferences
abbrev number : DefaultRouter → ℕ
number r = cond r.usable (place_of r.preference) (3 + 3 * rank r.failed + place_of r.preference)

-- by failures and preferences
less_by : (f g p q : ℕ) → p ≤ 2 → q ≤ 2 → cond (ltb f g) true (cond (ltb g f) false (ltb p q)) ≡ ltb (3 + 3 * f + p) (3 + 3 * g + q)
less_by f g p q few few' = elim (cases_Bool (ltb f g)) [
  | inl e ↦ rw e (grind (arith, nat_tests, e, few, few'))
  | inr e ↦ elim (cases_Bool (ltb g f)) [
    | inl d ↦ rw (e, d) (grind (arith, nat_tests, d, few, few'))
    | inr d ↦ rw (e, d) (grind (arith, nat_tests, e, d, few, few'))
  ]
]

less_is : (a b : DefaultRouter) → is_less_recent a b ≡ ltb (3 + 3 * rank a.failed + place_of a.preference) (3 + 3 * rank b.failed + place_of b.preference)
less_is a b = rw (by_rank a.failed b.failed, by_rank b.failed a.failed)
    (less_by (rank a.failed) (rank b.failed) (place_of a.preference) (place_of b.preference) (three_places a.preference) (three_places b.preference))

by_use : (u v less : Bool) (p q f g : ℕ) → p ≤ 2 → q ≤ 2 → less ≡ ltb (3 + 3 * f + p) (3 + 3 * g + q)
    → cond u (cond v (ltb p q) true) (cond v false less) ≡ ltb (cond u p (3 + 3 * f + p)) (cond v q (3 + 3 * g + q))
by_use true true less p q f g few few' is = refl
by_use true false less p q f g few few' is = grind (arith, nat_tests, few, few')
by_use false true less p q f g few few' is = grind (arith, nat_tests, few, few')
by_use false false less p q f g few few' is = is

by_number : (a b : DefaultRouter) → comes_before a b ≡ ltb (number a) (number b)
by_number a b =
    by_use a.usable b.usable (is_less_recent a b) (place_of a.preference) (place_of b.preference) (rank a.failed) (rank b.failed) (three_places a.preference) (three_places b.preference) (less_is a b)

before_all : (x y z : DefaultRouter) → comes_before x y ≡ true → comes_before y z ≡ true → comes_before x z ≡ true
before_all x y z h k =
    let first : ltb (number x) (number y) ≡ true = sym (by_number x y) ∙ h in
    let second : ltb (number y) (number z) ≡ true = sym (by_number y z) ∙ k in
    by_number x z ∙ grind (arith, nat_tests, first, second)

before_none : (x y z : DefaultRouter) → comes_before x y ≡ false → comes_before y z ≡ false → comes_before x z ≡ false
before_none x y z h k =
    let first : ltb (number x) (number y) ≡ false = sym (by_number x y) ∙ h in
    let second : ltb (number y) (number z) ≡ false = sym (by_number y z) ∙ k in
    by_number x z ∙ grind (arith, nat_tests, first, second)

-- ---- the list is gone through

-- of the one that was found so far, if there is one, and the one of the rest
abbrev pub joined : Option DefaultRouter → Option DefaultRouter → Option DefaultRouter
joined None m = m
joined (Some r) m = Some (better r m)

-- what is chosen of the rest, with the one that was found so far
abbrev pub chosen_with : Option DefaultRouter → List DefaultRouter → Option ℕ
chosen_with found rs = option_map (λ r. r.key) (joined found (best rs))

-- of three routers it makes no difference which two are compared first
three : (a b c : DefaultRouter) → better a (Some (better b (Some c))) ≡ better (better a (Some b)) (Some c)
three a b c = by (comes_before c b) (comes_before b a) refl refl
  where
    by : (p q : Bool) → comes_before c b ≡ p → comes_before b a ≡ q → better a (Some (better b (Some c))) ≡ better (better a (Some b)) (Some c)
    by true true e f =
        let first : better b (Some c) ≡ c = cond-true (comes_before c b) c b e in
        let second : better a (Some b) ≡ b = cond-true (comes_before b a) b a f in
        let last : better a (Some c) ≡ c = cond-true (comes_before c a) c a (before_all c b a e f) in
        ap (λ x. better a (Some x)) first ∙ (last ∙ (sym first ∙ ap (λ x. better x (Some c)) (sym second)))
    by true false e f =
        let first : better b (Some c) ≡ c = cond-true (comes_before c b) c b e in
        let second : better a (Some b) ≡ a = cond-false (comes_before b a) b a f in
        ap (λ x. better a (Some x)) first ∙ ap (λ x. better x (Some c)) (sym second)
    by false true e f =
        let first : better b (Some c) ≡ b = cond-false (comes_before c b) c b e in
        let second : better a (Some b) ≡ b = cond-true (comes_before b a) b a f in
        ap (λ x. better a (Some x)) first ∙ (second ∙ (sym first ∙ ap (λ x. better x (Some c)) (sym second)))
    by false false e f =
        let first : better b (Some c) ≡ b = cond-false (comes_before c b) c b e in
        let second : better a (Some b) ≡ a = cond-false (comes_before b a) b a f in
        let last : better a (Some c) ≡ a = cond-false (comes_before c a) c a (before_none c b a e f) in
        ap (λ x. better a (Some x)) first ∙ (second ∙ (sym last ∙ ap (λ x. better x (Some c)) (sym second)))

one_more : (found : Option DefaultRouter) (r : DefaultRouter) (m : Option DefaultRouter) → joined found (Some (better r m)) ≡ joined (Some (better_of found r)) m
one_more None r m = refl
one_more (Some a) r None = refl
one_more (Some a) r (Some c) = ap Some (three a r c)

-- the router at a place is the first of the rest
rest_at : (r : DefaultRouter) (rs : List DefaultRouter) (i : ℕ) → Some r ≡ slice_get rs i → drop i rs ≡ r ∷ drop (i + 1) rs
rest_at r [] zero h = absurd (cc)
rest_at r [] (suc i) h = absurd (cc)
rest_at r (s ∷ rs) zero h = let found : Some r ≡ Some s = h in let same : s ≡ r = cc in ap (λ x. x ∷ rs) same
rest_at r (s ∷ rs) (suc i) h = rest_at r rs i h ∙ ap (λ l. r ∷ l) (let more : suc i + 1 ≡ suc (i + 1) = omega arith in sym (ap (λ (n : ℕ). drop n (s ∷ rs)) more))

pub next_at : (found now : Option DefaultRouter) (r : DefaultRouter) (rs : List DefaultRouter) (i : ℕ) → Some r ≡ slice_get rs i → now ≡ Some (better_of found r) → chosen_with now (drop (i + 1) rs) ≡ chosen_with found (drop i rs)
next_at found now r rs i h is =
    ap (λ f. chosen_with f (drop (i + 1) rs)) is ∙ sym (ap (chosen_with found) (rest_at r rs i h) ∙ ap (option_map (λ s. s.key)) (one_more found r (best (drop (i + 1) rs))))

-- ---- which one is chosen

-- each in front comes after it, and none behind comes before
abbrev AllAfter : DefaultRouter → List DefaultRouter → Type 0
AllAfter r [] = Unit {0}
AllAfter r (s ∷ ss) = (comes_before r s ≡ true) × AllAfter r ss

abbrev NoneAhead : DefaultRouter → List DefaultRouter → Type 0
NoneAhead r [] = Unit {0}
NoneAhead r (s ∷ ss) = (comes_before s r ≡ false) × NoneAhead r ss

stays : (r : DefaultRouter) (rs : List DefaultRouter) → NoneAhead r rs → better r (best rs) ≡ r
stays r [] h = refl
stays r (s ∷ rs) h = by (best rs) (stays r rs h.1)
  where
    by : (m : Option DefaultRouter) → better r m ≡ r → better r (Some (better s m)) ≡ r
    by None e = cond-false (comes_before s r) s r h.0
    by (Some x) e = three r s x ∙ (ap (λ y. better y (Some x)) (cond-false (comes_before s r) s r h.0) ∙ e)

best_is : (before behind : List DefaultRouter) (r : DefaultRouter) → AllAfter r before → NoneAhead r behind → best (before ++ r ∷ behind) ≡ Some r
best_is [] behind r l n = ap Some (stays r behind n)
best_is (s ∷ before) behind r l n =
    ap (λ m. Some (better s m)) (best_is before behind r l.1 n) ∙ ap Some (cond-true (comes_before r s) r s l.0)

-- of two usable ones, and of one that is usable and one that isn't
above_by : (u v p less : Bool) → u ≡ true → (v ≡ true → p ≡ true) → cond u (cond v p true) (cond v false less) ≡ true
above_by u true p less use_it h = rw use_it (h refl)
above_by u false p less use_it h = rw use_it refl

ahead_by : (u v p less : Bool) → v ≡ true → (u ≡ true → p ≡ false) → cond u (cond v p true) (cond v false less) ≡ false
ahead_by true v p less use_it h = rw use_it (h refl)
ahead_by false v p less use_it h = rw use_it refl

all_after : (r : DefaultRouter) (ss : List DefaultRouter) → r.usable ≡ true → AllLessPreferred r ss → AllAfter r ss
all_after r [] use_it h = tt
all_after r (s ∷ ss) use_it h = (above_by r.usable s.usable (is_preferred r.preference s.preference) (is_less_recent r s) use_it h.0, all_after r ss use_it h.1)

none_ahead : (r : DefaultRouter) (ss : List DefaultRouter) → r.usable ≡ true → NonePreferred r ss → NoneAhead r ss
none_ahead r [] use_it h = tt
none_ahead r (s ∷ ss) use_it h = (ahead_by s.usable r.usable (is_preferred s.preference r.preference) (is_less_recent s r) use_it h.0, none_ahead r ss use_it h.1)

-- of the usable routers the preferred one is chosen, the first of those
pub usable_chosen : (before behind : List DefaultRouter) (r : DefaultRouter) → r.usable ≡ true → AllLessPreferred r before → NonePreferred r behind → chosen_router (before ++ r ∷ behind) ≡ Some r.key
usable_chosen before behind r use_it l n = ap (option_map (λ s. s.key)) (best_is before behind r (all_after r before use_it l) (none_ahead r behind use_it n))

-- where none is usable
by_failure : (u v p less : Bool) → u ≡ false → v ≡ false → cond u (cond v p true) (cond v false less) ≡ less
by_failure u v p less first second = rw (first, second) refl

all_later : (r : DefaultRouter) (ss : List DefaultRouter) → r.usable ≡ false → NoneUsable ss → AllLater r ss → AllAfter r ss
all_later r [] idle none h = tt
all_later r (s ∷ ss) idle none h = (by_failure r.usable s.usable (is_preferred r.preference s.preference) (is_less_recent r s) idle none.0 ∙ h.0, all_later r ss idle none.1 h.1)

none_before : (r : DefaultRouter) (ss : List DefaultRouter) → r.usable ≡ false → NoneUsable ss → NoneBefore r ss → NoneAhead r ss
none_before r [] idle none h = tt
none_before r (s ∷ ss) idle none h = (by_failure s.usable r.usable (is_preferred s.preference r.preference) (is_less_recent s r) none.0 idle ∙ h.0, none_before r ss idle none.1 h.1)

-- the one that failed least recently is chosen, of those that never failed the preferred one, the first of those
pub least_chosen : (before behind : List DefaultRouter) (r : DefaultRouter) → r.usable ≡ false → NoneUsable before → NoneUsable behind → AllLater r before → NoneBefore r behind
    → chosen_router (before ++ r ∷ behind) ≡ Some r.key
least_chosen before behind r idle front back l n = ap (option_map (λ s. s.key)) (best_is before behind r (all_later r before idle front l) (none_before r behind idle back n))
