-- The first of some reasons: that there is one answer, and how lists of reasons are joined.
use Rattle.std.proofs.Common.{◌≡◌, true, Bool, List, [], ◌∷◌, ◌++◌, Some, None, sym, subst, ◌∙◌, inl, inr}
use Rattle.std.specs.List.{AllByRecursion}
use Rattle.std.proofs.lemmas.Bool.{cases_Bool}
use Rattle.nd_addr.specs.declared.why.Why.{Why}
use Rattle.nd_validity.specs.Reasons.{IsFirstOf, NoneOf}
use Rattle.nd_validity.specs.Validity.{first_of}

-- there is one first reason
pub first_one : (Holds : Why → Type 0) (whys : List Why) (a b : Why) → IsFirstOf Holds whys a → IsFirstOf Holds whys b → a ≡ b
first_one Holds [] a b h k = absurd h
first_one Holds (w ∷ ws) a b (inl h) (inl k) = h.0 ∙ sym k.0
first_one Holds (w ∷ ws) a b (inl h) (inr k) = absurd (k.0 h.1)
first_one Holds (w ∷ ws) a b (inr h) (inl k) = absurd (h.0 k.1)
first_one Holds (w ∷ ws) a b (inr h) (inr k) = first_one Holds ws a b h.1 k.1

-- where there is a first reason, not all fail
pub first_not_none : (Holds : Why → Type 0) (whys : List Why) (a : Why) → IsFirstOf Holds whys a → NoneOf Holds whys → ⊥
first_not_none Holds [] a h none = h
first_not_none Holds (w ∷ ws) a (inl h) none = none.0 h.1
first_not_none Holds (w ∷ ws) a (inr h) none = first_not_none Holds ws a h.1 none.1

-- what is true of each reason is true of the first
pub first_of_all : (Holds P : Why → Type 0) (whys : List Why) (a : Why) → IsFirstOf Holds whys a → AllByRecursion P whys → P a
first_of_all Holds P [] a h all = absurd h
first_of_all Holds P (w ∷ ws) a (inl h) all = subst P (sym h.0) all.0
first_of_all Holds P (w ∷ ws) a (inr h) all = first_of_all Holds P ws a h.1 all.1

-- a first reason is one still with more behind it
pub first_front : (Holds : Why → Type 0) (front back : List Why) (a : Why) → IsFirstOf Holds front a → IsFirstOf Holds (front ++ back) a
first_front Holds [] back a h = absurd h
first_front Holds (w ∷ ws) back a (inl h) = inl h
first_front Holds (w ∷ ws) back a (inr h) = inr (h.0, first_front Holds ws back a h.1)

-- and with more in front that does not hold
pub first_back : (Holds : Why → Type 0) (front back : List Why) (a : Why) → NoneOf Holds front → IsFirstOf Holds back a → IsFirstOf Holds (front ++ back) a
first_back Holds [] back a none h = h
first_back Holds (w ∷ ws) back a none h = inr (none.0, first_back Holds ws back a none.1 h)

pub none_joined : (Holds : Why → Type 0) (front back : List Why) → NoneOf Holds front → NoneOf Holds back → NoneOf Holds (front ++ back)
none_joined Holds [] back f b = b
none_joined Holds (w ∷ ws) back f b = (f.0, none_joined Holds ws back f.1 b)

-- each of some reasons holds where its test says so
abbrev pub AreTested : (Why → Type 0) → (Why → Bool) → List Why → Type 0
AreTested Holds test whys = AllByRecursion (λ why. (test why ≡ true → Holds why) × (Holds why → test why ≡ true)) whys

-- then the first that passes is the first that holds
pub first_tested : (Holds : Why → Type 0) (test : Why → Bool) (whys : List Why) → AreTested Holds test whys → (a : Why) → first_of test whys ≡ Some a → IsFirstOf Holds whys a
first_tested Holds test [] all a e = absurd cc
first_tested Holds test (w ∷ ws) all a e = elim (cases_Bool (test w)) [
  | inl passes ↦ let f : a ≡ w = (let g = rw passes at e in cc) in inl (f, all.0.0 passes)
  | inr fails ↦ let g = rw fails at e in inr ((λ h. let t = all.0.1 h in cc), first_tested Holds test ws all.1 a g)
]

-- and where none passes, none holds
pub none_tested : (Holds : Why → Type 0) (test : Why → Bool) (whys : List Why) → AreTested Holds test whys → first_of test whys ≡ None → NoneOf Holds whys
none_tested Holds test [] all e = tt
none_tested Holds test (w ∷ ws) all e = elim (cases_Bool (test w)) [
  | inl passes ↦ absurd (let g = rw passes at e in cc)
  | inr fails ↦ let g = rw fails at e in ((λ h. let t = all.0.1 h in cc), none_tested Holds test ws all.1 g)
]
