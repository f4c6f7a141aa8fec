-- The destinations that were redirected, each of which comes once.
use Rattle.std.proofs.Common.{◌≡◌, ℕ, zero, suc, Bool, false, eqb, List, [], ◌∷◌, take, refl, ◌∙◌, ap, arith, inl, inr}
use Rattle.std.specs.Prelude.{not, ◌&&◌, ◌||◌}
use Rattle.std.proofs.lemmas.Bool.{cond_both, cond-true, cond-false, cases_Bool, or_parts, or_from}
use Rattle.std.proofs.lemmas.Bool.Decides.{nat_tests}
use Rattle.nd_nexthop.specs.History.{RedirectRow, Redirected, TargetGone, Cleared, others, destinations, since}

-- the key is among them
abbrev pub has : ℕ → List ℕ → Bool
has key [] = false
has key (d ∷ ds) = eqb d key || has key ds

-- none comes twice
abbrev pub AreApart : List ℕ → Type 0
AreApart [] = Unit {0}
AreApart (d ∷ ds) = (has d ds ≡ false) × AreApart ds

pub has-others : (j k : ℕ) (ds : List ℕ) → has j (others k ds) ≡ (not (eqb k j) && has j ds)
has-others j k [] = grind (arith, nat_tests)
has-others j k (d ∷ ds) = grind (arith, nat_tests, has-others j k ds)

pub others_lack : (k : ℕ) (ds : List ℕ) → has k (others k ds) ≡ false
others_lack k ds = grind (arith, nat_tests, has-others k k ds)

pub still_lack : (j k : ℕ) (ds : List ℕ) → has j ds ≡ false → has j (others k ds) ≡ false
still_lack j k ds h = grind (arith, nat_tests, h, has-others j k ds)

AreApart-others : (k : ℕ) (ds : List ℕ) → AreApart ds → AreApart (others k ds)
AreApart-others k [] a = tt
AreApart-others k (d ∷ ds) a =
    let rest = AreApart-others k ds a.1 in
    cond_both (not (eqb d k)) (d ∷ others k ds) (others k ds) AreApart (λ _. (still_lack d k ds a.0, rest)) (λ _. rest)

pub each_once : (history : List RedirectRow) → AreApart (destinations history)
each_once [] = tt
each_once (Redirected at d t ∷ history) = (others_lack d (destinations history), AreApart-others d (destinations history) (each_once history))
each_once (TargetGone at t ∷ history) = each_once history
each_once (Cleared at ∷ history) = each_once history

pub lack_first : (j n : ℕ) (ds : List ℕ) → has j ds ≡ false → has j (take n ds) ≡ false
lack_first j zero ds h = refl
lack_first j (suc n) [] h = refl
lack_first j (suc n) (d ∷ ds) h =
    let parts = or_parts (eqb d j) (has j ds) h in
    or_from (eqb d j) (has j (take n ds)) parts.0 (lack_first j n ds parts.1)

pub AreApart-take : (n : ℕ) (ds : List ℕ) → AreApart ds → AreApart (take n ds)
AreApart-take zero ds a = tt
AreApart-take (suc n) [] a = tt
AreApart-take (suc n) (d ∷ ds) a = (lack_first d n ds a.0, AreApart-take n ds a.1)

-- none was redirected since its own last Redirect
pub since_lacks : (key : ℕ) (history : List RedirectRow) → has key (destinations (since key history)) ≡ false
since_lacks key [] = refl
since_lacks key (Redirected at d t ∷ history) = elim (cases_Bool (eqb d key)) [
  | inl same ↦ ap (λ rows. has key (destinations rows)) (cond-true (eqb d key) [] (Redirected at d t ∷ since key history) same)
  | inr differ ↦
      ap (λ rows. has key (destinations rows)) (cond-false (eqb d key) [] (Redirected at d t ∷ since key history) differ)
      ∙ or_from (eqb d key) (has key (others d (destinations (since key history)))) differ (still_lack key d (destinations (since key history)) (since_lacks key history))
]
since_lacks key (TargetGone at t ∷ history) = since_lacks key history
since_lacks key (Cleared at ∷ history) = since_lacks key history
