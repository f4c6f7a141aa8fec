-- Where a destination stands among those that were redirected, and what a look-up finds of it.
use Rattle.std.proofs.Common.{◌≡◌, ◌≤◌, ℕ, zero, suc, Bool, true, false, cond, eqb, ltb, List, [], ◌∷◌, ◌++◌, length, map, take, Option, Some, None, refl, sym, ◌∙◌, ap, arith, ◌⊎◌, inl, inr, nat_eq}
use Rattle.std.specs.Prelude.{not}
use Rattle.std.specs.Map.{lookup}
use Rattle.std.proofs.lemmas.Bool.{cond-true, cond-false, cases_Bool, eqb-true, or_parts, or_from, eq-eqb}
use Rattle.std.proofs.lemmas.Bool.Decides.{nat_tests}
use Rattle.std.proofs.lemmas.List.Elements.{filter-append}
use Rattle.nd_nexthop.specs.History.{RedirectRow, Redirected, TargetGone, Cleared, others, destinations, since, target_of, target_left, unless_ended, kept, remembered, those_left, redirects}
use Rattle.nd_nexthop.specs.Choice.{target_in}
use Rattle.nd_nexthop.proofs.Keys.{has, AreApart, AreApart-take, each_once, since_lacks, still_lack, lack_first}

-- it never was redirected, or it stands behind those that were redirected since
abbrev Placed : ℕ → List RedirectRow → Type 0
Placed key history =
    ((target_of key history ≡ None) × (has key (destinations history) ≡ false))
    ⊎ ((rest : List ℕ) × (destinations history ≡ destinations (since key history) ++ key ∷ rest))

others_keep : (d key : ℕ) (rest : List ℕ) → eqb d key ≡ false → others d (key ∷ rest) ≡ key ∷ others d rest
others_keep d key rest differ =
    let turned : eqb key d ≡ false = grind (arith, nat_tests, differ) in
    ap (λ (b : Bool). cond (not b) (key ∷ others d rest) (others d rest)) turned

-- another one is redirected
further : (key at d t : ℕ) (history : List RedirectRow) → eqb d key ≡ false → Placed key history → Placed key (Redirected at d t ∷ history)
further key at d t history differ (inl n) = inl (
  cond-false (eqb d key) (Some t) (target_of key history) differ ∙ n.0,
  or_from (eqb d key) (has key (others d (destinations history))) differ (still_lack key d (destinations history) n.1),
)
further key at d t history differ (inr p) =
    let before = destinations (since key history) in
    let grown = cond-false (eqb d key) [] (Redirected at d t ∷ since key history) differ in
    inr (
      others d p.0,
      ap (λ (ds : List ℕ). d ∷ others d ds) p.1
          ∙ (ap (λ (ds : List ℕ). d ∷ ds) (filter-append (λ k. not (eqb k d)) before (key ∷ p.0) ∙ ap (λ (ds : List ℕ). others d before ++ ds) (others_keep d key p.0 differ))
          ∙ sym (ap (λ rows. destinations rows ++ key ∷ others d p.0) grown)),
    )

placed : (key : ℕ) (history : List RedirectRow) → Placed key history
placed key [] = inl (refl, refl)
placed key (Redirected at d t ∷ history) = elim (cases_Bool (eqb d key)) [
  | inl same ↦
      let none = cond-true (eqb d key) [] (Redirected at d t ∷ since key history) same in
      inr (
        others d (destinations history),
        ap (λ (k : ℕ). k ∷ others d (destinations history)) (eqb-true d key same) ∙ sym (ap (λ rows. destinations rows ++ key ∷ others d (destinations history)) none),
      )
  | inr differ ↦ further key at d t history differ (placed key history)
]
placed key (TargetGone at t ∷ history) = placed key history
placed key (Cleared at ∷ history) = placed key history

cond_same : (b : Bool) (o : Option ℕ) → cond b o o ≡ o
cond_same true o = refl
cond_same false o = refl

module _ (f : ℕ → Option ℕ) where
  -- each key with what the function gives of it
  abbrev pub paired : List ℕ → List (ℕ × Option ℕ)
  paired ds = map (λ d. (d, f d)) ds

  look_lacking : (key : ℕ) (ds : List ℕ) → has key ds ≡ false → target_in key (paired ds) ≡ None
  look_lacking key [] h = refl
  look_lacking key (d ∷ ds) h =
      let parts = or_parts (eqb d key) (has key ds) h in
      let turned : eqb key d ≡ false = grind (arith, nat_tests, parts.0) in
      cond-false (eqb key d) (f d) (target_in key (paired ds)) turned ∙ look_lacking key ds parts.1

  look_behind : (key n : ℕ) (before rest : List ℕ) → has key before ≡ false → target_in key (paired (take n (before ++ key ∷ rest))) ≡ cond (ltb (length before) n) (f key) None
  look_behind key zero before rest h = grind (arith, nat_tests)
  look_behind key (suc n) [] rest h = cond-true (eqb key key) (f key) (target_in key (paired (take n rest))) (eq-eqb key key refl) ∙ grind (arith, nat_tests)
  look_behind key (suc n) (d ∷ before) rest h =
      let parts = or_parts (eqb d key) (has key before) h in
      let turned : eqb key d ≡ false = grind (arith, nat_tests, parts.0) in
      cond-false (eqb key d) (f d) (target_in key (paired (take n (before ++ key ∷ rest)))) turned
      ∙ (look_behind key n before rest parts.1 ∙ grind (arith, nat_tests))

  -- what is left of a list is found where the list has it
  look_left : (key : ℕ) (ds : List ℕ) → AreApart ds → lookup (nat_eq key) (those_left (paired ds)) ≡ target_in key (paired ds)
  look_left key [] a = refl
  look_left key (d ∷ ds) a = by (f d) (look_left key ds a.1)
    where
      by : (o : Option ℕ) → lookup (nat_eq key) (those_left (paired ds)) ≡ target_in key (paired ds) → lookup (nat_eq key) (those_left ((d, o) ∷ paired ds)) ≡ cond (eqb key d) o (target_in key (paired ds))
      by None ih = elim (cases_Bool (eqb key d)) [
        | inl same ↦ ih ∙ (ap (λ (k : ℕ). target_in k (paired ds)) (eqb-true key d same) ∙ (look_lacking d ds a.0 ∙ sym (cond-true (eqb key d) None (target_in key (paired ds)) same)))
        | inr differ ↦ ih ∙ sym (cond-false (eqb key d) None (target_in key (paired ds)) differ)
      ]
      by (Some t) ih = ap (λ (o : Option ℕ). cond (eqb key d) (Some t) o) ih

-- what is remembered of a destination is its kept redirect
pub look_remembered : (limit key : ℕ) (history : List RedirectRow) → target_in key (remembered limit history) ≡ kept limit key history
look_remembered limit key history = by (placed key history)
  where
    by : Placed key history → target_in key (remembered limit history) ≡ kept limit key history
    by (inl n) =
        let never : target_left key history ≡ None = ap (λ (o : Option ℕ). unless_ended o (since key history)) n.0 in
        look_lacking (λ d. target_left d history) key (take limit (destinations history)) (lack_first key limit (destinations history) n.1)
        ∙ sym (ap (λ (o : Option ℕ). cond (ltb (length (destinations (since key history))) limit) o None) never ∙ cond_same (ltb (length (destinations (since key history))) limit) None)
    by (inr p) =
        ap (λ (ds : List ℕ). target_in key (paired (λ d. target_left d history) (take limit ds))) p.1
        ∙ look_behind (λ d. target_left d history) key limit (destinations (since key history)) p.0 (since_lacks key history)

-- the kept redirects are those of each destination
pub look_redirects : (limit key : ℕ) (history : List RedirectRow) → lookup (nat_eq key) (redirects limit history) ≡ kept limit key history
look_redirects limit key history =
    look_left (λ d. target_left d history) key (take limit (destinations history)) (AreApart-take limit (destinations history) (each_once history))
    ∙ look_remembered limit key history

few_left : (f : ℕ → Option ℕ) (n : ℕ) (ds : List ℕ) → length (those_left (paired f (take n ds))) ≤ n
few_left f zero ds = omega arith
few_left f (suc n) [] = omega arith
few_left f (suc n) (d ∷ ds) = by (f d) (few_left f n ds)
  where
    by : (o : Option ℕ) → length (those_left (paired f (take n ds))) ≤ n → length (those_left ((d, o) ∷ paired f (take n ds))) ≤ suc n
    by None le = omega arith
    by (Some t) le = omega arith

pub few_redirects : (limit : ℕ) (history : List RedirectRow) → length (redirects limit history) ≤ limit
few_redirects limit history = few_left (λ d. target_left d history) limit (destinations history)

-- what a look-up among all finds
pub found_in : (key : ℕ) (es : List (ℕ × Option ℕ)) (w : Option ℕ) → Some w ≡ lookup (nat_eq key) es → w ≡ target_in key es
found_in key [] w h = absurd (cc)
found_in key (e ∷ es) w h = elim (cases_Bool (eqb key e.0)) [
  | inl same ↦
      let found : Some w ≡ Some e.1 = h ∙ cond-true (eqb key e.0) (Some e.1) (lookup (nat_eq key) es) same in
      let value : w ≡ e.1 = cc in
      value ∙ sym (cond-true (eqb key e.0) e.1 (target_in key es) same)
  | inr differ ↦
      found_in key es w (h ∙ cond-false (eqb key e.0) (Some e.1) (lookup (nat_eq key) es) differ)
      ∙ sym (cond-false (eqb key e.0) e.1 (target_in key es) differ)
]

pub none_in : (key : ℕ) (es : List (ℕ × Option ℕ)) → None ≡ lookup (nat_eq key) es → None ≡ target_in key es
none_in key [] h = refl
none_in key (e ∷ es) h = elim (cases_Bool (eqb key e.0)) [
  | inl same ↦ absurd (let found : None ≡ Some e.1 = h ∙ cond-true (eqb key e.0) (Some e.1) (lookup (nat_eq key) es) same in cc)
  | inr differ ↦
      none_in key es (h ∙ cond-false (eqb key e.0) (Some e.1) (lookup (nat_eq key) es) differ)
      ∙ sym (cond-false (eqb key e.0) e.1 (target_in key es) differ)
]
