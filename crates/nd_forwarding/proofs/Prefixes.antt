-- When two prefixes are one, and which have routes.
use Rattle.std.proofs.Common.{◌≡◌, Bool, false, List, [], ◌∷◌, ◌++◌, Some, refl, sym, ◌∙◌, ap, subst, inl, inr}
use Rattle.std.specs.Prelude.{◌||◌, is_some}
use Rattle.std.proofs.lemmas.Bool.{cond-true, cond-false, cases_Bool, or_parts, or_from}
use Rattle.std.proofs.Math.Bool.{or-false, or-true, or_assoc}
use Rattle.nd_addr.specs.Prefix.{PrefixValue}
use Rattle.nd_addr.specs.Same.{same_prefix}
use Rattle.nd_addr.proofs.SamePrefix.{same_is, same_turned}
use Rattle.nd_forwarding.specs.History.{Row, RoutePut, RedirectMade}
use Rattle.nd_forwarding.specs.Routes.{prefixes, route_of}

-- the prefix is among them
abbrev pub has : PrefixValue → List PrefixValue → Bool
has q [] = false
has q (p ∷ ps) = same_prefix q p || has q ps

-- none comes twice
abbrev pub AreApart : List PrefixValue → Type 0
AreApart [] = Unit {0}
AreApart (p ∷ ps) = (has p ps ≡ false) × AreApart ps

pub has-append : (q p : PrefixValue) (ps : List PrefixValue) → has q (ps ++ p ∷ []) ≡ (has q ps || same_prefix q p)
has-append q p [] = or-false (same_prefix q p)
has-append q p (x ∷ ps) = ap (λ (t : Bool). same_prefix q x || t) (has-append q p ps) ∙ sym (or_assoc (same_prefix q x) (has q ps) (same_prefix q p))

apart-append : (p : PrefixValue) (ps : List PrefixValue) → has p ps ≡ false → AreApart ps → AreApart (ps ++ p ∷ [])
apart-append p [] h a = (refl, tt)
apart-append p (x ∷ ps) h a =
    let parts = or_parts (same_prefix p x) (has p ps) h in
    (has-append x p ps ∙ or_from (has x ps) (same_prefix x p) a.0 (same_turned x p ∙ parts.0), apart-append p ps parts.1 a.1)

-- the prefixes are those that have routes
pub known : (q : PrefixValue) (history : List Row) → has q (prefixes history) ≡ is_some (route_of q history)
known q [] = refl
known q (RedirectMade at ∷ history) = known q history
known q (RoutePut p r ∷ history) = elim (cases_Bool (is_some (route_of p history))) [
  | inl there ↦
      ap (has q) (cond-true (is_some (route_of p history)) (prefixes history) (prefixes history ++ p ∷ []) there)
      ∙ (known q history ∙ elim (cases_Bool (same_prefix p q)) [
        | inl same ↦
            ap (λ x. is_some (route_of x history)) (sym (same_is p q same))
            ∙ (there ∙ sym (ap is_some (cond-true (same_prefix p q) (Some r) (route_of q history) same)))
        | inr differ ↦ sym (ap is_some (cond-false (same_prefix p q) (Some r) (route_of q history) differ))
      ])
  | inr absent ↦
      ap (has q) (cond-false (is_some (route_of p history)) (prefixes history) (prefixes history ++ p ∷ []) absent)
      ∙ (has-append q p (prefixes history)
      ∙ (ap (λ (t : Bool). has q (prefixes history) || t) (same_turned q p)
      ∙ elim (cases_Bool (same_prefix p q)) [
        | inl same ↦
            ap (λ (t : Bool). has q (prefixes history) || t) same
            ∙ (or-true (has q (prefixes history)) ∙ sym (ap is_some (cond-true (same_prefix p q) (Some r) (route_of q history) same)))
        | inr differ ↦
            ap (λ (t : Bool). has q (prefixes history) || t) differ
            ∙ (or-false (has q (prefixes history)) ∙ (known q history ∙ sym (ap is_some (cond-false (same_prefix p q) (Some r) (route_of q history) differ))))
      ]))
]

pub apart : (history : List Row) → AreApart (prefixes history)
apart [] = tt
apart (RedirectMade at ∷ history) = apart history
apart (RoutePut p r ∷ history) = elim (cases_Bool (is_some (route_of p history))) [
  | inl there ↦ subst AreApart (sym (cond-true (is_some (route_of p history)) (prefixes history) (prefixes history ++ p ∷ []) there)) (apart history)
  | inr absent ↦
      subst AreApart (sym (cond-false (is_some (route_of p history)) (prefixes history) (prefixes history ++ p ∷ []) absent))
      (apart-append p (prefixes history) (known p history ∙ absent) (apart history))
]
