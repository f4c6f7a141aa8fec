-- The longest route, where the list is gone through from its front.
use Rattle.std.proofs.Common.{◌≡◌, ℕ, Bool, true, false, cond, ltb, List, [], ◌∷◌, Option, Some, None, refl, sym, ◌∙◌, ap, arith, inl, inr}
use Rattle.std.specs.Prelude.{◌&&◌, option_map}
use Rattle.std.proofs.lemmas.Bool.{cond-true, cond-false, cases_Bool}
use Rattle.std.proofs.lemmas.Bool.Decides.{nat_tests}
use Rattle.nd_addr.specs.Number.{holds}
use Rattle.nd_addr.specs.Prefix.{PrefixValue}
use Rattle.nd_forwarding.specs.declared.route.Route.{Route}
use Rattle.nd_forwarding.specs.Routes.{longer, longest, route_to}
use Rattle.nd_forwarding.specs.RoutesKept.{exceeds}

-- the route that is found in the end, where so much was found so far
abbrev pub found_with : List ℕ → Option (ℕ × Route) → List (PrefixValue × Route) → Option Route
found_with address found [] = option_map (λ f. f.1) found
found_with address found (e ∷ es) =
    cond (holds e.0 address && exceeds e.0.length found) (found_with address (Some (e.0.length, e.1)) es) (found_with address found es)

-- of what was found so far and the longest of the rest
abbrev joined : Option (ℕ × Route) → Option (PrefixValue × Route) → Option Route
joined None m = option_map (λ e. e.1) m
joined (Some f) None = Some f.1
joined (Some f) (Some e) = cond (ltb f.0 e.0.length) (Some e.1) (Some f.1)

joined_none : (found : Option (ℕ × Route)) → option_map (λ f. f.1) found ≡ joined found None
joined_none None = refl
joined_none (Some f) = refl

taken : (e : PrefixValue × Route) (found : Option (ℕ × Route)) (m : Option (PrefixValue × Route)) → exceeds e.0.length found ≡ true → joined (Some (e.0.length, e.1)) m ≡ joined found (Some (longer e m))
taken e None None h = refl
taken e None (Some x) h = elim (cases_Bool (ltb e.0.length x.0.length)) [
  | inl less ↦
      cond-true (ltb e.0.length x.0.length) (Some x.1) (Some e.1) less
      ∙ sym (ap (λ (f : PrefixValue × Route). Some f.1) (cond-true (ltb e.0.length x.0.length) x e less))
  | inr not ↦
      cond-false (ltb e.0.length x.0.length) (Some x.1) (Some e.1) not
      ∙ sym (ap (λ (f : PrefixValue × Route). Some f.1) (cond-false (ltb e.0.length x.0.length) x e not))
]
taken e (Some f) None h = sym (cond-true (ltb f.0 e.0.length) (Some e.1) (Some f.1) h)
taken e (Some f) (Some x) h = elim (cases_Bool (ltb e.0.length x.0.length)) [
  | inl less ↦
      let further : ltb f.0 x.0.length ≡ true = grind (arith, nat_tests, h, less) in
      cond-true (ltb e.0.length x.0.length) (Some x.1) (Some e.1) less
      ∙ (sym (cond-true (ltb f.0 x.0.length) (Some x.1) (Some f.1) further)
      ∙ sym (ap (λ (g : PrefixValue × Route). joined (Some f) (Some g)) (cond-true (ltb e.0.length x.0.length) x e less)))
  | inr not ↦
      cond-false (ltb e.0.length x.0.length) (Some x.1) (Some e.1) not
      ∙ (sym (cond-true (ltb f.0 e.0.length) (Some e.1) (Some f.1) h)
      ∙ sym (ap (λ (g : PrefixValue × Route). joined (Some f) (Some g)) (cond-false (ltb e.0.length x.0.length) x e not)))
]

passed : (e : PrefixValue × Route) (found : Option (ℕ × Route)) (m : Option (PrefixValue × Route)) → exceeds e.0.length found ≡ false → joined found m ≡ joined found (Some (longer e m))
passed e None m h = absurd (cc)
passed e (Some f) None h = sym (cond-false (ltb f.0 e.0.length) (Some e.1) (Some f.1) h)
passed e (Some f) (Some x) h = elim (cases_Bool (ltb e.0.length x.0.length)) [
  | inl less ↦ sym (ap (λ (g : PrefixValue × Route). joined (Some f) (Some g)) (cond-true (ltb e.0.length x.0.length) x e less))
  | inr not ↦
      let short : ltb f.0 x.0.length ≡ false = grind (arith, nat_tests, h, not) in
      cond-false (ltb f.0 x.0.length) (Some x.1) (Some f.1) short
      ∙ (sym (cond-false (ltb f.0 e.0.length) (Some e.1) (Some f.1) h)
      ∙ sym (ap (λ (g : PrefixValue × Route). joined (Some f) (Some g)) (cond-false (ltb e.0.length x.0.length) x e not)))
]

found_is : (address : List ℕ) (found : Option (ℕ × Route)) (es : List (PrefixValue × Route)) → found_with address found es ≡ joined found (longest address es)
found_is address found [] = joined_none found
found_is address found (e ∷ es) = elim (cases_Bool (holds e.0 address)) [
  | inl inside ↦
      ap (λ (t : Bool). cond (t && exceeds e.0.length found) (found_with address (Some (e.0.length, e.1)) es) (found_with address found es)) inside
      ∙ (elim (cases_Bool (exceeds e.0.length found)) [
        | inl more ↦
            cond-true (exceeds e.0.length found) (found_with address (Some (e.0.length, e.1)) es) (found_with address found es) more
            ∙ (found_is address (Some (e.0.length, e.1)) es ∙ taken e found (longest address es) more)
        | inr less ↦
            cond-false (exceeds e.0.length found) (found_with address (Some (e.0.length, e.1)) es) (found_with address found es) less
            ∙ (found_is address found es ∙ passed e found (longest address es) less)
      ]
      ∙ sym (ap (joined found) (cond-true (holds e.0 address) (Some (longer e (longest address es))) (longest address es) inside)))
  | inr outside ↦
      ap (λ (t : Bool). cond (t && exceeds e.0.length found) (found_with address (Some (e.0.length, e.1)) es) (found_with address found es)) outside
      ∙ (found_is address found es
      ∙ sym (ap (joined found) (cond-false (holds e.0 address) (Some (longer e (longest address es))) (longest address es) outside)))
]

pub found_all : (address : List ℕ) (es : List (PrefixValue × Route)) → found_with address None es ≡ route_to address es
found_all address es = found_is address None es
