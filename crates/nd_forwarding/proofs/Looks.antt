-- What is true of the routes of every history, and of the longest route.
use Rattle.std.proofs.Common.{◌≡◌, ◌≤◌, ℕ, Bool, true, false, ltb, List, [], ◌∷◌, ◌++◌, Option, Some, None, refl, sym, ◌∙◌, ap, subst, inl, inr}
use Rattle.std.specs.Prelude.{◌||◌, is_some, bytes_eq, option_map, option_to_list}
use Rattle.std.specs.Map.{lookup}
use Rattle.std.proofs.lemmas.Bool.{cond-true, cond-false, cases_Bool, le-ltb, lt-ltb, or_parts, false≢true}
use Rattle.std.proofs.lemmas.Slice.Eq.{bytes_eq-Decides}
use Rattle.nd_addr.proofs.Numbers.{in_prefix}
use Rattle.nd_addr.specs.Bytes.{AreBytes}
use Rattle.nd_addr.specs.Number.{Holds, holds}
use Rattle.nd_addr.specs.Prefix.{IsPrefix, PrefixValue, masked}
use Rattle.nd_addr.specs.Same.{same_prefix}
use Rattle.nd_addr.proofs.SamePrefix.{same_is}
use Rattle.nd_forwarding.specs.declared.route.Route.{Route}
use Rattle.nd_forwarding.specs.History.{Row}
use Rattle.nd_forwarding.specs.Routes.{AllShorter, NoneHolds, NoneLonger, longer, longest, prefixes, route_of, routes, with_routes}
use Rattle.nd_forwarding.proofs.Prefixes.{has, known}

-- it has no more bits than so many, if it is there
abbrev Bounded : ℕ → Option (PrefixValue × Route) → Type 0
Bounded bits None = Unit {0}
Bounded bits (Some f) = f.0.length ≤ bits

bounded_longer : (bits : ℕ) (e : PrefixValue × Route) (m : Option (PrefixValue × Route)) → e.0.length ≤ bits → Bounded bits m → Bounded bits (Some (longer e m))
bounded_longer bits e None le b = le
bounded_longer bits e (Some f) le b = elim (cases_Bool (ltb e.0.length f.0.length)) [
  | inl less ↦ subst (λ (x : PrefixValue × Route). x.0.length ≤ bits) (sym (cond-true (ltb e.0.length f.0.length) f e less)) b
  | inr not ↦ subst (λ (x : PrefixValue × Route). x.0.length ≤ bits) (sym (cond-false (ltb e.0.length f.0.length) f e not)) le
]

bounded : (address : List ℕ) (bits : ℕ) (es : List (PrefixValue × Route)) → NoneLonger address bits es → Bounded bits (longest address es)
bounded address bits [] n = tt
bounded address bits (e ∷ es) n = elim (cases_Bool (holds e.0 address)) [
  | inl inside ↦
      subst (Bounded bits) (sym (cond-true (holds e.0 address) (Some (longer e (longest address es))) (longest address es) inside))
      (bounded_longer bits e (longest address es) (n.0 inside) (bounded address bits es n.1))
  | inr outside ↦
      subst (Bounded bits) (sym (cond-false (holds e.0 address) (Some (longer e (longest address es))) (longest address es) outside)) (bounded address bits es n.1)
]

stays_longest : (e : PrefixValue × Route) (m : Option (PrefixValue × Route)) → Bounded e.0.length m → longer e m ≡ e
stays_longest e None b = refl
stays_longest e (Some f) b = cond-false (ltb e.0.length f.0.length) f e (le-ltb e.0.length f.0.length b)

pub is_longest : (address : List ℕ) (before behind : List (PrefixValue × Route)) (e : PrefixValue × Route) → holds e.0 address ≡ true → AllShorter address e.0.length before → NoneLonger address e.0.length behind
    → longest address (before ++ e ∷ behind) ≡ Some e
is_longest address [] behind e inside shorter none =
    cond-true (holds e.0 address) (Some (longer e (longest address behind))) (longest address behind) inside
    ∙ ap Some (stays_longest e (longest address behind) (bounded address e.0.length behind none))
is_longest address (x ∷ before) behind e inside shorter none =
    let rest = is_longest address before behind e inside shorter.1 none in
    elim (cases_Bool (holds x.0 address)) [
      | inl there ↦
          cond-true (holds x.0 address) (Some (longer x (longest address (before ++ e ∷ behind)))) (longest address (before ++ e ∷ behind)) there
          ∙ (ap (λ (m : Option (PrefixValue × Route)). Some (longer x m)) rest
          ∙ ap Some (cond-true (ltb x.0.length e.0.length) e x (lt-ltb x.0.length e.0.length (shorter.0 there))))
      | inr outside ↦
          cond-false (holds x.0 address) (Some (longer x (longest address (before ++ e ∷ behind)))) (longest address (before ++ e ∷ behind)) outside ∙ rest
    ]

pub none_longest : (address : List ℕ) (es : List (PrefixValue × Route)) → NoneHolds address es → longest address es ≡ None
none_longest address [] n = refl
none_longest address (e ∷ es) n =
    cond-false (holds e.0 address) (Some (longer e (longest address es))) (longest address es) n.0 ∙ none_longest address es n.1

pub one_of_length : (a b : PrefixValue) (address : List ℕ) → IsPrefix a.address.0 a.length → IsPrefix b.address.0 b.length → AreBytes 16 address → a.length ≡ b.length → Holds a address → Holds b address → a ≡ b
one_of_length a b address p q bytes len in_a in_b =
    let first = first_bits_of a p in_a in
    let second = first_bits_of b q in_b in
    ap (λ (l : List ℕ). record { address = record { 0 = l }; length = a.length }) (sym first ∙ (ap (λ (n : ℕ). masked n address) len ∙ second))
    ∙ ap (λ (n : ℕ). record { address = b.address; length = n }) len
  where
    first_bits_of : (c : PrefixValue) → IsPrefix c.address.0 c.length → Holds c address → masked c.length address ≡ c.address.0
    first_bits_of c is inside =
        let decides = bytes_eq-Decides (masked c.length address) c.address.0 in
        decides.0 ((in_prefix c.length address c.address.0 (masked c.length address) (bytes_eq (masked c.length address) c.address.0) is bytes refl decides).1 inside)

-- what a look-up finds among prefixes with their routes
abbrev found_among : PrefixValue → Option Route → List (PrefixValue × Route) → PrefixValue → Option Route
found_among x o es p = lookup (same_prefix p) (option_to_list (option_map (λ (route : Route). (x, route)) o) ++ es)

passes : (p x : PrefixValue) (o : Option Route) (es : List (PrefixValue × Route)) → same_prefix p x ≡ false → found_among x o es p ≡ lookup (same_prefix p) es
passes p x None es differ = refl
passes p x (Some r) es differ = cond-false (same_prefix p x) (Some r) (lookup (same_prefix p) es) differ

finds : (p x : PrefixValue) (o : Option Route) (es : List (PrefixValue × Route)) → same_prefix p x ≡ true → is_some o ≡ true → found_among x o es p ≡ o
finds p x None es same there = absurd (false≢true there)
finds p x (Some r) es same there = cond-true (same_prefix p x) (Some r) (lookup (same_prefix p) es) same

-- where it isn't among them, nothing is found
lacks : (p : PrefixValue) (history : List Row) (ps : List PrefixValue) → has p ps ≡ false → lookup (same_prefix p) (with_routes ps history) ≡ None
lacks p history [] h = refl
lacks p history (x ∷ ps) h =
    let parts = or_parts (same_prefix p x) (has p ps) h in
    passes p x (route_of x history) (with_routes ps history) parts.0 ∙ lacks p history ps parts.1

look_among : (p : PrefixValue) (history : List Row) (ps : List PrefixValue) → has p ps ≡ true → is_some (route_of p history) ≡ true → lookup (same_prefix p) (with_routes ps history) ≡ route_of p history
look_among p history [] h there = absurd (false≢true h)
look_among p history (x ∷ ps) h there = elim (cases_Bool (same_prefix p x)) [
  | inl same ↦
      let one : route_of x history ≡ route_of p history = ap (λ y. route_of y history) (sym (same_is p x same)) in
      finds p x (route_of x history) (with_routes ps history) same (ap is_some one ∙ there) ∙ one
  | inr differ ↦
      passes p x (route_of x history) (with_routes ps history) differ
      ∙ look_among p history ps (sym (ap (λ (t : Bool). t || has p ps) differ) ∙ h) there
]

no_some : (o : Option Route) → is_some o ≡ false → None ≡ o
no_some None h = refl
no_some (Some r) h = absurd (false≢true (sym h))

pub look_routes : (history : List Row) (p : PrefixValue) → lookup (same_prefix p) (routes history) ≡ route_of p history
look_routes history p = elim (cases_Bool (is_some (route_of p history))) [
  | inl there ↦ look_among p history (prefixes history) (known p history ∙ there) there
  | inr absent ↦ lacks p history (prefixes history) (known p history ∙ absent) ∙ no_some (route_of p history) absent
]
