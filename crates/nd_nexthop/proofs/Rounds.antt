-- One entry after the other goes behind the others, until each has.
use Rattle.std.proofs.Common.{◌≡◌, ◌≤◌, ℕ, zero, suc, eqb, List, [], ◌∷◌, ◌++◌, length, map, Option, Some, None, nat_eq, refl, sym, ◌∙◌, ap, append_assoc, append-nil, inl, inr, arith}
use Rattle.std.specs.Map.{lookup, set_value}
use Rattle.std.proofs.lemmas.Bool.{cond-true, cond-false, cases_Bool}
use Rattle.lru.specs.LruCache.{LruCache, lru_cache}
use Rattle.nd_nexthop.specs.Choice.{left_of, ended, ended_at, turned}

-- the entries after so many turns
abbrev pub turns : Option ℕ → ℕ → List (ℕ × Option ℕ) → List (ℕ × Option ℕ)
turns lost zero es = es
turns lost (suc n) es = turns lost n (turned lost es)

round_from : (lost : Option ℕ) (front back : List (ℕ × Option ℕ)) → turns lost (length front) (front ++ back) ≡ back ++ map (ended lost) front
round_from lost [] back = sym (append-nil back)
round_from lost (e ∷ front) back =
    ap (turns lost (length front)) (append_assoc front back (ended lost e ∷ []))
    ∙ (round_from lost front (back ++ ended lost e ∷ []) ∙ append_assoc back (ended lost e ∷ []) (map (ended lost) front))

-- a whole round ends each that has to end, and leaves the order
pub whole_round : (lost : Option ℕ) (es : List (ℕ × Option ℕ)) → turns lost (length es) es ≡ map (ended lost) es
whole_round lost es = ap (turns lost (length es)) (sym (append-nil es)) ∙ round_from lost es []

-- a value that is written at a key
pub set_is : (lost : Option ℕ) (key : ℕ) (w : Option ℕ) (es : List (ℕ × Option ℕ)) → lookup (nat_eq key) es ≡ Some w → set_value (nat_eq key) es (left_of lost w) ≡ ended_at lost key es
set_is lost key w [] h = absurd (cc)
set_is lost key w (e ∷ es) h = elim (cases_Bool (eqb key e.0)) [
  | inl same ↦
      let found : Some e.1 ≡ Some w = sym (cond-true (eqb key e.0) (Some e.1) (lookup (nat_eq key) es) same) ∙ h in
      let value : w ≡ e.1 = cc in
      cond-true (eqb key e.0) ((e.0, left_of lost w) ∷ es) (e ∷ set_value (nat_eq key) es (left_of lost w)) same
      ∙ (ap (λ (o : Option ℕ). (e.0, left_of lost o) ∷ es) value
      ∙ sym (cond-true (eqb key e.0) (ended lost e ∷ es) (e ∷ ended_at lost key es) same))
  | inr differ ↦
      let rest = sym (cond-false (eqb key e.0) (Some e.1) (lookup (nat_eq key) es) differ) ∙ h in
      cond-false (eqb key e.0) ((e.0, left_of lost w) ∷ es) (e ∷ set_value (nat_eq key) es (left_of lost w)) differ
      ∙ (ap (λ l. e ∷ l) (set_is lost key w es rest)
      ∙ sym (cond-false (eqb key e.0) (ended lost e ∷ es) (e ∷ ended_at lost key es) differ))
]

-- nothing changes where the key isn't
pub none_is : (lost : Option ℕ) (key : ℕ) (es : List (ℕ × Option ℕ)) → lookup (nat_eq key) es ≡ None → es ≡ ended_at lost key es
none_is lost key [] h = refl
none_is lost key (e ∷ es) h = elim (cases_Bool (eqb key e.0)) [
  | inl same ↦ absurd (let found : Some e.1 ≡ None = sym (cond-true (eqb key e.0) (Some e.1) (lookup (nat_eq key) es) same) ∙ h in cc)
  | inr differ ↦
      let rest = sym (cond-false (eqb key e.0) (Some e.1) (lookup (nat_eq key) es) differ) ∙ h in
      ap (λ l. e ∷ l) (none_is lost key es rest) ∙ sym (cond-false (eqb key e.0) (ended lost e ∷ es) (e ∷ ended_at lost key es) differ)
]

-- a cache by its two parts
pub cache_is : (cache : LruCache ℕ (Option ℕ)) (es : List (ℕ × Option ℕ)) (n : ℕ) → cache.entries ≡ es → cache.cap ≡ n → cache ≡ lru_cache es n
cache_is cache es n p q = ap (λ l. lru_cache l cache.cap) p ∙ ap (λ (m : ℕ). lru_cache es m) q

pub round_done : (lost : Option ℕ) (old now : LruCache ℕ (Option ℕ)) (left : ℕ) → left ≤ 0 → turns lost left now.entries ≡ turns lost (length old.entries) old.entries → now.cap ≡ old.cap
    → now ≡ lru_cache (map (ended lost) old.entries) old.cap
round_done lost old now zero le h cap = cache_is now (map (ended lost) old.entries) old.cap (h ∙ whole_round lost old.entries) cap
round_done lost old now (suc left) le h cap = absurd (omega arith)
