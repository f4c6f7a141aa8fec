-- What a search by halves keeps in a list in the order of its numbers.
use Rattle.std.proofs.Common.{Ordering, Less, Equal, Greater, Bool, true, false, pow-suc, ◌≡◌, ℕ, ◌+◌, ◌*◌, ◌^◌, ◌/◌, ◌-◌, ◌<◌, ◌≤◌, cond, eqb, ltb, List, [], ◌∷◌, length, get_or, drop, Some, None, refl, sym, ◌∙◌, ap, subst, arith, suc, zero, add-one, inl, inr}
use Rattle.std.specs.Ordering.{is_eq, is_gt, is_lt, MatchOrdering, nat_cmp}
use Rattle.std.specs.Prelude.{slice_get}
use Rattle.std.proofs.lemmas.Cmp.{ranked}
use Rattle.std.proofs.lemmas.Option.{slice_get-get_or}
use Rattle.std.proofs.lemmas.Bool.Decides.{nat_tests}
use Rattle.std.proofs.lemmas.Bool.{cases_Bool, eqb-true, eq-eqb, true≢false}
use Rattle.nd_table.specs.Keyed.{at_key, AllAbove, Rises}
use Rattle.nd_table.specs.KeyedKept.{place_of, binary_digits}
use Rattle.nd_table.proofs.Keyed.{above_at, none_above, at_place, place_of-le}

-- what an order of two numbers says of them
module _ (a b : ℕ) where
  pub lower : (o : Ordering) (is : Bool) → o ≡ nat_cmp a b → is ≡ is_lt o → is ≡ true → a < b
  lower o is e t h = by o (ranked a b o e) (sym t ∙ h)
    where
      by : (o : Ordering) → MatchOrdering o (a < b) (a ≡ b) (b < a) → is_lt o ≡ true → a < b
      by Less m y = m
      by Equal m y = absurd (true≢false (sym y))
      by Greater m y = absurd (true≢false (sym y))

  pub greater : (o : Ordering) (is : Bool) → o ≡ nat_cmp a b → is ≡ is_gt o → is ≡ true → b < a
  greater o is e t h = by o (ranked a b o e) (sym t ∙ h)
    where
      by : (o : Ordering) → MatchOrdering o (a < b) (a ≡ b) (b < a) → is_gt o ≡ true → b < a
      by Less m y = absurd (true≢false (sym y))
      by Equal m y = absurd (true≢false (sym y))
      by Greater m y = m

  pub not_lower : (o : Ordering) (is : Bool) → o ≡ nat_cmp a b → is ≡ is_lt o → is ≡ false → b ≤ a
  not_lower o is e t h = by o (ranked a b o e) (sym t ∙ h)
    where
      by : (o : Ordering) → MatchOrdering o (a < b) (a ≡ b) (b < a) → is_lt o ≡ false → b ≤ a
      by Less m n = absurd (true≢false n)
      by Equal m n = omega (arith, m)
      by Greater m n = omega (arith, m)

  pub same : (o : Ordering) (is : Bool) → o ≡ nat_cmp a b → is ≡ is_eq o → is ≡ true → a ≡ b
  same o is e t h = by o (ranked a b o e) (sym t ∙ h)
    where
      by : (o : Ordering) → MatchOrdering o (a < b) (a ≡ b) (b < a) → is_eq o ≡ true → a ≡ b
      by Less m y = absurd (true≢false (sym y))
      by Equal m y = m
      by Greater m y = absurd (true≢false (sym y))

  pub other : (o : Ordering) (is : Bool) → o ≡ nat_cmp a b → is ≡ is_eq o → is ≡ false → (a ≡ b) → ⊥
  other o is e t h = by o (ranked a b o e) (sym t ∙ h)
    where
      by : (o : Ordering) → MatchOrdering o (a < b) (a ≡ b) (b < a) → is_eq o ≡ false → (a ≡ b) → ⊥
      by Less m n at = absurd (omega (arith, m, at))
      by Equal m n at = absurd (true≢false n)
      by Greater m n at = absurd (omega (arith, m, at))

module _ {N : Type 0} (key : N → ℕ) (k : ℕ) where
  -- all up to a lower one are lower
  pub place_above : (ns : List N) (i : ℕ) (d : N) → Rises key ns → i < length ns → key (get_or ns i d) < k → suc i ≤ place_of key k ns
  place_above [] i d r lt low = absurd (omega arith)
  place_above (n ∷ ns) zero d r lt low = grind (arith, nat_tests, low)
  place_above (n ∷ ns) (suc i) d r lt low =
      let first : key n < key (get_or ns i d) = above_at key (key n) ns i d r.0 (omega arith) in
      let rest : suc i ≤ place_of key k ns = place_above ns i d r.1 (omega arith) low in
      grind (arith, nat_tests, first, rest)

  -- one that isn't lower isn't among those that are
  place_until : (ns : List N) (i : ℕ) (d : N) → i < length ns → k ≤ key (get_or ns i d) → place_of key k ns ≤ i
  place_until [] i d lt high = absurd (omega arith)
  place_until (n ∷ ns) zero d lt high = grind (arith, nat_tests, high)
  place_until (n ∷ ns) (suc i) d lt high =
      let rest : place_of key k ns ≤ i = place_until ns i d (omega arith) high in
      grind (arith, nat_tests, rest)

  pub place_below : (ns : List N) (i : ℕ) (d : N) → i < length ns → k < key (get_or ns i d) → place_of key k ns ≤ i
  place_below ns i d lt high = place_until ns i d lt (omega (arith, high))

  AllAbove-lower : (low : ℕ) (ns : List N) → k < low → AllAbove key low ns → AllAbove key k ns
  AllAbove-lower low [] lt h = tt
  AllAbove-lower low (n ∷ ns) lt h = (omega (arith, h.0), AllAbove-lower low ns lt h.1)

  -- from a higher one on the number isn't found
  pub none_from : (ns : List N) (i : ℕ) (d : N) → Rises key ns → i < length ns → k < key (get_or ns i d) → at_key key k (drop i ns) ≡ None
  none_from [] i d r lt high = absurd (omega arith)
  none_from (n ∷ ns) zero d r lt high = none_above key k (n ∷ ns) (high, AllAbove-lower (key n) ns high r.0)
  none_from (n ∷ ns) (suc i) d r lt high = none_from ns i d r.1 (omega arith) high

  -- nor before its place
  pub none_at_place : (ns : List N) → at_key key k (drop (place_of key k ns) ns) ≡ None → at_key key k ns ≡ None
  none_at_place [] h = refl
  none_at_place (n ∷ ns) h = elim (cases_Bool (ltb (key n) k)) [
    | inl low ↦
        let step : at_key key k (drop (place_of key k ns) ns) ≡ None = rw (low, add-one) at h in
        let rest : at_key key k ns ≡ None = none_at_place ns step in
        grind (arith, nat_tests, low, rest)
    | inr high ↦ rw high at h
  ]

  -- the same of the entry at a place, as a look at it gives it
  pub seen_low : (ns : List N) (i : ℕ) (n : N) → n ≡ get_or ns i n → i < length ns → Rises key ns → key n < k → suc i ≤ place_of key k ns
  seen_low ns i n is lt r low = place_above ns i n r lt (subst (λ (m : N). key m < k) is low)

  -- where the last one is lower all are
  pub last_low : (ns : List N) (n : N) → Some n ≡ slice_get ns (length ns - 1) → Rises key ns → key n < k → place_of key k ns ≡ length ns
  last_low [] n is r low = let no : Some n ≡ None = is in absurd (cc)
  last_low (m ∷ ns) n is r low =
      let i : ℕ = length ns in
      let e : length (m ∷ ns) - 1 ≡ i = omega arith in
      let lt : i < length (m ∷ ns) = omega arith in
      let f : Some n ≡ Some (get_or (m ∷ ns) i n) = is ∙ (ap (slice_get (m ∷ ns)) e ∙ slice_get-get_or (m ∷ ns) i n lt) in
      let here : suc i ≤ place_of key k (m ∷ ns) = seen_low (m ∷ ns) i n (cc) lt r low in
      omega (arith, here, place_of-le key k (m ∷ ns))

  pub seen_high : (ns : List N) (i : ℕ) (n : N) → n ≡ get_or ns i n → i < length ns → k ≤ key n → place_of key k ns ≤ i
  seen_high ns i n is lt high = place_until ns i n lt (subst (λ (m : N). k ≤ key m) is high)

  -- the entry at its place has another number
  pub seen_other : (ns : List N) (i : ℕ) (n : N) → n ≡ get_or ns i n → i < length ns → Rises key ns → i ≡ place_of key k ns → ((key n ≡ k) → ⊥) → at_key key k ns ≡ None
  seen_other ns i n is lt r at other = elim (cases_Bool (ltb (key n) k)) [
    | inl low ↦
        let before : suc i ≤ place_of key k ns = seen_low ns i n is lt r (grind (arith, nat_tests, low)) in
        absurd (omega (arith, at, before))
    | inr high ↦
        let above : k < key n = grind (arith, nat_tests, high, other) in
        none_at_place ns (subst (λ (j : ℕ). at_key key k (drop j ns) ≡ None) at (none_from ns i n r lt (subst (λ (m : N). k < key m) is above)))
  ]

  -- the entry that was looked at is found
  pub found_at : (ns : List N) (i : ℕ) (n : N) → Rises key ns → i < length ns → n ≡ get_or ns i n → key n ≡ k → at_key key k ns ≡ slice_get ns i
  found_at ns i n r lt is same =
      subst (λ (j : ℕ). at_key key j ns ≡ slice_get ns i) same
      (at_place key ns i n r lt is ∙ (ap Some is ∙ sym (slice_get-get_or ns i n lt)))

-- a number is below the power of 2 that has one digit more
pub digits_bound : (n : ℕ) → n < 2 ^ binary_digits n
digits_bound zero = omega arith
digits_bound (suc n) = one_more n (binary_digits n) (digits_bound n)
  where
    one_more : (n d : ℕ) → n < 2 ^ d → suc n < 2 ^ (cond (eqb (2 ^ d) (suc n)) (d + 1) d)
    one_more n d h = elim (cases_Bool (eqb (2 ^ d) (suc n))) [
      | inl same ↦
          let e : 2 ^ d ≡ suc n = eqb-true (2 ^ d) (suc n) same in
          rw same (rw (add-one, pow-suc) (omega (arith, e)))
      | inr differ ↦
          let e : (2 ^ d ≡ suc n) → ⊥ = λ at. true≢false (sym (eq-eqb (2 ^ d) (suc n) at) ∙ differ) in
          rw differ (omega (arith, e, h))
    ]

-- the looks that are left in a part of a list are enough
abbrev pub Enough : ℕ → ℕ → ℕ → ℕ → Type 0
Enough before all now size = (digits : ℕ) → all < 2 ^ digits → (left : ℕ) × ((size < 2 ^ left) × (now + left ≤ before + digits))

module _ (before all : ℕ) where
  pub enough_first : Enough before all before (all - 0)
  enough_first digits lt = (digits, (omega arith, omega arith))

  half : (now size now' size' digits left : ℕ) → 0 < size → now' ≤ now + 1 → size' ≤ size / 2 → size < 2 ^ left → now + left ≤ before + digits → (l : ℕ) × ((size' < 2 ^ l) × (now' + l ≤ before + digits))
  half now size now' size' digits zero some more less lt le = absurd (omega arith)
  half now size now' size' digits (suc left) some more less lt le =
      let lt' : size < 2 ^ left * 2 = rw pow-suc at lt in
      (left, (omega arith, omega arith))

  -- one look halves the part
  pub enough_half : (now size now' size' : ℕ) → Enough before all now size → 0 < size → now' ≤ now + 1 → size' ≤ size / 2 → Enough before all now' size'
  enough_half now size now' size' enough some more less digits lt =
      let was = enough digits lt in
      half now size now' size' digits was.0 some more less was.1.0 was.1.1

  pub enough_none : (now size : ℕ) → Enough before all now size → now ≤ before + binary_digits all
  enough_none now size enough = let was = enough (binary_digits all) (digits_bound all) in let le : now + was.0 ≤ before + binary_digits all = was.1.1 in omega arith
