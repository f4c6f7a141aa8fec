-- Entries found by their numbers in a list in the order of these.
use Rattle.std.proofs.Common.{◌≡◌, ℕ, ◌<◌, ◌≤◌, true, false, cond, eqb, ltb, List, [], ◌∷◌, length, get_or, set, Some, None, refl, sym, ◌∙◌, ap, subst, arith, suc, zero, add-one, inl, inr}
use Rattle.std.specs.Prelude.{slice_get, filter, not}
use Rattle.std.proofs.lemmas.Option.{slice_get-get_or}
use Rattle.std.specs.List.{insert, remove}
use Rattle.std.proofs.lemmas.Bool.Decides.{nat_tests}
use Rattle.std.proofs.lemmas.Bool.{cond_both, cond-true, cond-false, eqb-true, eq-eqb, cases_Bool}
use Rattle.nd_table.specs.Keyed.{at_key, AllAbove, Rises}
use Rattle.nd_table.specs.KeyedKept.{Unique, place_of}

module _ {N : Type 0} (key : N → ℕ) where
  pub key_is : (k : ℕ) (ns : List N) (n : N) → at_key key k ns ≡ Some n → key n ≡ k
  key_is k [] n h = absurd (cc)
  key_is k (x ∷ ns) n h =
      cond_both (eqb (key x) k) (Some x) (at_key key k ns) (λ o. o ≡ Some n → key n ≡ k)
      (λ same is. let e : x ≡ n = cc in ap key (sym e) ∙ eqb-true (key x) k same) (λ _ is. key_is k ns n is) h

  -- an entry behind a lower one has a greater number
  pub above_at : (k : ℕ) (ns : List N) (i : ℕ) (d : N) → AllAbove key k ns → i < length ns → k < key (get_or ns i d)
  above_at k [] i d h lt = absurd (omega arith)
  above_at k (n ∷ ns) zero d h lt = h.0
  above_at k (n ∷ ns) (suc i) d h lt = above_at k ns i d h.1 (omega arith)

  pub above_in : (k low : ℕ) (ns : List N) (n : N) → AllAbove key low ns → at_key key k ns ≡ Some n → low < k
  above_in k low [] n h is = absurd (cc)
  above_in k low (x ∷ ns) n h is =
      cond_both (eqb (key x) k) (Some x) (at_key key k ns) (λ o. o ≡ Some n → low < k)
      (λ same _. subst (λ (j : ℕ). low < j) (eqb-true (key x) k same) h.0) (λ _ e. above_in k low ns n h.1 e) is

  AllAbove-weaken : (a b : ℕ) (ns : List N) → a < b → AllAbove key b ns → AllAbove key a ns
  AllAbove-weaken a b [] lt h = tt
  AllAbove-weaken a b (n ∷ ns) lt h = (omega (arith, h.0), AllAbove-weaken a b ns lt h.1)

  pub at_key-set : (k : ℕ) (ns : List N) (i : ℕ) (m d : N) → Rises key ns → i < length ns → key (get_or ns i d) ≡ key m → at_key key k (set ns i m) ≡ cond (eqb (key m) k) (Some m) (at_key key k ns)
  at_key-set k [] i m d r lt same = absurd (omega arith)
  at_key-set k (n ∷ ns) zero m d r lt same = grind (arith, nat_tests)
  at_key-set k (n ∷ ns) (suc i) m d r lt same =
      let above : key n < key m = subst (λ (x : ℕ). key n < x) same (above_at (key n) ns i d r.0 (omega arith)) in
      grind (arith, nat_tests, above, at_key-set k ns i m d r.1 (omega arith) same)

  AllAbove-set : (low : ℕ) (ns : List N) (i : ℕ) (m d : N) → AllAbove key low ns → key (get_or ns i d) ≡ key m → AllAbove key low (set ns i m)
  AllAbove-set low [] i m d h same = tt
  AllAbove-set low (n ∷ ns) zero m d h same = (subst (λ (x : ℕ). low < x) same h.0, h.1)
  AllAbove-set low (n ∷ ns) (suc i) m d h same = (h.0, AllAbove-set low ns i m d h.1 same)

  pub Rises-set : (ns : List N) (i : ℕ) (m d : N) → Rises key ns → key (get_or ns i d) ≡ key m → Rises key (set ns i m)
  Rises-set [] i m d h same = tt
  Rises-set (n ∷ ns) zero m d h same = (subst (λ (x : ℕ). AllAbove key x ns) same h.0, h.1)
  Rises-set (n ∷ ns) (suc i) m d h same = (AllAbove-set (key n) ns i m d h.0 same, Rises-set ns i m d h.1 same)

  -- nothing lower is behind
  pub none_above : (k : ℕ) (ns : List N) → AllAbove key k ns → at_key key k ns ≡ None
  none_above k [] h = refl
  none_above k (n ∷ ns) h = let lt = h.0 in grind (arith, nat_tests, none_above k ns h.1)

  pub Rises-unique : (ns : List N) → Rises key ns → Unique key ns
  Rises-unique [] r = tt
  Rises-unique (n ∷ ns) r = (none_above (key n) ns r.0, Rises-unique ns r.1)

  -- the list without the entries of a number
  abbrev pub others : ℕ → List N → List N
  others k ns = filter (λ n. not (eqb (key n) k)) ns

  pub at_key-others : (j k : ℕ) (ns : List N) → at_key key j (others k ns) ≡ cond (eqb k j) None (at_key key j ns)
  at_key-others j k [] = grind (arith, nat_tests)
  at_key-others j k (n ∷ ns) = grind (arith, nat_tests, at_key-others j k ns)

  pub Unique-others : (k : ℕ) (ns : List N) → Unique key ns → Unique key (others k ns)
  Unique-others k [] u = tt
  Unique-others k (n ∷ ns) u =
      let rest = Unique-others k ns u.1 in
      cond_both (not (eqb (key n) k)) (n ∷ others k ns) (others k ns) (Unique key)
      (λ _. (grind (arith, nat_tests, u.0, at_key-others (key n) k ns), rest)) (λ _. rest)

  no_longer : (k : ℕ) (ns : List N) → length (others k ns) ≤ length ns
  no_longer k [] = omega arith
  no_longer k (n ∷ ns) = grind (arith, nat_tests, no_longer k ns)

  pub length-others : (k : ℕ) (n : N) (ns : List N) → at_key key k ns ≡ Some n → suc (length (others k ns)) ≤ length ns
  length-others k n [] there = absurd (cc)
  length-others k n (x ∷ ns) there = elim (cases_Bool (eqb (key x) k)) [
    | inl here ↦ let e : others k (x ∷ ns) ≡ others k ns = rw here refl in let le : length (others k ns) ≤ length ns = no_longer k ns in omega (arith, ap length e, le)
    | inr behind ↦
        let e : others k (x ∷ ns) ≡ x ∷ others k ns = rw behind refl in
        let rest : suc (length (others k ns)) ≤ length ns = length-others k n ns (sym (cond-false (eqb (key x) k) (Some x) (at_key key k ns) behind) ∙ there) in
        omega (arith, ap length e, rest)
  ]

  pub at_key-remove : (k : ℕ) (ns : List N) (i : ℕ) (d : N) → Rises key ns → i < length ns → at_key key k (remove ns i) ≡ cond (eqb (key (get_or ns i d)) k) None (at_key key k ns)
  at_key-remove k [] i d r lt = absurd (omega arith)
  at_key-remove k (n ∷ ns) zero d r lt =
      cond_both (eqb (key n) k) None (cond (eqb (key n) k) (Some n) (at_key key k ns)) (λ o. at_key key k ns ≡ o)
      (λ same. subst (λ (x : ℕ). at_key key x ns ≡ None) (eqb-true (key n) k same) (none_above (key n) ns r.0))
      (λ differ. grind (arith, nat_tests, differ))
  at_key-remove k (n ∷ ns) (suc i) d r lt =
      let above : key n < key (get_or ns i d) = above_at (key n) ns i d r.0 (omega arith) in
      grind (arith, nat_tests, above, at_key-remove k ns i d r.1 (omega arith))

  AllAbove-remove : (low : ℕ) (ns : List N) (i : ℕ) → AllAbove key low ns → AllAbove key low (remove ns i)
  AllAbove-remove low [] zero h = tt
  AllAbove-remove low [] (suc i) h = tt
  AllAbove-remove low (n ∷ ns) zero h = h.1
  AllAbove-remove low (n ∷ ns) (suc i) h = (h.0, AllAbove-remove low ns i h.1)

  pub Rises-remove : (ns : List N) (i : ℕ) → Rises key ns → Rises key (remove ns i)
  Rises-remove [] zero h = tt
  Rises-remove [] (suc i) h = tt
  Rises-remove (n ∷ ns) zero h = h.1
  Rises-remove (n ∷ ns) (suc i) h = (AllAbove-remove (key n) ns i h.0, Rises-remove ns i h.1)

  -- the list with an entry put in its place
  abbrev pub put_in : N → List N → List N
  put_in m ns = insert ns (place_of key (key m) ns) m

  pub put_low : (m n : N) (ns : List N) → ltb (key n) (key m) ≡ true → put_in m (n ∷ ns) ≡ n ∷ put_in m ns
  put_low m n ns lt = rw (lt, add-one) refl

  pub put_high : (m n : N) (ns : List N) → ltb (key n) (key m) ≡ false → put_in m (n ∷ ns) ≡ m ∷ n ∷ ns
  put_high m n ns ge = rw ge refl

  pub at_key-put : (k : ℕ) (m : N) (ns : List N) → at_key key k (put_in m ns) ≡ cond (eqb (key m) k) (Some m) (at_key key k ns)
  at_key-put k m [] = refl
  at_key-put k m (n ∷ ns) = elim (cases_Bool (ltb (key n) (key m))) [
    | inl lt ↦ rw (put_low m n ns lt) (grind (arith, nat_tests, lt, at_key-put k m ns))
    | inr ge ↦ rw (put_high m n ns ge) refl
  ]

  AllAbove-put : (low : ℕ) (m : N) (ns : List N) → AllAbove key low ns → low < key m → AllAbove key low (put_in m ns)
  AllAbove-put low m [] h lt = (lt, tt)
  AllAbove-put low m (n ∷ ns) h lt = elim (cases_Bool (ltb (key n) (key m))) [
    | inl below ↦ rw (put_low m n ns below) (h.0, AllAbove-put low m ns h.1 lt)
    | inr high ↦ rw (put_high m n ns high) (lt, h)
  ]

  pub Rises-put : (m : N) (ns : List N) → Rises key ns → at_key key (key m) ns ≡ None → Rises key (put_in m ns)
  Rises-put m [] h absent = (tt, tt)
  Rises-put m (n ∷ ns) h absent =
      let differ : eqb (key n) (key m) ≡ false = grind (arith, nat_tests, absent) in
      let rest : at_key key (key m) ns ≡ None = grind (arith, nat_tests, absent) in
      elim (cases_Bool (ltb (key n) (key m))) [
        | inl low ↦ let lt : key n < key m = grind (arith, nat_tests, low) in
            rw (put_low m n ns low) (AllAbove-put (key n) m ns h.0 lt, Rises-put m ns h.1 rest)
        | inr high ↦ let lt : key m < key n = grind (arith, nat_tests, high, differ) in
            rw (put_high m n ns high) ((lt, AllAbove-weaken (key m) (key n) ns lt h.0), h)
      ]

  -- the entry at a place is that of its number
  pub at_place : (ns : List N) (i : ℕ) (n : N) → Rises key ns → i < length ns → n ≡ get_or ns i n → at_key key (key n) ns ≡ Some n
  at_place [] i n r lt is = absurd (omega arith)
  at_place (x ∷ ns) zero n r lt is =
      subst (λ (y : N). at_key key (key y) (x ∷ ns) ≡ Some y) (sym is) (cond-true (eqb (key x) (key x)) (Some x) (at_key key (key x) ns) (eq-eqb (key x) (key x) refl))
  at_place (x ∷ ns) (suc i) n r lt is =
      let rest : at_key key (key n) ns ≡ Some n = at_place ns i n r.1 (omega arith) is in
      let above : key x < key n = above_in (key n) (key x) ns n r.0 rest in
      grind (arith, nat_tests, above, rest)

  -- the entry at the place that a search has found, in a list that is seen through a slice
  pub found_is : (k : ℕ) (ns seen : List N) (i : ℕ) (n : N) → seen ≡ ns → i < length seen → at_key key k seen ≡ slice_get seen i → n ≡ get_or ns i n → at_key key k ns ≡ Some n
  found_is k ns seen i n same lt found is =
      let within : i < length ns = subst (λ (l : List N). i < length l) same lt in
      subst (λ (l : List N). at_key key k l ≡ slice_get l i) same found ∙ (slice_get-get_or ns i n within ∙ ap Some (sym is))

  -- what a look-up finds stands at a place
  pub place_found : (k : ℕ) (ns : List N) (n : N) → at_key key k ns ≡ Some n → (i : ℕ) × (i < length ns) × (n ≡ get_or ns i n)
  place_found k [] n is = absurd (cc)
  place_found k (x ∷ ns) n is = elim (cases_Bool (eqb (key x) k)) [
    | inl here ↦ let e : Some x ≡ Some n = sym (cond-true (eqb (key x) k) (Some x) (at_key key k ns) here) ∙ is in (zero, omega arith, let f : x ≡ n = cc in sym f)
    | inr behind ↦
        let rest = place_found k ns n (sym (cond-false (eqb (key x) k) (Some x) (at_key key k ns) behind) ∙ is) in
        let lt : rest.0 < length ns = rest.1 in
        (suc rest.0, omega arith, rest.2)
  ]

  pub place_of-le : (k : ℕ) (ns : List N) → place_of key k ns ≤ length ns
  place_of-le k [] = omega arith
  place_of-le k (n ∷ ns) = let rest : place_of key k ns ≤ length ns = place_of-le k ns in grind (arith, nat_tests, rest)

  none_lower : (k low : ℕ) (ns : List N) → k ≤ low → AllAbove key low ns → place_of key k ns ≡ 0
  none_lower k low [] le h = refl
  none_lower k low (n ∷ ns) le h = let above = h.0 in grind (arith, nat_tests, above, le)

  -- where a number belongs once an entry before its place has gone, and one from there on
  pub place_of-remove_low : (k : ℕ) (ns : List N) (i : ℕ) (d : N) → Rises key ns → i < length ns → key (get_or ns i d) < k → place_of key k ns ≡ suc (place_of key k (remove ns i))
  place_of-remove_low k [] i d r lt low = absurd (omega arith)
  place_of-remove_low k (n ∷ ns) zero d r lt low = grind (arith, nat_tests, low)
  place_of-remove_low k (n ∷ ns) (suc i) d r lt low =
      let above : key n < key (get_or ns i d) = above_at (key n) ns i d r.0 (omega arith) in
      grind (arith, nat_tests, above, low, place_of-remove_low k ns i d r.1 (omega arith) low)

  pub place_of-remove_high : (k : ℕ) (ns : List N) (i : ℕ) (d : N) → Rises key ns → i < length ns → k < key (get_or ns i d) → place_of key k (remove ns i) ≡ place_of key k ns
  place_of-remove_high k [] i d r lt high = absurd (omega arith)
  place_of-remove_high k (n ∷ ns) zero d r lt high =
      let none : place_of key k ns ≡ 0 = none_lower k (key n) ns (omega arith) r.0 in
      grind (arith, nat_tests, high, none)
  place_of-remove_high k (n ∷ ns) (suc i) d r lt high = grind (arith, nat_tests, place_of-remove_high k ns i d r.1 (omega arith) high)
