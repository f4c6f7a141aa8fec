-- An element that is removed and another that is added, where those between the two places are moved by one; and a date that is changed so.
use Rattle.std.proofs.Common.{◌≡◌, ℕ, ◌+◌, ◌-◌, ◌^◌, ◌<◌, ◌≤◌, List, [], ◌∷◌, ◌++◌, length, get_or, set, take, drop, Some, None, refl, sym, ◌∙◌, ap, subst, arith, suc, zero, true, inl, inr}
use Rattle.std.specs.Prelude.{slice_get}
use Rattle.std.specs.List.{insert, remove}
use Rattle.std.proofs.lemmas.Bool.{cases_lt}
use Rattle.std.proofs.lemmas.Option.{slice_get-get_or}
use Rattle.std.proofs.lemmas.List.{length-drop, length-take-le, take-append-le}
use Rattle.std.proofs.Math.Seq.{take-length}
use Rattle.nd_table.specs.Date.{Date}
use Rattle.nd_table.specs.Keyed.{at_key, Rises}
use Rattle.nd_table.specs.KeyedKept.{place_of}
use Rattle.nd_table.specs.Dates.{rank, AllAddresses, has, without, put_date}
use Rattle.nd_table.proofs.Keyed.{key_is, place_of-remove_low, place_of-remove_high}
use Rattle.nd_table.proofs.Searching.{place_above, place_below}
use Rattle.nd_table.proofs.Dates.{remove_found, length-changed}

module _ {X : Type 0} where
  -- the list with the part of n elements from place i on as it is given
  abbrev with_part : ℕ → ℕ → List X → List X → List X
  with_part i n xs part = take i xs ++ (part ++ drop n (drop i xs))

  -- the first of a part is moved behind the others
  turned : (xs : List X) (n : ℕ) (x y : X) → n ≤ length xs → set ((take n xs ++ x ∷ []) ++ drop n xs) n y ≡ insert xs n y
  turned [] zero x y le = refl
  turned (e ∷ xs) zero x y le = refl
  turned [] (suc n) x y le = absurd (omega arith)
  turned (e ∷ xs) (suc n) x y le = ap (λ (l : List X). e ∷ l) (turned xs n x y (omega arith))

  up : (xs : List X) (i n p : ℕ) (y : X) → p ≡ i + n → i + n < length xs
      → set (with_part i (suc n) xs (drop 1 (take (suc n) (drop i xs)) ++ take 1 (take (suc n) (drop i xs)))) p y ≡ insert (remove xs i) p y
  up [] i n p y at lt = absurd (omega arith)
  up (x ∷ xs) zero n p y at lt =
      subst (λ (q : ℕ). set ((take n xs ++ x ∷ []) ++ drop n xs) q y ≡ insert xs q y) (let e : n ≡ p = omega (arith, at) in e) (turned xs n x y (omega arith))
  up (x ∷ xs) (suc i) n zero y at lt = absurd (omega (arith, at))
  up (x ∷ xs) (suc i) n (suc p) y at lt = ap (λ (l : List X). x ∷ l) (up xs i n p y (omega (arith, at)) (omega arith))

  pub moved_up : (xs part : List X) (from to : ℕ) (y : X) → from < to → to ≤ length xs
      → part ≡ drop 1 (take (to - from) (drop from xs)) ++ take 1 (take (to - from) (drop from xs))
      → set (with_part from (to - from) xs part) (to - 1) y ≡ insert (remove xs from) (to - 1) y
  moved_up xs part from to y lt le is =
      ap (λ (l : List X). set (with_part from (to - from) xs l) (to - 1) y) is
      ∙ subst (λ (k : ℕ). set (with_part from k xs (drop 1 (take k (drop from xs)) ++ take 1 (take k (drop from xs)))) (to - 1) y ≡ insert (remove xs from) (to - 1) y)
      (let e : suc (to - from - 1) ≡ to - from = omega arith in e)
      (up xs from (to - from - 1) (to - 1) y (omega arith) (omega arith))

  -- the last of a part is moved before the others
  last_one : (xs : List X) (n : ℕ) → n < length xs → (x : X) × (drop n (take (suc n) xs) ≡ x ∷ [])
  last_one [] n lt = absurd (omega arith)
  last_one (x ∷ xs) zero lt = (x, refl)
  last_one (x ∷ xs) (suc n) lt = last_one xs n (omega arith)

  others : (xs : List X) (n : ℕ) → n < length xs → take n (take (suc n) xs) ++ drop (suc n) xs ≡ remove xs n
  others [] n lt = absurd (omega arith)
  others (x ∷ xs) zero lt = refl
  others (x ∷ xs) (suc n) lt = ap (λ (l : List X). x ∷ l) (others xs n (omega arith))

  turned_back : (xs : List X) (n : ℕ) (y : X) → n < length xs → set ((drop n (take (suc n) xs) ++ take n (take (suc n) xs)) ++ drop (suc n) xs) 0 y ≡ y ∷ remove xs n
  turned_back xs n y lt =
      let last = last_one xs n lt in
      ap (λ (l : List X). set ((l ++ take n (take (suc n) xs)) ++ drop (suc n) xs) 0 y) last.1 ∙ ap (λ (l : List X). y ∷ l) (others xs n lt)

  to_front : (xs : List X) (y : X) → insert xs 0 y ≡ y ∷ xs
  to_front [] y = refl
  to_front (x ∷ xs) y = refl

  down : (xs : List X) (i n p : ℕ) (y : X) → p ≡ i + n → i + n < length xs
      → set (with_part i (suc n) xs (drop n (take (suc n) (drop i xs)) ++ take n (take (suc n) (drop i xs)))) i y ≡ insert (remove xs p) i y
  down [] i n p y at lt = absurd (omega arith)
  down (x ∷ xs) zero n p y at lt =
      subst (λ (q : ℕ). set ((drop n (take (suc n) (x ∷ xs)) ++ take n (take (suc n) (x ∷ xs))) ++ drop (suc n) (x ∷ xs)) 0 y ≡ insert (remove (x ∷ xs) q) 0 y)
      (let e : n ≡ p = omega (arith, at) in e) (turned_back (x ∷ xs) n y (omega arith) ∙ sym (to_front (remove (x ∷ xs) n) y))
  down (x ∷ xs) (suc i) n zero y at lt = absurd (omega (arith, at))
  down (x ∷ xs) (suc i) n (suc p) y at lt = ap (λ (l : List X). x ∷ l) (down xs i n p y (omega (arith, at)) (omega arith))

  pub moved_down : (xs part : List X) (to from : ℕ) (y : X) → to ≤ from → from < length xs
      → part ≡ drop (length (take (from + 1 - to) (drop to xs)) - 1) (take (from + 1 - to) (drop to xs)) ++ take (length (take (from + 1 - to) (drop to xs)) - 1) (take (from + 1 - to) (drop to xs))
      → set (with_part to (from + 1 - to) xs part) to y ≡ insert (remove xs from) to y
  moved_down xs part to from y le lt is =
      let size : from + 1 - to ≡ suc (from - to) = omega arith in
      let less : length (take (from + 1 - to) (drop to xs)) - 1 ≡ from - to = ap (λ (k : ℕ). k - 1) (length-take-le (from + 1 - to) (drop to xs) (omega (arith, length-drop to xs))) ∙ omega arith in
      ap (λ (l : List X). set (with_part to (from + 1 - to) xs l) to y) (is ∙ ap (λ (k : ℕ). drop k (take (from + 1 - to) (drop to xs)) ++ take k (take (from + 1 - to) (drop to xs))) less)
      ∙ (ap (λ (k : ℕ). set (with_part to k xs (drop (from - to) (take k (drop to xs)) ++ take (from - to) (take k (drop to xs)))) to y) size
      ∙ down xs to (from - to) from y (omega arith) (omega arith))

-- a slice of all elements, when it is back
back : {X : Type 0} (len : ℕ) (old new : List X) → length new ≡ len → length old ≡ len → take len (new ++ drop (length new) old) ≡ new
back len old new is was = take-append-le len new (drop (length new) old) (omega (arith, is)) ∙ (ap (λ (k : ℕ). take k new) (sym is) ∙ take-length new)

-- a date at a place, and another that is not there
module _ (old new : Date) (ds : List Date) (from : ℕ) (r : Rises rank ds) (a : AllAddresses ds) (fit : old.number < 2 ^ 128) (lt : from < length ds)
    (found : at_key rank (rank old) ds ≡ slice_get ds from) (absent : at_key rank (rank new) ds ≡ None) where
  here : at_key rank (rank old) ds ≡ Some (get_or ds from old)
  here = found ∙ slice_get-get_or ds from old lt

  rank_here : rank (get_or ds from old) ≡ rank old
  rank_here = key_is rank (rank old) ds (get_or ds from old) here

  differ : rank old ≡ rank new → ⊥
  differ same = let e : Some (get_or ds from old) ≡ None = sym here ∙ (ap (λ (k : ℕ). at_key rank k ds) same ∙ absent) in absurd (cc)

  put_there : (p : ℕ) → p ≡ place_of rank (rank new) (remove ds from) → insert (remove ds from) p new ≡ put_date new (without old.moment old.number ds)
  put_there p at = ap (λ (q : ℕ). insert (remove ds from) q new) at ∙ ap (put_date new) (remove_found old ds from r a fit lt found)

  -- the dates as the block gets them back
  pub back_changed : (len : ℕ) (inside dates : List Date) → length inside ≡ len → inside ≡ ds → has old.moment old.number ds ≡ true
      → dates ≡ put_date new (without old.moment old.number ds) → take len (dates ++ drop (length dates) inside) ≡ put_date new (without old.moment old.number ds)
  back_changed len inside dates was same there is =
      back len inside dates (omega (arith, ap (length {A = Date}) is, length-changed old.moment old.number new ds there, ap (length {A = Date}) same, was)) was ∙ is

  pub changed_up : (to : ℕ) → to ≡ place_of rank (rank new) ds → from < to → insert (remove ds from) (to - 1) new ≡ put_date new (without old.moment old.number ds)
  changed_up to at up = elim (cases_lt (rank new) (rank old)) [
    | inl lower ↦ absurd (omega (arith, at, up, place_below rank (rank new) ds from old lt (omega (arith, rank_here, lower))))
    | inr high ↦ put_there (to - 1) (omega (arith, at, place_of-remove_low rank (rank new) ds from old r lt (above high)))
  ]
    where
      above : rank old ≤ rank new → rank (get_or ds from old) < rank new
      above high = elim (cases_lt (rank old) (rank new)) [
        | inl lower ↦ omega (arith, rank_here, lower)
        | inr same ↦ absurd (differ (omega (arith, high, same)))
      ]

  pub changed_down : (to : ℕ) → to ≡ place_of rank (rank new) ds → to ≤ from → insert (remove ds from) to new ≡ put_date new (without old.moment old.number ds)
  changed_down to at down = elim (cases_lt (rank old) (rank new)) [
    | inl higher ↦ absurd (omega (arith, at, down, place_above rank (rank new) ds from old r lt (omega (arith, rank_here, higher))))
    | inr low ↦ put_there to (at ∙ sym (place_of-remove_high rank (rank new) ds from old r lt (below low)))
  ]
    where
      below : rank new ≤ rank old → rank new < rank (get_or ds from old)
      below low = elim (cases_lt (rank new) (rank old)) [
        | inl lower ↦ omega (arith, rank_here, lower)
        | inr same ↦ absurd (differ (omega (arith, low, same)))
      ]
