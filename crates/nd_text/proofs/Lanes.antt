-- The values of digits, lane by lane.
use Rattle.std.proofs.Common.{◌≡◌, ℕ, zero, suc, ◌+◌, ◌-◌, ◌*◌, ◌%◌, ◌^◌, ◌<◌, ◌↔◌, Bool, true, false, cond, eqb, leb, List, [], ◌∷◌, ◌++◌, map, length, get_or, replicate, bit_or, refl, sym, ap, ◌∙◌, arith, w8, Fits, leb-false, leb-true, eqb-true, eq-eqb}
use Rattle.std.proofs.lemmas.Simd.{length-zip2, mask_l-mod, get_or-zip2, get_or-replicate}
use Rattle.std.proofs.lemmas.List.{length-map, get_or-map, get_or_append_left}
use Rattle.std.proofs.lemmas.Bool.{agree_below_at}
use lib.Lanes.{zip2, sel_l, mask_l, top, pick_l, Each1}
use Rattle.nd_text.specs.HexDigits.{value_or_none}

-- ---- the value of one lane, as it is computed

abbrev pub less : ℕ → ℕ → ℕ
less a b = (a + (2 ^ 8 - b)) % 2 ^ 8

abbrev pub plus : ℕ → ℕ → ℕ
plus a b = (a + b) % 2 ^ 8

abbrev pub at_most : ℕ → ℕ → ℕ
at_most a b = cond (leb a b) 255 0

abbrev one_value : ℕ → ℕ
one_value c =
    cond (top 7 (at_most (less c 48) 9)) (less c 48)
    (cond (top 7 (at_most (less (bit_or c 32) 97) 5)) (plus (less (bit_or c 32) 97) 10) 255)

one_value_is : (c : ℕ) → c < 256 → one_value c ≡ value_or_none c
one_value_is c lt = eqb-true _ _ (agree_below_at (λ x. eqb (one_value x) (value_or_none x)) (λ x. true) 256 c refl lt)

cons_both : (x y : ℕ) (xs ys : List ℕ) → x ≡ y → xs ≡ ys → x ∷ xs ≡ y ∷ ys
cons_both x y xs ys e es = rw (e, es) refl

pub values_are : (n : ℕ) (xs : List ℕ) → length xs ≡ n → Each1 (Fits w8) xs
    → sel_l (map (top 7) (zip2 at_most (zip2 less xs (replicate n 48)) (replicate n 9))) (zip2 less xs (replicate n 48))
    (sel_l (map (top 7) (zip2 at_most (zip2 less (zip2 bit_or xs (replicate n 32)) (replicate n 97)) (replicate n 5)))
    (zip2 plus (zip2 less (zip2 bit_or xs (replicate n 32)) (replicate n 97)) (replicate n 10)) (replicate n 255))
    ≡ map value_or_none xs
values_are zero [] e fits = refl
values_are zero (x ∷ xs) e fits = absurd (omega arith)
values_are (suc n) [] e fits = absurd (omega arith)
values_are (suc n) (x ∷ xs) e fits =
    cons_both _ _ _ _ (one_value_is x fits.0.fits) (values_are n xs (omega arith) fits.1)

-- ---- the test that all are values of digits

abbrev pub at_least : ℕ → ℕ → ℕ
at_least a b = cond (leb a b) 255 0

one_high : (x : ℕ) → (◌≡◌ {A = ℕ} (cond (top 7 (at_least 128 x)) 1 0) 0) ↔ (x < 128)
one_high x = go (leb 128 x) refl
  where
    go : (t : Bool) → leb 128 x ≡ t → (◌≡◌ {A = ℕ} (cond (top 7 (cond t 255 0)) 1 0) 0) ↔ (x < 128)
    go true e = (λ q. absurd (omega arith), λ lt. absurd (omega (arith, leb-true _ _ e, lt)))
    go false e = (λ _. leb-false _ _ e, λ _. refl)

none_high : (xs : List ℕ) → (mask_l (map (top 7) (zip2 at_least (replicate (length xs) 128) xs)) ≡ 0) ↔ ((i : ℕ) → get_or xs i 0 < 128)
none_high [] = (λ _ i. omega arith, λ _. refl)
none_high (x ∷ xs) =
    let one = one_high x in
    let more = none_high xs in (
      λ e. elim [ zero ↦ one.0 (omega arith) | suc i ↦ more.0 (omega arith) i ],
      λ h. omega (arith, one.1 (h 0), more.1 (λ i. h (suc i))),
    )

pub none_high_in_mask : (xs : List ℕ) → length xs ≡ 32 → (eqb (mask_l (map (top 7) (zip2 at_least (replicate 32 128) xs)) % 2 ^ 64) 0 ≡ true) ↔ ((i : ℕ) → get_or xs i 0 < 128)
none_high_in_mask xs long =
    let small : mask_l (map (top 7) (zip2 at_least (replicate 32 128) xs)) % 2 ^ 64 ≡ mask_l (map (top 7) (zip2 at_least (replicate 32 128) xs)) =
    mask_l-mod _ 64 (omega (arith, length-map (zip2 at_least (replicate 32 128) xs) (top 7), length-zip2 at_least (replicate 32 128) xs (sym long))) in
    let same = small ∙ ap (λ n. mask_l (map (top 7) (zip2 at_least (replicate n 128) xs))) (sym long) in
    (λ e. (none_high xs).0 (sym same ∙ eqb-true _ _ e), λ h. eq-eqb _ _ (same ∙ (none_high xs).1 h))

-- ---- pairs of values

abbrev evens : List ℕ
evens = 0 ∷ 2 ∷ 4 ∷ 6 ∷ 8 ∷ 10 ∷ 12 ∷ 14 ∷ 16 ∷ 18 ∷ 20 ∷ 22 ∷ 24 ∷ 26 ∷ 28 ∷ 30 ∷ []

abbrev odds : List ℕ
odds = 1 ∷ 3 ∷ 5 ∷ 7 ∷ 9 ∷ 11 ∷ 13 ∷ 15 ∷ 17 ∷ 19 ∷ 21 ∷ 23 ∷ 25 ∷ 27 ∷ 29 ∷ 31 ∷ []

even_at : (i : ℕ) → i < 16 → get_or evens i 0 ≡ 2 * i
even_at i lt = eqb-true _ _ (agree_below_at (λ k. eqb (get_or evens k 0) (2 * k)) (λ k. true) 16 i refl lt)

odd_at : (i : ℕ) → i < 16 → get_or odds i 0 ≡ 2 * i + 1
odd_at i lt = eqb-true _ _ (agree_below_at (λ k. eqb (get_or odds k 0) (2 * k + 1)) (λ k. true) 16 i refl lt)

picked : (vs places : List ℕ) (i place : ℕ) → length vs ≡ 32 → i < length places → place < 32 → get_or places i 0 ≡ place
    → get_or (pick_l 0 (vs ++ vs) places) i 0 ≡ get_or vs place 0
picked vs places i place long lt within e =
    get_or-map (λ k. get_or (vs ++ vs) k 0) places i 0 0 lt ∙ ap (λ k. get_or (vs ++ vs) k 0) e ∙ get_or_append_left vs vs 0 place (omega (arith, long))

abbrev times : ℕ → ℕ → ℕ
times a b = a * b % 2 ^ 8

pub pair_at : (vs : List ℕ) → length vs ≡ 32 → (i : ℕ) → i < 16
    → get_or (zip2 plus (zip2 times (pick_l 0 (vs ++ vs) evens) (replicate 16 16)) (pick_l 0 (vs ++ vs) odds)) i 0 ≡ (get_or vs (2 * i) 0 * 16 + get_or vs (2 * i + 1) 0) % 256
pair_at vs long i lt =
    let high = picked vs evens i (2 * i) long lt (omega arith) (even_at i lt) in
    let low = picked vs odds i (2 * i + 1) long lt (omega arith) (odd_at i lt) in
    let sum = get_or-zip2 plus (zip2 times (pick_l 0 (vs ++ vs) evens) (replicate 16 16)) (pick_l 0 (vs ++ vs) odds) i 0 0 0 lt lt in
    let product = get_or-zip2 times (pick_l 0 (vs ++ vs) evens) (replicate 16 16) i 0 0 0 lt lt in
    let sixteen : get_or (replicate 16 16) i 0 ≡ 16 = get_or-replicate {A = ℕ} 16 i 16 0 lt in
    rw (sum, product, sixteen, high, low) (omega arith)
