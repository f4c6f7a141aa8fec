-- What the announcements of a message do to a list, one behind the other.
use Rattle.std.proofs.Common.{◌≡◌, ℕ, ◌+◌, ◌≤◌, Bool, true, false, cond, eqb, List, [], ◌∷◌, ◌++◌, length, Option, None, refl, sym, ◌∙◌, ap, arith, inl, inr, ⊎_elim}
use Rattle.std.specs.Prelude.{map, filter, not, is_some, ◌&&◌, nat_le}
use Rattle.std.proofs.lemmas.Bool.{cond_both, cond-true, true≢false, cases_Bool, le-leb}
use Rattle.nd_table.specs.declared.lasting.Lasting.{Lasting}
use Rattle.nd_table.specs.Ends.{end_time, is_before}
use Rattle.nd_table.specs.Listing.{open_at, end_in, renewed, without, told, announced, fits}
use Rattle.nd_table.specs.ListingKept.{announced_all, entered, Distinct, count_after}
use Rattle.nd_table.proofs.Finding.{Tells, end_in-renewed, end_in-without, end_in-push, end_in-filter-none, absent_of, as_long, fewer_filtered, one_longer, without_absent}
use Rattle.nd_table.proofs.Steps.{AllOpen, AllOpen-open}

module _ {K : Type 0} (same : K → K → Bool) (tells : Tells same) where
  pub open_all : (es : List (Lasting K)) (now : ℕ) → AllOpen same tells es now → open_at now es ≡ es
  open_all [] now h = refl
  open_all (e ∷ es) now h = cond-true (is_before now e.end) (e ∷ open_at now es) (open_at now es) h.0 ∙ ap (λ (xs : List (Lasting K)). e ∷ xs) (open_all es now h.1)

  -- what has ended doesn't change what an announcement leads to
  pub announced_open : (now : ℕ) (key : K) (w : ℕ) (es : List (Lasting K)) → announced same now key w (open_at now es) ≡ announced same now key w es
  announced_open now key w es = ap (λ xs. told same now key w xs) (open_all (open_at now es) now (AllOpen-open same tells now es))

  pub fits_open : (limit now : ℕ) (more : List (K × ℕ)) (es : List (Lasting K)) → fits same limit now more (open_at now es) ≡ fits same limit now more es
  fits_open limit now [] es = refl
  fits_open limit now ((key, w) ∷ more) es = ap (λ xs. nat_le (length xs) limit && fits same limit now more xs) (announced_open now key w es)

  -- whether a key stands after one more announcement
  pub told_has : (k key : K) (now w : ℕ) (es : List (Lasting K)) → is_some (end_in same k (told same now key w es)) ≡ cond (same key k) (not (eqb w 0)) (is_some (end_in same k es))
  told_has k key now w es =
      cond_both (eqb w 0) (without same key es) (cond (is_some (end_in same key es)) (map (renewed same key (end_time now w)) es) (es ++ record { key = key; end = end_time now w } ∷ []))
      (λ xs. is_some (end_in same k xs) ≡ cond (same key k) (not (eqb w 0)) (is_some (end_in same k es)))
      (λ z. grind (arith, tells, z, end_in-without same tells k key es))
      (λ n. cond_both (is_some (end_in same key es)) (map (renewed same key (end_time now w)) es) (es ++ record { key = key; end = end_time now w } ∷ [])
      (λ xs. is_some (end_in same k xs) ≡ cond (same key k) (not (eqb w 0)) (is_some (end_in same k es)))
      (λ h. grind (arith, tells, n, h, end_in-renewed same tells k key (end_time now w) es))
      (λ h. grind (arith, tells, n, h, end_in-push same tells k es (record { key = key; end = end_time now w }) (absent_of (end_in same key es) h))))

  -- what has ended doesn't change what a message enters
  pub entered_open : (now : ℕ) (more : List (K × ℕ)) (es : List (Lasting K)) → entered same now more (open_at now es) ≡ entered same now more es
  entered_open now [] es = refl
  entered_open now ((key, w) ∷ more) es =
      let last : List (Lasting K) → List K = λ xs. entered same now more (told same now key w xs) in
      ap (λ xs. cond (not (eqb w 0) && not (is_some (end_in same key xs))) (key ∷ last xs) (last xs)) (open_all (open_at now es) now (AllOpen-open same tells now es))

  pub Distinct-filter : (p : Lasting K → Bool) (es : List (Lasting K)) → Distinct same es → Distinct same (filter p es)
  Distinct-filter p [] d = tt
  Distinct-filter p (e ∷ es) d =
      let rest = Distinct-filter p es d.1 in
      cond_both (p e) (e ∷ filter p es) (filter p es) (Distinct same) (λ _. (end_in-filter-none same tells p e.key es d.0, rest)) (λ _. rest)

  Distinct-renewed : (key : K) (end : Option ℕ) (es : List (Lasting K)) → Distinct same es → Distinct same (map (renewed same key end) es)
  Distinct-renewed key end [] d = tt
  Distinct-renewed key end (e ∷ es) d = (grind (arith, tells, d.0, end_in-renewed same tells e.key key end es), Distinct-renewed key end es d.1)

  Distinct-push : (es : List (Lasting K)) (e : Lasting K) → Distinct same es → end_in same e.key es ≡ None → Distinct same (es ++ e ∷ [])
  Distinct-push [] e d h = (refl, tt)
  Distinct-push (x ∷ es) e d h = (grind (arith, tells, d.0, h, end_in-push same tells x.key es e), Distinct-push es e d.1 (grind (arith, tells, h)))

  Distinct-told : (now : ℕ) (key : K) (w : ℕ) (es : List (Lasting K)) → Distinct same es → Distinct same (told same now key w es)
  Distinct-told now key w es d =
      cond_both (eqb w 0) (without same key es) (cond (is_some (end_in same key es)) (map (renewed same key (end_time now w)) es) (es ++ record { key = key; end = end_time now w } ∷ [])) (Distinct same)
      (λ _. Distinct-filter _ es d)
      (λ _. cond_both (is_some (end_in same key es)) (map (renewed same key (end_time now w)) es) (es ++ record { key = key; end = end_time now w } ∷ []) (Distinct same)
      (λ _. Distinct-renewed key (end_time now w) es d)
      (λ h. Distinct-push es (record { key = key; end = end_time now w }) d (absent_of (end_in same key es) h)))

  pub Distinct-announced : (now : ℕ) (key : K) (w : ℕ) (es : List (Lasting K)) → Distinct same es → Distinct same (announced same now key w es)
  Distinct-announced now key w es d = Distinct-told now key w (open_at now es) (Distinct-filter _ es d)

  pub Distinct-all : (now : ℕ) (more : List (K × ℕ)) (es : List (Lasting K)) → Distinct same es → Distinct same (announced_all same now more es)
  Distinct-all now [] es d = d
  Distinct-all now ((key, w) ∷ more) es d = Distinct-all now more (announced same now key w es) (Distinct-announced now key w es d)

  -- how many entries there are after one more announcement
  pub one_shorter : (key : K) (es : List (Lasting K)) → Distinct same es → is_some (end_in same key es) ≡ true → length (without same key es) + 1 ≡ length es
  one_shorter key [] d h = absurd (true≢false (sym h))
  one_shorter key (e ∷ es) d h = ⊎_elim
      (λ s. let rest : without same key (e ∷ es) ≡ es = grind (arith, tells, s.0, without_absent same tells key es (ap (λ k. end_in same k es) (sym s.1) ∙ d.0)) in omega (arith, ap length rest))
      (λ n. let rest : without same key (e ∷ es) ≡ e ∷ without same key es = grind (arith, n.0) in
      let shorter = one_shorter key es d.1 (grind (arith, n.0, h)) in omega (arith, ap length rest, shorter))
      (tells e.key key)

  some_of : (key : K) (es : List (Lasting K)) → is_some (end_in same key es) ≡ true → 1 ≤ length es
  some_of key [] h = absurd (true≢false (sym h))
  some_of key (e ∷ es) h = omega arith

  pub counted_told : (now : ℕ) (key : K) (w : ℕ) (es : List (Lasting K)) → Distinct same es → count_after (length es) (is_some (end_in same key es)) (not (eqb w 0)) ≡ length (told same now key w es)
  counted_told now key w es d =
      cond_both (eqb w 0) (without same key es) (cond (is_some (end_in same key es)) (map (renewed same key (end_time now w)) es) (es ++ record { key = key; end = end_time now w } ∷ []))
      (λ xs. count_after (length es) (is_some (end_in same key es)) (not (eqb w 0)) ≡ length xs)
      (λ z. removed (is_some (end_in same key es)) refl z)
      (λ n. cond_both (is_some (end_in same key es)) (map (renewed same key (end_time now w)) es) (es ++ record { key = key; end = end_time now w } ∷ [])
      (λ xs. count_after (length es) (is_some (end_in same key es)) (not (eqb w 0)) ≡ length xs)
      (λ h. let long = as_long same tells key (end_time now w) es in grind (arith, n, h, long))
      (λ h. let long = one_longer es (record { key = key; end = end_time now w }) in grind (arith, n, h, long)))
    where
      removed : (b : Bool) → is_some (end_in same key es) ≡ b → eqb w 0 ≡ true → count_after (length es) (is_some (end_in same key es)) (not (eqb w 0)) ≡ length (without same key es)
      removed true h z = let shorter = one_shorter key es d h in let some = some_of key es h in grind (arith, z, h, shorter, some)
      removed false h z = let kept = ap length (without_absent same tells key es (absent_of (end_in same key es) h)) in grind (arith, z, h, kept)

-- a message that announces no more keys than there is room for fits
module _ {K : Type 0} (same : K → K → Bool) (tells : Tells same) where
  one_more : (now : ℕ) (key : K) (w : ℕ) (es : List (Lasting K)) → length (told same now key w es) ≤ length es + 1
  one_more now key w es =
      elim (cases_Bool (eqb w 0)) [
        | inl z ↦ let le = fewer_filtered (λ e. not (same e.key key)) es in rw z (omega (arith, le))
        | inr n ↦ elim (cases_Bool (is_some (end_in same key es))) [
          | inl t ↦ let l = as_long same tells key (end_time now w) es in rw (n, t) (omega (arith, l))
          | inr f ↦ let l = one_longer es (record { key = key; end = end_time now w }) in rw (n, f) (omega (arith, l))
        ]
      ]

  pub fits_few : (limit now : ℕ) (more : List (K × ℕ)) (es : List (Lasting K)) → length (open_at now es) + length more ≤ limit → fits same limit now more es ≡ true
  fits_few limit now [] es le = refl
  fits_few limit now ((key, w) ∷ more) es le =
      let longer : length (announced same now key w es) ≤ length (open_at now es) + 1 = one_more now key w (open_at now es) in
      let opened : length (open_at now (announced same now key w es)) ≤ length (announced same now key w es) = fewer_filtered (λ e. is_before now e.end) (announced same now key w es) in
      let first : nat_le (length (announced same now key w es)) limit ≡ true = le-leb _ _ (omega (arith, le, longer)) in
      let rest : fits same limit now more (announced same now key w es) ≡ true = fits_few limit now more (announced same now key w es) (omega (arith, le, longer, opened)) in
      rw (first, rest) refl

  -- the same if the entries that have ended are counted, too
  pub fits_beside : (limit now : ℕ) (more : List (K × ℕ)) (es : List (Lasting K)) → length es + length more ≤ limit → fits same limit now more es ≡ true
  fits_beside limit now more es le = fits_few limit now more es (omega (arith, le, fewer_filtered (λ e. is_before now e.end) es))
