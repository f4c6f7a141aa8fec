-- The block where a date belongs, and what becomes of all dates where it is changed.
use Rattle.std.proofs.Common.{◌≡◌, ℕ, ◌+◌, ◌-◌, ◌*◌, ◌/◌, ◌^◌, ◌<◌, ◌≤◌, true, eqb, ltb, List, [], ◌∷◌, ◌++◌, length, get_or, set, take, drop, Some, None, refl, sym, ◌∙◌, ap, subst, arith, suc, zero, inl, inr, length-append}
use Rattle.std.specs.Prelude.{max, slice_get}
use Rattle.std.proofs.lemmas.Bool.{cases_Bool, cond-true, cond-false, cases_lt, true≢false}
use Rattle.std.proofs.lemmas.Bool.Decides.{nat_tests}
use Rattle.std.proofs.lemmas.Option.{slice_get-get_or}
use Rattle.std.proofs.lemmas.List.{get_or_default, take-set, drop-set-lt, length-set}
use Rattle.nd_table.specs.Date.{Date}
use Rattle.nd_table.specs.declared.block.TheConstants.{BLOCK}
use Rattle.nd_table.specs.Keyed.{at_key, AllAbove, Rises}
use Rattle.nd_table.specs.KeyedKept.{place_of}
use Rattle.nd_table.specs.Dates.{rank, AllAddresses, is_date, has, without, put_date, first_moment}
use Rattle.nd_table.specs.Blocks.{all_of, AllShort, Filled, Kept, first_rank, AllBelow, BelongsAt}
use Rattle.nd_table.proofs.Keyed.{key_is, above_at, put_low, put_high, at_place, place_of-le}
use Rattle.nd_table.proofs.Searching.{place_above, place_below}
use Rattle.nd_table.proofs.Dates.{rank_is, none_behind, no_longer, length-put, length-changed}
use Rattle.nd_table.proofs.Joining.{enough, AllShort-take, AllShort-drop, AllShort-set, AllShort-at, Filled-take, Filled-drop, Filled-set}

-- parts of a list in order

above_front : (k : ℕ) (b cs : List Date) → AllAbove rank k (b ++ cs) → AllAbove rank k b
above_front k [] cs h = tt
above_front k (d ∷ b) cs h = (h.0, above_front k b cs h.1)

above_back : (k : ℕ) (b cs : List Date) → AllAbove rank k (b ++ cs) → AllAbove rank k cs
above_back k [] cs h = h
above_back k (d ∷ b) cs h = above_back k b cs h.1

rises_front : (b cs : List Date) → Rises rank (b ++ cs) → Rises rank b
rises_front [] cs h = tt
rises_front (d ∷ b) cs h = (above_front (rank d) b cs h.0, rises_front b cs h.1)

rises_back : (b cs : List Date) → Rises rank (b ++ cs) → Rises rank cs
rises_back [] cs h = h
rises_back (d ∷ b) cs h = rises_back b cs h.1

pub rises_at : (n : ℕ) (bs : List (List Date)) (d : List Date) → n < length bs → Rises rank (all_of bs) → Rises rank (get_or bs n d)
rises_at n [] d lt h = absurd (omega arith)
rises_at zero (b ∷ bs) d lt h = rises_front b (all_of bs) h
rises_at (suc n) (b ∷ bs) d lt h = rises_at n bs d (omega arith) (rises_back b (all_of bs) h)

addresses_front : (b cs : List Date) → AllAddresses (b ++ cs) → AllAddresses b
addresses_front [] cs h = tt
addresses_front (d ∷ b) cs h = (h.0, addresses_front b cs h.1)

addresses_back : (b cs : List Date) → AllAddresses (b ++ cs) → AllAddresses cs
addresses_back [] cs h = h
addresses_back (d ∷ b) cs h = addresses_back b cs h.1

pub addresses_at : (n : ℕ) (bs : List (List Date)) (d : List Date) → n < length bs → AllAddresses (all_of bs) → AllAddresses (get_or bs n d)
addresses_at n [] d lt h = absurd (omega arith)
addresses_at zero (b ∷ bs) d lt h = addresses_front b (all_of bs) h
addresses_at (suc n) (b ∷ bs) d lt h = addresses_at n bs d (omega arith) (addresses_back b (all_of bs) h)

absent_front : (k : ℕ) (b cs : List Date) → at_key rank k (b ++ cs) ≡ None → at_key rank k b ≡ None
absent_front k [] cs h = refl
absent_front k (d ∷ b) cs h = elim (cases_Bool (eqb (rank d) k)) [
  | inl here ↦ let e : Some d ≡ None = sym (cond-true (eqb (rank d) k) (Some d) (at_key rank k (b ++ cs)) here) ∙ h in absurd (cc)
  | inr other ↦ cond-false (eqb (rank d) k) (Some d) (at_key rank k b) other ∙ absent_front k b cs (sym (cond-false (eqb (rank d) k) (Some d) (at_key rank k (b ++ cs)) other) ∙ h)
]

absent_back : (k : ℕ) (b cs : List Date) → at_key rank k (b ++ cs) ≡ None → at_key rank k cs ≡ None
absent_back k [] cs h = h
absent_back k (d ∷ b) cs h = elim (cases_Bool (eqb (rank d) k)) [
  | inl here ↦ let e : Some d ≡ None = sym (cond-true (eqb (rank d) k) (Some d) (at_key rank k (b ++ cs)) here) ∙ h in absurd (cc)
  | inr other ↦ absent_back k b cs (sym (cond-false (eqb (rank d) k) (Some d) (at_key rank k (b ++ cs)) other) ∙ h)
]

pub absent_at : (k n : ℕ) (bs : List (List Date)) (d : List Date) → n < length bs → at_key rank k (all_of bs) ≡ None → at_key rank k (get_or bs n d) ≡ None
absent_at k n [] d lt h = absurd (omega arith)
absent_at k zero (b ∷ bs) d lt h = absent_front k b (all_of bs) h
absent_at k (suc n) (b ∷ bs) d lt h = absent_at k n bs d (omega arith) (absent_back k b (all_of bs) h)

-- a date that is put in before those of greater ranks, and behind those of lower ones

put_before : (d : Date) (b cs : List Date) → AllAbove rank (rank d) cs → put_date d (b ++ cs) ≡ put_date d b ++ cs
put_before d [] [] h = refl
put_before d [] (e ∷ cs) h = put_high rank d e cs (let lt : rank d < rank e = h.0 in grind (arith, nat_tests, lt))
put_before d (e ∷ b) cs h = elim (cases_Bool (ltb (rank e) (rank d))) [
  | inl low ↦ put_low rank d e (b ++ cs) low ∙ (ap (λ (l : List Date). e ∷ l) (put_before d b cs h) ∙ ap (λ (l : List Date). l ++ cs) (sym (put_low rank d e b low)))
  | inr high ↦ put_high rank d e (b ++ cs) high ∙ ap (λ (l : List Date). l ++ cs) (sym (put_high rank d e b high))
]

put_behind : (d : Date) (b cs : List Date) → AllBelow (rank d) b → put_date d (b ++ cs) ≡ b ++ put_date d cs
put_behind d [] cs h = refl
put_behind d (e ∷ b) cs h =
    let lt : rank e < rank d = h.0 in
    put_low rank d e (b ++ cs) (grind (arith, nat_tests, lt)) ∙ ap (λ (l : List Date). e ∷ l) (put_behind d b cs h.1)

pub put_all : (n : ℕ) (d : Date) (bs : List (List Date)) (e : List Date) → BelongsAt (rank d) bs n → all_of (set bs n (put_date d (get_or bs n e))) ≡ put_date d (all_of bs)
put_all n d [] e h = absurd h
put_all zero d (b ∷ bs) e h = sym (put_before d b (all_of bs) h)
put_all (suc n) d (b ∷ bs) e h = ap (λ (l : List Date). b ++ l) (put_all n d bs e h.1) ∙ sym (put_behind d b (all_of bs) h.0)

-- and one that is taken out

without_above : (m k : ℕ) (cs : List Date) → AllAbove rank (m * 2 ^ 128 + k) cs → without m k cs ≡ cs
without_above m k [] h = refl
without_above m k (d ∷ cs) h = elim (cases_Bool (is_date m k d)) [
  | inl here ↦ absurd (omega (arith, h.0, rank_is d m k here))
  | inr other ↦ rw other (ap (λ (l : List Date). d ∷ l) (without_above m k cs h.1))
]

without_before : (m k : ℕ) (b cs : List Date) → AllAbove rank (m * 2 ^ 128 + k) cs → without m k (b ++ cs) ≡ without m k b ++ cs
without_before m k [] cs h = without_above m k cs h
without_before m k (d ∷ b) cs h = elim (cases_Bool (is_date m k d)) [
  | inl here ↦ rw here refl
  | inr other ↦ rw other (ap (λ (l : List Date). d ∷ l) (without_before m k b cs h))
]

without_behind : (m k : ℕ) (b cs : List Date) → AllBelow (m * 2 ^ 128 + k) b → without m k (b ++ cs) ≡ b ++ without m k cs
without_behind m k [] cs h = refl
without_behind m k (d ∷ b) cs h = elim (cases_Bool (is_date m k d)) [
  | inl here ↦ absurd (omega (arith, h.0, rank_is d m k here))
  | inr other ↦ rw other (ap (λ (l : List Date). d ∷ l) (without_behind m k b cs h.1))
]

pub without_all : (n m k : ℕ) (bs : List (List Date)) (e : List Date) → BelongsAt (m * 2 ^ 128 + k) bs n → all_of (set bs n (without m k (get_or bs n e))) ≡ without m k (all_of bs)
without_all n m k [] e h = absurd h
without_all zero m k (b ∷ bs) e h = sym (without_before m k b (all_of bs) h)
without_all (suc n) m k (b ∷ bs) e h = ap (λ (l : List Date). b ++ l) (without_all n m k bs e h.1) ∙ sym (without_behind m k b (all_of bs) h.0)

there_before : (m k : ℕ) (b cs : List Date) → AllAbove rank (m * 2 ^ 128 + k) cs → has m k (b ++ cs) ≡ true → has m k b ≡ true
there_before m k [] cs h is = absurd (true≢false (sym is ∙ none_behind m k (m * 2 ^ 128 + k) cs refl h))
there_before m k (d ∷ b) cs h is = elim (cases_Bool (is_date m k d)) [
  | inl here ↦ rw here refl
  | inr other ↦ rw other (there_before m k b cs h (rw other at is))
]

there_behind : (m k : ℕ) (b cs : List Date) → AllBelow (m * 2 ^ 128 + k) b → has m k (b ++ cs) ≡ true → has m k cs ≡ true
there_behind m k [] cs h is = is
there_behind m k (d ∷ b) cs h is = elim (cases_Bool (is_date m k d)) [
  | inl here ↦ absurd (omega (arith, h.0, rank_is d m k here))
  | inr other ↦ there_behind m k b cs h.1 (rw other at is)
]

there_at : (n m k : ℕ) (bs : List (List Date)) (e : List Date) → BelongsAt (m * 2 ^ 128 + k) bs n → has m k (all_of bs) ≡ true → has m k (get_or bs n e) ≡ true
there_at n m k [] e h is = absurd h
there_at zero m k (b ∷ bs) e h is = there_before m k b (all_of bs) h is
there_at (suc n) m k (b ∷ bs) e h is = there_at n m k bs e h.1 (there_behind m k b (all_of bs) h.0 is)

-- and one that is changed to another of the same block
change_all : (n m k : ℕ) (d : Date) (bs : List (List Date)) (e : List Date) → BelongsAt (m * 2 ^ 128 + k) bs n → BelongsAt (rank d) bs n
    → all_of (set bs n (put_date d (without m k (get_or bs n e)))) ≡ put_date d (without m k (all_of bs))
change_all n m k d [] e was is = absurd was
change_all zero m k d (b ∷ bs) e was is =
    sym (ap (put_date d) (without_before m k b (all_of bs) was) ∙ put_before d (without m k b) (all_of bs) is)
change_all (suc n) m k d (b ∷ bs) e was is =
    ap (λ (l : List Date). b ++ l) (change_all n m k d bs e was.1 is.1)
    ∙ sym (ap (put_date d) (without_behind m k b (all_of bs) was.0) ∙ put_behind d b (without m k (all_of bs)) is.0)

-- blocks behind the first are never empty

abbrev NoneEmpty : List (List Date) → Type 0
NoneEmpty [] = Unit {0}
NoneEmpty (b ∷ bs) = (0 < length b) × NoneEmpty bs

none_empty : (b : List Date) (bs : List (List Date)) → AllShort (b ∷ bs) → Filled (b ∷ bs) → NoneEmpty bs
none_empty b [] s f = tt
none_empty b (c ∷ bs) s f = (omega (arith, s.0, f.0), none_empty c bs s.1 f.1)

first_above : (k : ℕ) (bs : List (List Date)) → NoneEmpty bs → AllAbove rank k (all_of bs) → AllAbove first_rank k bs
first_above k [] s h = tt
first_above k ([] ∷ bs) s h = absurd (omega (arith, s.0))
first_above k ((d ∷ b) ∷ bs) s h = (h.0, first_above k bs s.1 (above_back k b (all_of bs) h.1))

rises_first : (bs : List (List Date)) → NoneEmpty bs → Rises rank (all_of bs) → Rises first_rank bs
rises_first [] s h = tt
rises_first ([] ∷ bs) s h = absurd (omega (arith, s.0))
rises_first ((d ∷ b) ∷ bs) s h = (first_above (rank d) bs s.1 (above_back (rank d) b (all_of bs) h.0), rises_first bs s.1 (rises_back b (all_of bs) h.1))

pub rises_blocks : (bs : List (List Date)) → Kept bs → Rises rank (all_of bs) → Rises first_rank bs
rises_blocks [] kept h = tt
rises_blocks ([] ∷ []) kept h = (tt, tt)
rises_blocks ([] ∷ c ∷ bs) kept h = absurd (omega (arith, kept.filled.0, kept.short.1.0))
rises_blocks ((d ∷ b) ∷ bs) kept h =
    rises_first ((d ∷ b) ∷ bs) (omega arith, none_empty (d ∷ b) bs kept.short kept.filled) h

-- the first of all dates is in the first block
pub front_moment : (bs : List (List Date)) (b : List Date) → Kept bs → b ≡ get_or bs 0 b → first_moment b ≡ first_moment (all_of bs)
front_moment [] b kept is = absurd (omega (arith, kept.some))
front_moment ([] ∷ []) b kept is = ap first_moment is
front_moment ([] ∷ c ∷ bs) b kept is = absurd (omega (arith, kept.filled.0, kept.short.1.0))
front_moment ((d ∷ c) ∷ bs) b kept is = ap first_moment is

pub front_first : (bs : List (List Date)) (b : List Date) → Kept bs → b ≡ get_or bs 0 b → slice_get b 0 ≡ slice_get (all_of bs) 0
front_first [] b kept is = absurd (omega (arith, kept.some))
front_first ([] ∷ []) b kept is = ap (λ (l : List Date). slice_get l 0) is
front_first ([] ∷ c ∷ bs) b kept is = absurd (omega (arith, kept.filled.0, kept.short.1.0))
front_first ((d ∷ c) ∷ bs) b kept is = ap (λ (l : List Date). slice_get l 0) is

-- what a search for the first dates has found

AllAbove-lower : (k low : ℕ) (ds : List Date) → k ≤ low → AllAbove rank low ds → AllAbove rank k ds
AllAbove-lower k low [] le h = tt
AllAbove-lower k low (d ∷ ds) le h = (omega (arith, h.0), AllAbove-lower k low ds le h.1)

-- all dates are greater where the first one is
all_above : (k : ℕ) (bs : List (List Date)) → NoneEmpty bs → Rises rank (all_of bs) → (0 < length bs → k < first_rank (get_or bs 0 [])) → AllAbove rank k (all_of bs)
all_above k [] s r h = tt
all_above k ([] ∷ bs) s r h = absurd (omega (arith, s.0))
all_above k ((d ∷ b) ∷ bs) s r h =
    let lt : k < rank d = h (omega arith) in
    (lt, AllAbove-lower k (rank d) (b ++ all_of bs) (omega arith) r.0)

-- the first date of a block is greater than what all are greater than
above_first : (k n : ℕ) (bs : List (List Date)) (e : List Date) → NoneEmpty bs → n < length bs → AllAbove rank k (all_of bs) → k < first_rank (get_or bs n e)
above_first k n [] e s lt h = absurd (omega arith)
above_first k zero ([] ∷ bs) e s lt h = absurd (omega (arith, s.0))
above_first k zero ((d ∷ b) ∷ bs) e s lt h = h.0
above_first k (suc n) (b ∷ bs) e s lt h = above_first k n bs e s.1 (omega arith) (above_back k b (all_of bs) h)

all_below : (k n : ℕ) (b : List Date) (bs : List (List Date)) (e : List Date) → NoneEmpty bs → n < length bs → Rises rank (b ++ all_of bs) → first_rank (get_or bs n e) ≤ k → AllBelow k b
all_below k n [] bs e s lt r le = tt
all_below k n (d ∷ b) bs e s lt r le =
    let under : rank d < first_rank (get_or bs n e) = above_first (rank d) n bs e s lt (above_back (rank d) b (all_of bs) r.0) in
    (omega arith, all_below k n b bs e s lt r.1 le)

-- the last block whose first date isn't greater is the one
belongs : (k n : ℕ) (b : List Date) (bs : List (List Date)) → NoneEmpty bs → Rises rank (b ++ all_of bs) → n ≤ length bs
    → (0 < n → first_rank (get_or (b ∷ bs) n []) ≤ k) → (n < length bs → k < first_rank (get_or bs n [])) → BelongsAt k (b ∷ bs) n
belongs k zero b bs s r le low high = all_above k bs s (rises_back b (all_of bs) r) high
belongs k (suc n) b [] s r le low high = absurd (omega arith)
belongs k (suc n) b (c ∷ bs) s r le low high =
    (all_below k n b (c ∷ bs) [] s (omega arith) r (low (omega arith)), belongs k n c bs s.1 (rises_back b (c ++ all_of bs) r) (omega arith) (λ _. low (omega arith)) (λ within. high (omega arith)))

pub belongs_at : (k n : ℕ) (bs : List (List Date)) → Kept bs → Rises rank (all_of bs) → n < length bs
    → (0 < n → first_rank (get_or bs n []) ≤ k) → (suc n < length bs → k < first_rank (get_or bs (suc n) [])) → BelongsAt k bs n
belongs_at k n [] kept r lt low high = absurd (omega arith)
belongs_at k n (b ∷ bs) kept r lt low high = belongs k n b bs (none_empty b bs kept.short kept.filled) r (omega arith) low (λ within. high (omega arith))

next_above : {N : Type 0} (key : N → ℕ) (n : ℕ) (ns : List N) (d : N) → Rises key ns → suc n < length ns → key (get_or ns n d) < key (get_or ns (suc n) d)
next_above key n [] d r lt = absurd (omega arith)
next_above key zero (m ∷ ns) d r lt = above_at key (key m) ns 0 d r.0 (omega arith)
next_above key (suc n) (m ∷ ns) d r lt = next_above key n ns d r.1 (omega arith)

-- the only block is the one
pub belongs_alone : (k : ℕ) (bs : List (List Date)) → length bs ≡ 1 → BelongsAt k bs 0
belongs_alone k [] one = absurd (omega arith)
belongs_alone k (b ∷ []) one = tt
belongs_alone k (b ∷ c ∷ bs) one = absurd (omega arith)

-- the last block is the one, if it is the only one or its first date isn't greater
pub belongs_last : (k n : ℕ) (bs : List (List Date)) → Kept bs → Rises rank (all_of bs) → suc n ≡ length bs → (0 < n → first_rank (get_or bs n []) ≤ k) → BelongsAt k bs n
belongs_last k n bs kept r last low = belongs_at k n bs kept r (omega arith) low (λ within. absurd (omega arith))

-- the block whose first date is found
pub belongs_found : (k n : ℕ) (bs : List (List Date)) → Kept bs → Rises rank (all_of bs) → n < length bs → at_key first_rank k bs ≡ slice_get bs n → BelongsAt k bs n
belongs_found k n bs kept r lt found =
    let is : first_rank (get_or bs n []) ≡ k = key_is first_rank k bs (get_or bs n []) (found ∙ slice_get-get_or bs n [] lt) in
    belongs_at k n bs kept r lt (λ _. omega (arith, is)) (λ within. omega (arith, is, next_above first_rank n bs [] (rises_blocks bs kept r) within))

-- or the one before the place where it would be
pub belongs_before : (k n place : ℕ) (bs : List (List Date)) → Kept bs → Rises rank (all_of bs) → place ≡ place_of first_rank k bs → at_key first_rank k bs ≡ None → n ≡ place - 1 → BelongsAt k bs n
belongs_before k n place bs kept r at absent is =
    belongs_at k n bs kept r (omega (arith, kept.some, place_of-le first_rank k bs)) low high
  where
    low : 0 < n → first_rank (get_or bs n []) ≤ k
    low some = elim (cases_lt k (first_rank (get_or bs n []))) [
      | inl above ↦ absurd (omega (arith, place_below first_rank k bs n [] (omega (arith, place_of-le first_rank k bs)) above))
      | inr under ↦ under
    ]

    differ : (x : List Date) → suc n < length bs → x ≡ get_or bs (suc n) x → first_rank x ≡ k → ⊥
    differ x within here same =
        let e : Some x ≡ None = sym (at_place first_rank bs (suc n) x (rises_blocks bs kept r) within here) ∙ (ap (λ (j : ℕ). at_key first_rank j bs) same ∙ absent) in
        absurd (cc)

    high : suc n < length bs → k < first_rank (get_or bs (suc n) [])
    high within = elim (cases_lt k (first_rank (get_or bs (suc n) []))) [
      | inl above ↦ above
      | inr under ↦ elim (cases_lt (first_rank (get_or bs (suc n) [])) k) [
        | inl lower ↦ absurd (omega (arith, place_above first_rank k bs (suc n) [] (rises_blocks bs kept r) within lower))
        | inr over ↦ absurd (differ (get_or bs (suc n) []) within (get_or_default bs (suc n) [] (get_or bs (suc n) []) within) (omega (arith, under, over)))
      ]
    ]

-- all dates are as many as those of one block at least
within : (n : ℕ) (bs : List (List Date)) (x : List Date) → n < length bs → length x ≤ length (all_of (set bs n x))
within n [] x lt = absurd (omega arith)
within zero (b ∷ bs) x lt = omega (arith, length-append x (all_of bs))
within (suc n) (b ∷ bs) x lt = omega (arith, within n bs x (omega arith), length-append b (all_of (set bs n x)))

-- one block, as it is found, and the blocks once it has been changed
module _ (at : ℕ) (bs inside : List (List Date)) (b : List Date) (lt : at < length bs) (same : inside ≡ bs) (is : b ≡ get_or inside at b) where
  in_place : get_or bs at b ≡ b
  in_place = sym (is ∙ ap (λ (l : List (List Date)). get_or l at b) same)

  pub block_order : Rises rank (all_of bs) → Rises rank b
  block_order r = subst (Rises rank) in_place (rises_at at bs b lt r)

  pub block_addresses : AllAddresses (all_of bs) → AllAddresses b
  block_addresses a = subst AllAddresses in_place (addresses_at at bs b lt a)

  pub block_absent : (k : ℕ) → at_key rank k (all_of bs) ≡ None → at_key rank k b ≡ None
  block_absent k none = subst (λ (l : List Date). at_key rank k l ≡ None) in_place (absent_at k at bs b lt none)

  pub block_there : (m k : ℕ) → BelongsAt (m * 2 ^ 128 + k) bs at → has m k (all_of bs) ≡ true → has m k b ≡ true
  block_there m k here there = subst (λ (l : List Date). has m k l ≡ true) in_place (there_at at m k bs b here there)

  pub block_short : AllShort bs → length b < BLOCK
  block_short short = subst (λ (l : List Date). length l < BLOCK) in_place (AllShort-at at bs b lt short)

  module _ (x : List Date) where
    set_is : set inside at x ≡ set bs at x
    set_is = ap (λ (l : List (List Date)). set l at x) same

    pub short_before : AllShort bs → AllShort (take at (set inside at x))
    short_before h = subst AllShort (sym (ap (take at) set_is ∙ take-set bs at x)) (AllShort-take at bs h)

    pub short_behind : AllShort bs → AllShort (drop (at + 1) (set inside at x))
    short_behind h = subst AllShort (sym (ap (drop (at + 1)) set_is ∙ drop-set-lt (at + 1) bs at x (omega arith))) (AllShort-drop (at + 1) bs h)

    pub filled_before : Filled bs → Filled (take at (set inside at x))
    filled_before h = subst Filled (sym (ap (take at) set_is ∙ take-set bs at x)) (Filled-take at bs h)

    pub filled_behind : (n : ℕ) → at < n → Filled bs → Filled (drop n (set inside at x))
    filled_behind n above h = subst Filled (sym (ap (drop n) set_is ∙ drop-set-lt n bs at x above)) (Filled-drop n bs h)

    -- a date has been put in
    module _ (d : Date) (put : x ≡ put_date d b) where
      pub longer : length x ≡ length b + 1
      longer = ap (length {A = Date}) put ∙ length-put d b

      pub put_dates : BelongsAt (rank d) bs at → all_of (set inside at x) ≡ put_date d (all_of bs)
      put_dates here =
          ap all_of set_is
          ∙ (ap (λ (l : List Date). all_of (set bs at l)) (put ∙ ap (put_date d) (sym in_place)) ∙ put_all at d bs b here)

      put_filled : Filled bs → Filled (set bs at x)
      put_filled h = Filled-set at bs x b (omega (arith, longer, ap (length {A = Date}) in_place)) h

      -- a block is to spare, however full they are
      pub put_spare : (spare : ℕ) → BelongsAt (rank d) bs at → Filled bs → length x ≡ BLOCK → length (all_of bs) + 1 ≤ max (BLOCK - 1) (BLOCK * ((length bs + spare) / 2)) → 0 < spare
      put_spare spare here h full room =
          let e : length (all_of (set bs at x)) ≡ length (all_of bs) + 1 = ap (length {A = Date}) (ap all_of (sym set_is) ∙ put_dates here) ∙ length-put d (all_of bs) in
          omega (arith, room, e, full, within at bs x lt, enough bs h)

      pub put_kept : length x < BLOCK → Kept bs → Kept (set inside at x)
      put_kept short kept = subst Kept (sym set_is) (record {
        some = omega (arith, kept.some, length-set bs at x);
        short = AllShort-set at bs x short kept.short;
        filled = put_filled kept.filled;
      })

    -- a date has been taken out
    module _ (m k : ℕ) (taken : x ≡ without m k b) where
      pub taken_dates : BelongsAt (m * 2 ^ 128 + k) bs at → all_of (set inside at x) ≡ without m k (all_of bs)
      taken_dates here =
          ap all_of set_is
          ∙ (ap (λ (l : List Date). all_of (set bs at l)) (taken ∙ ap (without m k) (sym in_place)) ∙ without_all at m k bs b here)

      pub taken_short : AllShort bs → AllShort (set inside at x)
      taken_short h = subst AllShort (sym set_is) (AllShort-set at bs x (omega (arith, ap (length {A = Date}) taken, no_longer m k b, block_short h)) h)

    -- a date has been changed
    module _ (m k : ℕ) (d : Date) (changed : x ≡ put_date d (without m k b)) where
      pub changed_dates : BelongsAt (m * 2 ^ 128 + k) bs at → BelongsAt (rank d) bs at → all_of (set inside at x) ≡ put_date d (without m k (all_of bs))
      changed_dates was here =
          ap all_of set_is
          ∙ (ap (λ (l : List Date). all_of (set bs at l)) (changed ∙ ap (λ (l : List Date). put_date d (without m k l)) (sym in_place)) ∙ change_all at m k d bs b was here)

      as_long : has m k b ≡ true → length x ≡ length b
      as_long there = ap (length {A = Date}) changed ∙ length-changed m k d b there

      pub changed_kept : has m k b ≡ true → Kept bs → Kept (set inside at x)
      changed_kept there kept = subst Kept (sym set_is) (record {
        some = omega (arith, kept.some, length-set bs at x);
        short = AllShort-set at bs x (omega (arith, as_long there, block_short kept.short)) kept.short;
        filled = Filled-set at bs x b (omega (arith, as_long there, ap (length {A = Date}) in_place)) kept.filled;
      })
