-- Blocks of which one is changed, split in two, or joined with the next.
use Rattle.std.proofs.Common.{◌≡◌, ℕ, ◌+◌, ◌-◌, ◌*◌, ◌/◌, ◌<◌, ◌≤◌, List, [], ◌∷◌, ◌++◌, length, get_or, set, take, drop, refl, sym, ◌∙◌, ap, subst, arith, suc, zero, append_assoc, length-append, add-one}
use Rattle.std.specs.List.{insert, remove}
use Rattle.nd_table.specs.Date.{Date}
use Rattle.nd_table.specs.declared.block.TheConstants.{BLOCK}
use Rattle.nd_table.specs.Blocks.{all_of, AllShort, FillsWith, Filled}

-- a longer block fills as well
fills_more : (b c : List Date) (bs : List (List Date)) → length b ≤ length c → FillsWith b bs → FillsWith c bs
fills_more b c [] le h = tt
fills_more b c (d ∷ bs) le h = omega (arith, h)

-- each two blocks have the dates of one at least
pub enough : (bs : List (List Date)) → Filled bs → BLOCK * (length bs / 2) ≤ length (all_of bs)
enough [] h = omega arith
enough (b ∷ []) h = omega arith
enough (b ∷ c ∷ bs) h =
    let rest : BLOCK * (length bs / 2) ≤ length (all_of bs) = enough bs h.1.1 in
    let two : BLOCK ≤ length b + length c = h.0 in
    omega (arith, rest, two, length-append b (c ++ all_of bs), length-append c (all_of bs))

pub AllShort-take : (n : ℕ) (bs : List (List Date)) → AllShort bs → AllShort (take n bs)
AllShort-take zero bs h = tt
AllShort-take (suc n) [] h = tt
AllShort-take (suc n) (b ∷ bs) h = (h.0, AllShort-take n bs h.1)

pub AllShort-drop : (n : ℕ) (bs : List (List Date)) → AllShort bs → AllShort (drop n bs)
AllShort-drop zero bs h = h
AllShort-drop (suc n) [] h = tt
AllShort-drop (suc n) (b ∷ bs) h = AllShort-drop n bs h.1

pub AllShort-set : (n : ℕ) (bs : List (List Date)) (x : List Date) → length x < BLOCK → AllShort bs → AllShort (set bs n x)
AllShort-set n [] x lt h = tt
AllShort-set zero (b ∷ bs) x lt h = (lt, h.1)
AllShort-set (suc n) (b ∷ bs) x lt h = (h.0, AllShort-set n bs x lt h.1)

pub AllShort-at : (n : ℕ) (bs : List (List Date)) (d : List Date) → n < length bs → AllShort bs → length (get_or bs n d) < BLOCK
AllShort-at n [] d lt h = absurd (omega arith)
AllShort-at zero (b ∷ bs) d lt h = h.0
AllShort-at (suc n) (b ∷ bs) d lt h = AllShort-at n bs d (omega arith) h.1

fills-take : (n : ℕ) (b : List Date) (bs : List (List Date)) → FillsWith b bs → FillsWith b (take n bs)
fills-take zero b bs h = tt
fills-take (suc n) b [] h = tt
fills-take (suc n) b (c ∷ bs) h = h

pub Filled-take : (n : ℕ) (bs : List (List Date)) → Filled bs → Filled (take n bs)
Filled-take zero bs h = tt
Filled-take (suc n) [] h = tt
Filled-take (suc n) (b ∷ bs) h = (fills-take n b bs h.0, Filled-take n bs h.1)

pub Filled-drop : (n : ℕ) (bs : List (List Date)) → Filled bs → Filled (drop n bs)
Filled-drop zero bs h = h
Filled-drop (suc n) [] h = tt
Filled-drop (suc n) (b ∷ bs) h = Filled-drop n bs h.1

fills-set : (n : ℕ) (b : List Date) (bs : List (List Date)) (x d : List Date) → length (get_or bs n d) ≤ length x → FillsWith b bs → FillsWith b (set bs n x)
fills-set n b [] x d le h = tt
fills-set zero b (c ∷ bs) x d le h = omega (arith, h)
fills-set (suc n) b (c ∷ bs) x d le h = h

-- a block that grows
pub Filled-set : (n : ℕ) (bs : List (List Date)) (x d : List Date) → length (get_or bs n d) ≤ length x → Filled bs → Filled (set bs n x)
Filled-set n [] x d le h = tt
Filled-set zero (b ∷ bs) x d le h = (fills_more b x bs le h.0, h.1)
Filled-set (suc n) (b ∷ bs) x d le h = (fills-set n b bs x d le h.0, Filled-set n bs x d le h.1)

fills_front : (n : ℕ) (b : List Date) (bs : List (List Date)) → FillsWith b (take (suc n) bs) → FillsWith b bs
fills_front n b [] h = tt
fills_front n b (c ∷ bs) h = h

-- two parts with one block in common make a whole
filled_both : (n : ℕ) (bs : List (List Date)) → Filled (take (suc n) bs) → Filled (drop n bs) → Filled bs
filled_both zero bs h back = back
filled_both (suc n) [] h back = tt
filled_both (suc n) (b ∷ bs) h back = (fills_front n b bs h.0, filled_both n bs h.1 back)

-- the same, where the block in common is the one before a place
pub filled_around : (at before : ℕ) (bs : List (List Date)) → before ≡ at - 1 → Filled (take at bs) → Filled (drop before bs) → Filled bs
filled_around zero before bs is h back = subst (λ (n : ℕ). Filled (drop n bs)) (let e : before ≡ 0 = omega arith in e) back
filled_around (suc at) before bs is h back = filled_both at bs h (subst (λ (n : ℕ). Filled (drop n bs)) (let e : before ≡ at = omega arith in e) back)

-- the last block has none behind it
pub filled_last : (n : ℕ) (bs : List (List Date)) → length bs ≤ suc n → Filled (drop n bs)
filled_last n [] le = Filled-drop n [] tt
filled_last zero (b ∷ []) le = (tt, tt)
filled_last zero (b ∷ c ∷ bs) le = absurd (omega arith)
filled_last (suc n) (b ∷ bs) le = filled_last n bs (omega arith)

-- the blocks of which one has been joined with the next
abbrev joined : ℕ → List (List Date) → List (List Date)
joined n [] = []
joined zero (b ∷ []) = b ∷ []
joined zero (b ∷ c ∷ bs) = (b ++ c) ∷ bs
joined (suc n) (b ∷ bs) = b ∷ joined n bs

join_is : (n : ℕ) (bs : List (List Date)) (d e : List Date) → suc n < length bs → set (remove bs (suc n)) n (get_or (remove bs (suc n)) n d ++ get_or bs (suc n) e) ≡ joined n bs
join_is n [] d e lt = absurd (omega arith)
join_is zero (b ∷ []) d e lt = absurd (omega arith)
join_is zero (b ∷ c ∷ bs) d e lt = refl
join_is (suc n) (b ∷ bs) d e lt = ap (λ (l : List (List Date)). b ∷ l) (join_is n bs d e (omega arith))

all-joined : (n : ℕ) (bs : List (List Date)) → all_of (joined n bs) ≡ all_of bs
all-joined n [] = refl
all-joined zero (b ∷ []) = refl
all-joined zero (b ∷ c ∷ bs) = append_assoc b c (all_of bs)
all-joined (suc n) (b ∷ bs) = ap (λ (l : List Date). b ++ l) (all-joined n bs)

AllShort-joined : (n : ℕ) (bs : List (List Date)) (d e : List Date) → suc n < length bs → length (get_or bs n d) + length (get_or bs (suc n) e) < BLOCK → AllShort bs → AllShort (joined n bs)
AllShort-joined n [] d e lt short h = tt
AllShort-joined zero (b ∷ []) d e lt short h = h
AllShort-joined zero (b ∷ c ∷ bs) d e lt short h = (omega (arith, short, length-append b c), h.1.1)
AllShort-joined (suc n) (b ∷ bs) d e lt short h = (h.0, AllShort-joined n bs d e (omega arith) short h.1)

filled-joined : (n : ℕ) (bs : List (List Date)) → Filled (drop (suc n) bs) → Filled (drop n (joined n bs))
filled-joined n [] h = Filled-drop n [] tt
filled-joined zero (b ∷ []) h = (tt, tt)
filled-joined zero (b ∷ c ∷ bs) h = (fills_more c (b ++ c) bs (omega (arith, length-append b c)) h.0, h.1)
filled-joined (suc n) (b ∷ bs) h = filled-joined n bs h

fills-joined : (m n : ℕ) (b : List Date) (bs : List (List Date)) → FillsWith b (take m bs) → FillsWith b (take m (joined n bs))
fills-joined zero n b bs h = tt
fills-joined (suc m) n b [] h = tt
fills-joined (suc m) zero b (c ∷ []) h = h
fills-joined (suc m) zero b (c ∷ d ∷ bs) h = omega (arith, h, length-append c d)
fills-joined (suc m) (suc n) b (c ∷ bs) h = h

before-joined : (m n : ℕ) (bs : List (List Date)) → m ≤ suc n → Filled (take m bs) → Filled (take m (joined n bs))
before-joined zero n bs le h = tt
before-joined (suc m) n [] le h = tt
before-joined (suc m) zero (b ∷ []) le h = h
before-joined (suc zero) zero (b ∷ c ∷ bs) le h = (tt, tt)
before-joined (suc (suc m)) zero (b ∷ c ∷ bs) le h = absurd (omega arith)
before-joined (suc m) (suc n) (b ∷ bs) le h = (fills-joined m n b bs h.0, before-joined m n bs (omega arith) h.1)

-- two blocks at their places, as a look at them gives them
module _ (n next : ℕ) (bs inside : List (List Date)) (x y : List Date) (is : next ≡ suc n) (lt : next < length bs) (same : inside ≡ bs) (ex : x ≡ get_or inside n x) (ey : y ≡ get_or inside next y) where
  lengths : length (get_or bs n x) + length (get_or bs (suc n) y) ≡ length x + length y
  lengths =
      let e : get_or bs n x ≡ x = cc in
      let f : get_or bs (suc n) y ≡ y = cc in
      omega (arith, ap (length {A = Date}) e, ap (length {A = Date}) f)

  pub sizes : AllShort bs → (length x < BLOCK) × (length y < BLOCK)
  sizes h = (
    subst (λ (l : List Date). length l < BLOCK) (let e : get_or bs n x ≡ x = cc in e) (AllShort-at n bs x (omega arith) h),
    subst (λ (l : List Date). length l < BLOCK) (let e : get_or bs next y ≡ y = cc in e) (AllShort-at next bs y lt h),
  )

  behind_it : Filled (drop next bs) → Filled (drop (suc n) bs)
  behind_it h = subst (λ (m : ℕ). Filled (drop m bs)) is h

  -- they are joined
  module _ (removed : List (List Date)) (b c z : List Date) (gone : removed ≡ remove inside next) (eb : b ≡ get_or removed n b) (ec : c ≡ get_or inside next c) (ez : z ≡ b ++ c) where
    shape : set removed n z ≡ joined n bs
    shape = let e = join_is n bs b c (omega arith) in cc

    pub dates_same : all_of (set removed n z) ≡ all_of bs
    dates_same = ap all_of shape ∙ all-joined n bs

    pub short_still : length x + length y < BLOCK → AllShort bs → AllShort (set removed n z)
    short_still less h = subst AllShort (sym shape) (AllShort-joined n bs x y (omega arith) (omega (arith, lengths)) h)

    pub filled_now : Filled (drop next bs) → Filled (drop n (set removed n z))
    filled_now h = subst (λ (l : List (List Date)). Filled (drop n l)) (sym shape) (filled-joined n bs (behind_it h))

    pub filled_before : (m : ℕ) → m ≤ next → Filled (take m bs) → Filled (take m (set removed n z))
    filled_before m le h = subst (λ (l : List (List Date)). Filled (take m l)) (sym shape) (before-joined m n bs (omega arith) h)

-- the blocks with two in place of one
abbrev parted : ℕ → List Date → List Date → List (List Date) → List (List Date)
parted n x y [] = []
parted zero x y (b ∷ bs) = x ∷ y ∷ bs
parted (suc n) x y (b ∷ bs) = b ∷ parted n x y bs

part_is : (n : ℕ) (x y : List Date) (bs : List (List Date)) → n < length bs → insert (set bs n x) (suc n) y ≡ parted n x y bs
part_is n x y [] lt = absurd (omega arith)
part_is zero x y (b ∷ bs) lt = refl
part_is (suc n) x y (b ∷ bs) lt = ap (λ (l : List (List Date)). b ∷ l) (part_is n x y bs (omega arith))

all-parted : (n : ℕ) (x y d : List Date) (bs : List (List Date)) → x ++ y ≡ get_or bs n d → all_of (parted n x y bs) ≡ all_of bs
all-parted n x y d [] e = refl
all-parted zero x y d (b ∷ bs) e = sym (append_assoc x y (all_of bs)) ∙ ap (λ (l : List Date). l ++ all_of bs) e
all-parted (suc n) x y d (b ∷ bs) e = ap (λ (l : List Date). b ++ l) (all-parted n x y d bs e)

AllShort-parted : (n : ℕ) (x y : List Date) (bs : List (List Date)) → length x < BLOCK → length y < BLOCK → AllShort (take n bs) → AllShort (drop (suc n) bs) → AllShort (parted n x y bs)
AllShort-parted n x y [] lx ly h back = tt
AllShort-parted zero x y (b ∷ bs) lx ly h back = (lx, (ly, back))
AllShort-parted (suc n) x y (b ∷ bs) lx ly h back = (h.0, AllShort-parted n x y bs lx ly h.1 back)

take-parted : (n : ℕ) (x y : List Date) (bs : List (List Date)) → take n (parted n x y bs) ≡ take n bs
take-parted zero x y bs = refl
take-parted (suc n) x y [] = refl
take-parted (suc n) x y (b ∷ bs) = ap (λ (l : List (List Date)). b ∷ l) (take-parted n x y bs)

drop-parted : (n : ℕ) (x y : List Date) (bs : List (List Date)) → drop (suc (suc n)) (parted n x y bs) ≡ drop (suc n) bs
drop-parted n x y [] = refl
drop-parted zero x y (b ∷ bs) = refl
drop-parted (suc n) x y (b ∷ bs) = drop-parted n x y bs

-- a block that has been split, as it is found and left
module _ (at : ℕ) (bs inside new : List (List Date)) (b x y : List Date) (lt : at < length bs) (same : inside ≡ bs) (is : b ≡ get_or inside at b) (halves : x ++ y ≡ b) (in_place : new ≡ insert (set inside at x) (at + 1) y) where
  split_shape : new ≡ parted at x y bs
  split_shape =
      let e = part_is at x y bs lt in
      let f : at + 1 ≡ suc at = add-one at in
      cc

  pub split_dates : all_of new ≡ all_of bs
  split_dates = ap all_of split_shape ∙ all-parted at x y b bs (halves ∙ (is ∙ ap (λ (l : List (List Date)). get_or l at b) same))

  pub split_short : length x < BLOCK → length y < BLOCK → AllShort (take at bs) → AllShort (drop (at + 1) bs) → AllShort new
  split_short lx ly before behind =
      subst AllShort (sym split_shape) (AllShort-parted at x y bs lx ly before (subst (λ (n : ℕ). AllShort (drop n bs)) (add-one at) behind))

  pub split_before : take at new ≡ take at bs
  split_before = ap (take at) split_shape ∙ take-parted at x y bs

  pub split_behind : drop (at + 2) new ≡ drop (at + 1) bs
  split_behind =
      let e = drop-parted at x y bs in
      let f : at + 1 ≡ suc at = add-one at in
      let g : at + 2 ≡ suc (suc at) = omega arith in
      ap (drop (at + 2)) split_shape ∙ (ap (λ (n : ℕ). drop n (parted at x y bs)) g ∙ (e ∙ ap (λ (n : ℕ). drop n bs) (sym f)))
