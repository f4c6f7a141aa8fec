-- The first of the longest runs of zeros, as a function and as a relation.
use Rattle.std.proofs.Common.{◌≡◌, ℕ, zero, suc, ◌+◌, ◌-◌, ◌<◌, ◌≤◌, true, false, eqb, leb, ltb, List, [], ◌∷◌, length, drop, get_or, slice_index, refl, sym, ap, ◌∙◌, arith, inl, inr}
use Rattle.std.specs.Prelude.{◌==◌, if◌then◌else◌}
use Rattle.std.proofs.Math.Seq.{drop-cons}
use Rattle.std.proofs.lemmas.Bool.{cases_Bool, eqb-true, eqb-false, cases_lt, le-leb, lt-leb, lt-ltb, eq-eqb, ne_eqb}
use Rattle.std.proofs.lemmas.List.{length-drop, drop_all}
use Rattle.nd_text.specs.Text.{IsRun, IsLongest, IsText, zeros_in_front, longest_run, shown, groups_text}

front_zero : (g : ℕ) (groups : List ℕ) → g ≡ 0 → zeros_in_front (g ∷ groups) ≡ suc (zeros_in_front groups)
front_zero g groups e = rw (eq-eqb _ _ e) refl

front_other : (g : ℕ) (groups : List ℕ) → (g ≡ 0 → ⊥) → zeros_in_front (g ∷ groups) ≡ 0
front_other g groups n = rw (ne_eqb g 0 n) refl

zeros_le : (groups : List ℕ) → zeros_in_front groups ≤ length groups
zeros_le [] = omega arith
zeros_le (g ∷ groups) = elim (cases_Bool (eqb g 0)) [
  | inl none ↦ omega (arith, front_zero g groups (eqb-true _ _ none), zeros_le groups)
  | inr some ↦ omega (arith, front_other g groups (eqb-false _ _ some))
]

-- the longest run of a list by that of its tail
earlier : (g : ℕ) (groups : List ℕ) → (longest_run groups).len ≤ zeros_in_front (g ∷ groups) → longest_run (g ∷ groups) ≡ record { start = 0; len = zeros_in_front (g ∷ groups) }
earlier g groups le = let test : leb (longest_run groups).len (zeros_in_front (g ∷ groups)) ≡ true = le-leb _ _ le in rw test refl

later : (g : ℕ) (groups : List ℕ) → zeros_in_front (g ∷ groups) < (longest_run groups).len → longest_run (g ∷ groups) ≡ record { start = suc (longest_run groups).start; len = (longest_run groups).len }
later g groups lt = let test : leb (longest_run groups).len (zeros_in_front (g ∷ groups)) ≡ false = lt-leb _ _ lt in rw test refl

-- ---- runs of a list and of its tail

front_run : (groups : List ℕ) → IsRun groups 0 (zeros_in_front groups)
front_run [] = record { within = omega arith; zero = λ k low high. absurd (omega arith) }
front_run (g ∷ groups) = elim (cases_Bool (eqb g 0)) [
  | inr some ↦
      let none : zeros_in_front (g ∷ groups) ≡ 0 = front_other g groups (eqb-false _ _ some) in
      record { within = omega (arith, none); zero = λ k low high. absurd (omega (arith, none)) }
  | inl none ↦
      let more = front_zero g groups (eqb-true _ _ none) in
      record { within = omega (arith, more, (front_run groups).within); zero = zeros g groups (eqb-true _ _ none) more (front_run groups) }
]
  where
    zeros : (h : ℕ) (hs : List ℕ) → h ≡ 0 → zeros_in_front (h ∷ hs) ≡ suc (zeros_in_front hs) → IsRun hs 0 (zeros_in_front hs) → (k : ℕ) → 0 ≤ k → k < 0 + zeros_in_front (h ∷ hs) → slice_index (h ∷ hs) k ≡ 0
    zeros h hs e more r zero low high = e
    zeros h hs e more r (suc k) low high = r.zero k (omega arith) (omega (arith, more))

front_most : (groups : List ℕ) (len : ℕ) → IsRun groups 0 len → len ≤ zeros_in_front groups
front_most [] len r = omega (arith, r.within)
front_most (g ∷ groups) zero r = omega arith
front_most (g ∷ groups) (suc len) r =
    let more = front_zero g groups (r.zero 0 (omega arith) (omega arith)) in
    omega (arith, more, front_most groups len (record { within = omega (arith, r.within); zero = λ k low high. r.zero (suc k) (omega arith) (omega arith) }))

in_tail : (g : ℕ) (groups : List ℕ) (start len : ℕ) → IsRun (g ∷ groups) (suc start) len → IsRun groups start len
in_tail g groups start len r = record { within = omega (arith, r.within); zero = λ k low high. r.zero (suc k) (omega arith) (omega arith) }

behind : (g : ℕ) (groups : List ℕ) (start len : ℕ) → IsRun groups start len → IsRun (g ∷ groups) (suc start) len
behind g groups start len r = record { within = omega (arith, r.within); zero = at r }
  where
    at : IsRun groups start len → (k : ℕ) → suc start ≤ k → k < suc start + len → slice_index (g ∷ groups) k ≡ 0
    at r zero low high = absurd (omega arith)
    at r (suc k) low high = r.zero k (omega arith) (omega arith)

front_first : (g : ℕ) (groups : List ℕ) → IsLongest groups (longest_run groups).start (longest_run groups).len → (longest_run groups).len ≤ zeros_in_front (g ∷ groups)
    → IsLongest (g ∷ groups) 0 (zeros_in_front (g ∷ groups))
front_first g groups ih le = record { run = front_run (g ∷ groups); longest = most ih le; first = λ s l r some e. omega arith }
  where
    most : IsLongest groups (longest_run groups).start (longest_run groups).len → (longest_run groups).len ≤ zeros_in_front (g ∷ groups) → (s l : ℕ) → IsRun (g ∷ groups) s l → l ≤ zeros_in_front (g ∷ groups)
    most ih le zero l r = front_most (g ∷ groups) l r
    most ih le (suc s) l r = let t = ih.longest s l (in_tail g groups s l r) in omega arith

tail_first : (g : ℕ) (groups : List ℕ) → IsLongest groups (longest_run groups).start (longest_run groups).len → zeros_in_front (g ∷ groups) < (longest_run groups).len
    → IsLongest (g ∷ groups) (suc (longest_run groups).start) (longest_run groups).len
tail_first g groups ih lt = record { run = behind g groups (longest_run groups).start (longest_run groups).len ih.run; longest = most ih lt; first = least ih lt }
  where
    most : IsLongest groups (longest_run groups).start (longest_run groups).len → zeros_in_front (g ∷ groups) < (longest_run groups).len → (s l : ℕ) → IsRun (g ∷ groups) s l → l ≤ (longest_run groups).len
    most ih lt zero l r = let t = front_most (g ∷ groups) l r in omega arith
    most ih lt (suc s) l r = ih.longest s l (in_tail g groups s l r)

    least : IsLongest groups (longest_run groups).start (longest_run groups).len → zeros_in_front (g ∷ groups) < (longest_run groups).len
        → (s l : ℕ) → IsRun (g ∷ groups) s l → 0 < l → l ≡ (longest_run groups).len → suc (longest_run groups).start ≤ s
    least ih lt zero l r some e = absurd (let t = front_most (g ∷ groups) l r in omega arith)
    least ih lt (suc s) l r some e = let t = ih.first s l (in_tail g groups s l r) some e in omega arith

-- the function gives the first of the longest runs
is_longest : (groups : List ℕ) → IsLongest groups (longest_run groups).start (longest_run groups).len
is_longest [] = record {
  run = record { within = omega arith; zero = λ k low high. absurd (omega arith) };
  longest = λ s l r. omega (arith, r.within);
  first = λ s l r some e. absurd (omega arith);
}
is_longest (g ∷ groups) = elim (cases_lt (zeros_in_front (g ∷ groups)) (longest_run groups).len) [
  | inl lt ↦ rw (later g groups lt) (tail_first g groups (is_longest groups) lt)
  | inr le ↦ rw (earlier g groups le) (front_first g groups (is_longest groups) le)
]

pub is_text : (groups : List ℕ) → IsText groups (groups_text groups)
unfolding groups_text
is_text groups = record { start = (longest_run groups).start; len = (longest_run groups).len; longest = is_longest groups; text_is = refl }

-- the text that is shown for what was found
pub shown_is : (groups : List ℕ) (start len : ℕ) → start ≡ (longest_run groups).start → len ≡ (longest_run groups).len → shown groups start len ≡ groups_text groups
unfolding groups_text
shown_is groups start len s l = rw (s, l) refl

pub found_run : (groups : List ℕ) → IsRun groups (longest_run groups).start (longest_run groups).len
found_run groups = (is_longest groups).run

pub found_within : (groups : List ℕ) (start len : ℕ) → start ≡ (longest_run groups).start → len ≡ (longest_run groups).len → start + len ≤ length groups
found_within groups start len s l = omega (arith, (is_longest groups).run.within)

-- ---- a step towards the front

-- the group before a place, and those from there on
one_more : (groups : List ℕ) (i : ℕ) → 0 < i → i ≤ length groups → drop (i - 1) groups ≡ get_or groups (i - 1) 0 ∷ drop i groups
one_more groups i some le = let place : suc (i - 1) ≡ i = omega arith in drop-cons groups (i - 1) 0 (omega arith) ∙ ap (λ (k : ℕ). get_or groups (i - 1) 0 ∷ drop k groups) place

-- what is known of the groups from a place on
pub record IsBestFrom (groups : List ℕ) (i front start len : ℕ) : Type 0 where
  pub front_is : front ≡ zeros_in_front (drop i groups)
  pub start_is : start ≡ i + (longest_run (drop i groups)).start
  pub len_is : len ≡ (longest_run (drop i groups)).len

pub next_front : (groups : List ℕ) (i front start len more : ℕ) → 0 < i → i ≤ length groups → IsBestFrom groups i front start len
    → more ≡ (if get_or groups (i - 1) 0 == 0 then suc front else 0) → more ≡ zeros_in_front (drop (i - 1) groups)
next_front groups i front start len more some le b e = rw (one_more groups i some le) (e ∙ ap (λ (n : ℕ). if get_or groups (i - 1) 0 == 0 then suc n else 0) b.front_is)

pub takes_front : (groups : List ℕ) (i front start len more : ℕ) → 0 < i → i ≤ length groups → IsBestFrom groups i front start len
    → more ≡ zeros_in_front (drop (i - 1) groups) → len ≤ more → IsBestFrom groups (i - 1) more (i - 1) more
takes_front groups i front start len more some le b e more_le =
    let all = one_more groups i some le in
    let front : more ≡ zeros_in_front (get_or groups (i - 1) 0 ∷ drop i groups) = e ∙ ap zeros_in_front all in
    let best : longest_run (drop (i - 1) groups) ≡ record { start = 0; len = zeros_in_front (get_or groups (i - 1) 0 ∷ drop i groups) } = ap longest_run all ∙ earlier (get_or groups (i - 1) 0) (drop i groups) (omega (arith, front, b.len_is)) in
    record { front_is = e; start_is = rw best (omega arith); len_is = rw best front }

pub keeps_later : (groups : List ℕ) (i front start len more : ℕ) → 0 < i → i ≤ length groups → IsBestFrom groups i front start len
    → more ≡ zeros_in_front (drop (i - 1) groups) → more < len → IsBestFrom groups (i - 1) more start len
keeps_later groups i front start len more some le b e lt =
    let all = one_more groups i some le in
    let front : more ≡ zeros_in_front (get_or groups (i - 1) 0 ∷ drop i groups) = e ∙ ap zeros_in_front all in
    let best : longest_run (drop (i - 1) groups) ≡ record { start = suc (longest_run (drop i groups)).start; len = (longest_run (drop i groups)).len } = ap longest_run all ∙ later (get_or groups (i - 1) 0) (drop i groups) (omega (arith, front, b.len_is)) in
    record { front_is = e; start_is = rw best (omega (arith, b.start_is)); len_is = rw best b.len_is }

-- no group is gone over yet, and all are
pub none_yet : (groups : List ℕ) → length groups ≡ 8 → IsBestFrom groups 8 0 8 0
none_yet groups e =
    let nothing : drop 8 groups ≡ [] = drop_all 8 groups (omega arith) in
    record { front_is = ap zeros_in_front (sym nothing); start_is = ap (λ (t : List ℕ). 8 + (longest_run t).start) (sym nothing); len_is = ap (λ (t : List ℕ). (longest_run t).len) (sym nothing) }

pub front_below : (groups : List ℕ) (i front start len : ℕ) → 0 < i → length groups ≡ 8 → i ≤ 8 → IsBestFrom groups i front start len → front < 8
front_below groups i front start len some e le b = omega (arith, b.front_is, zeros_le (drop i groups), length-drop i groups)

-- ---- one text

same_text : (groups : List ℕ) (s l t m : ℕ) → IsLongest groups s l → IsLongest groups t m → shown groups s l ≡ shown groups t m
same_text groups s l t m a b =
    let len : l ≡ m = let x = a.longest t m b.run in let y = b.longest s l a.run in omega arith in
    elim (cases_lt l 2) [
      | inl short ↦
          let one : ltb l 2 ≡ true = lt-ltb _ _ short in
          let other : ltb m 2 ≡ true = lt-ltb _ _ (omega arith) in
          rw (one, other) refl
      | inr long ↦
          let start : s ≡ t = let x = a.first t m b.run (omega arith) (sym len) in let y = b.first s l a.run (omega arith) len in omega arith in
          rw (start, len) refl
    ]

pub text_is_one : (groups text other : List ℕ) → IsText groups text → IsText groups other → text ≡ other
text_is_one groups text other a b = a.text_is ∙ same_text groups a.start a.len b.start b.len a.longest b.longest ∙ sym b.text_is
