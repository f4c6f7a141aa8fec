-- Reading groups, one after the other.
use Rattle.std.proofs.Common.{◌≡◌, ℕ, zero, suc, ◌+◌, ◌-◌, ◌<◌, ◌≤◌, List, [], ◌∷◌, ◌++◌, length, take, drop, replicate, set, Option, Some, None, refl, sym, ap, ◌∙◌, arith, append_assoc}
use Rattle.std.proofs.lemmas.List.{take_more_set, length-set}
use Rattle.nd_text.specs.Parsing.{word_of, behind_of, group_of, group_before, groups_after, groups_within, groups_and}

pub within_step : (n : ℕ) (text : List ℕ) → groups_within (suc n) text ≡ group_before (group_of (word_of text)) (groups_after (groups_within n) (behind_of text))
unfolding groups_within
within_step n text = refl

pub within_none : (text : List ℕ) → groups_within 0 text ≡ None
unfolding groups_within
within_none text = refl

-- a word that is no group
pub bad_word : (n : ℕ) (text : List ℕ) → group_of (word_of text) ≡ None → groups_within (suc n) text ≡ None
bad_word n text e = within_step n text ∙ ap (λ (g : Option ℕ). group_before g (groups_after (groups_within n) (behind_of text))) e

-- the last word
pub last_word : (n : ℕ) (text : List ℕ) (g : ℕ) → group_of (word_of text) ≡ Some g → behind_of text ≡ None → groups_within (suc n) text ≡ Some (g ∷ [])
last_word n text g e b = within_step n text ∙ rw (e, b) refl

-- a word with others behind it
pub next_word : (n : ℕ) (text : List ℕ) (g : ℕ) (rest : List ℕ) → group_of (word_of text) ≡ Some g → behind_of text ≡ Some rest
    → groups_within (suc n) text ≡ group_before (Some g) (groups_within n rest)
next_word n text g rest e b = within_step n text ∙ rw (e, b) refl

and_before : (before : List ℕ) (g : ℕ) (later : Option (List ℕ)) → groups_and before (group_before (Some g) later) ≡ groups_and (before ++ g ∷ []) later
and_before before g None = refl
and_before before g (Some groups) = ap (λ (t : List ℕ). Some t) (sym (append_assoc before (g ∷ []) groups))

-- ---- the loop: the groups so far, and those that are left

pub record IsSoFar (text groups : List ℕ) (count : ℕ) (rest : List ℕ) : Type 0 where
  pub len : length groups ≡ 8
  pub all : groups_within 8 text ≡ groups_and (take count groups) (groups_within (8 - count) rest)

one_left : (count : ℕ) → count < 8 → 8 - count ≡ suc (8 - (count + 1))
one_left count lt = omega arith

pub ends_bad : (text groups rest : List ℕ) (count : ℕ) → IsSoFar text groups count rest → count < 8 → None ≡ group_of (word_of rest) → groups_within 8 text ≡ None
ends_bad text groups rest count i lt e =
    i.all ∙ ap (λ (n : ℕ). groups_and (take count groups) (groups_within n rest)) (one_left count lt) ∙ ap (groups_and (take count groups)) (bad_word (8 - (count + 1)) rest (sym e))

pub ends_good : (text groups rest : List ℕ) (count g : ℕ) → IsSoFar text groups count rest → count < 8 → Some g ≡ group_of (word_of rest) → behind_of rest ≡ None
    → groups_within 8 text ≡ Some (take (count + 1) (set groups count g))
ends_good text groups rest count g i lt e b =
    i.all ∙ ap (λ (n : ℕ). groups_and (take count groups) (groups_within n rest)) (one_left count lt) ∙ ap (groups_and (take count groups)) (last_word (8 - (count + 1)) rest g (sym e) b)
    ∙ ap (λ (t : List ℕ). Some t) (sym (take_more_set groups count g (omega (arith, i.len))))

pub goes_on : (text groups rest after : List ℕ) (count g : ℕ) → IsSoFar text groups count rest → count < 8 → Some g ≡ group_of (word_of rest) → behind_of rest ≡ Some after
    → IsSoFar text (set groups count g) (count + 1) after
goes_on text groups rest after count g i lt e b = record {
  len = length-set groups count g ∙ i.len;
  all = i.all ∙ ap (λ (n : ℕ). groups_and (take count groups) (groups_within n rest)) (one_left count lt) ∙ ap (groups_and (take count groups)) (next_word (8 - (count + 1)) rest g after (sym e) b)
      ∙ and_before (take count groups) g (groups_within (8 - (count + 1)) after)
      ∙ ap (λ (t : List ℕ). groups_and t (groups_within (8 - (count + 1)) after)) (sym (take_more_set groups count g (omega (arith, i.len))));
}

pub too_many : (text groups rest : List ℕ) (count : ℕ) → IsSoFar text groups count rest → 8 ≤ count → groups_within 8 text ≡ None
too_many text groups rest count i ge =
    i.all ∙ ap (λ (n : ℕ). groups_and (take count groups) (groups_within n rest)) (let none : 8 - count ≡ 0 = omega arith in none) ∙ ap (groups_and (take count groups)) (within_none rest)

pub none_yet : (text groups : List ℕ) → length groups ≡ 8 → IsSoFar text groups 0 text
none_yet text groups len = record { len = len; all = alone (groups_within 8 text) }
  where
    alone : (o : Option (List ℕ)) → o ≡ groups_and [] o
    alone None = refl
    alone (Some groups) = refl

-- some of a list of zeros
pub zeros_part : (m n k : ℕ) → n + k ≤ m → take {A = ℕ} k (drop {A = ℕ} n (replicate {A = ℕ} m 0)) ≡ replicate {A = ℕ} k 0
zeros_part m n zero le = refl
zeros_part zero n (suc k) le = absurd (omega arith)
zeros_part (suc m) zero (suc k) le = ap (λ (t : List ℕ). 0 ∷ t) (zeros_part m zero k (omega arith))
zeros_part (suc m) (suc n) (suc k) le = zeros_part m n (suc k) (omega arith)

pub joined_parts : (a b c a' b' c' : List ℕ) → a ≡ a' → b ≡ b' → c ≡ c' → a ++ (b ++ c) ≡ a' ++ b' ++ c'
joined_parts a b c a' b' c' p q r = let e : a ++ (b ++ c) ≡ a' ++ (b' ++ c') = cc in e ∙ sym (append_assoc a' b' c')
