-- What is written of an address spells it.
use Rattle.std.proofs.Common.{◌≡◌, ℕ, zero, suc, ◌+◌, ◌-◌, ◌<◌, true, false, ltb, List, [], ◌∷◌, ◌++◌, length, take, drop, get_or, replicate, refl, sym, ap, ◌∙◌, arith, inl, inr, append_assoc}
use Rattle.std.proofs.lemmas.Bool.{cases_lt, lt-ltb, le-ltb}
use Rattle.std.proofs.lemmas.List.{length-take, length-drop, get_or-take, get_or-drop, get_or_past, take-append-drop, drop-drop}
use Rattle.std.specs.Fmt.{digits}
use Rattle.nd_text.specs.Spelling.{SpellsGroups, SpellsSome, SpellsAddress}
use Rattle.nd_text.specs.Text.{IsRun, joined, shown, groups_text}
use Rattle.nd_text.proofs.DigitLemmas.{group_is_spelled}
use Rattle.nd_text.proofs.LongestRun.{found_run}

abbrev AreGroups : List ℕ → Type 0
AreGroups groups = (i : ℕ) → get_or groups i 0 < 65536

groups_take : (n : ℕ) (groups : List ℕ) → AreGroups groups → AreGroups (take n groups)
groups_take n groups small i = elim (cases_lt i n) [
  | inl lt ↦ rw (get_or-take n groups i 0 lt) (small i)
  | inr le ↦ rw (get_or_past (take n groups) i 0 (omega (arith, length-take n groups))) (omega arith)
]

groups_drop : (n : ℕ) (groups : List ℕ) → AreGroups groups → AreGroups (drop n groups)
groups_drop n groups small i = rw get_or-drop (small (n + i))

joined_spells : (groups : List ℕ) → AreGroups groups → 0 < length groups → SpellsGroups (joined groups) groups
joined_spells [] small some = absurd (omega arith)
joined_spells (g ∷ []) small some = group_is_spelled g (small 0)
joined_spells (g ∷ k ∷ groups) small some =
    (digits 16 false g, joined (k ∷ groups), refl, group_is_spelled g (small 0), joined_spells (k ∷ groups) (λ i. small (suc i)) (omega arith))

some_spelled : (groups : List ℕ) → AreGroups groups → SpellsSome (joined groups) groups
some_spelled [] small = inl (refl, refl)
some_spelled (g ∷ groups) small = inr (joined_spells (g ∷ groups) small (omega arith))

-- a run of zeros
zeros : (len start : ℕ) (groups : List ℕ) → IsRun groups start len → take {A = ℕ} len (drop {A = ℕ} start groups) ≡ replicate {A = ℕ} len 0
zeros zero start groups r = refl
zeros (suc len) zero [] r = absurd (omega (arith, r.within))
zeros (suc len) zero (g ∷ groups) r =
    let first : g ≡ 0 = r.zero 0 (omega arith) (omega arith) in
    let more = zeros len zero groups (record { within = omega (arith, r.within); zero = λ k low high. r.zero (suc k) (omega arith) (omega arith) }) in
    rw (first, more) refl
zeros (suc len) (suc start) [] r = absurd (omega (arith, r.within))
zeros (suc len) (suc start) (g ∷ groups) r =
    zeros (suc len) start groups (record { within = omega (arith, r.within); zero = λ k low high. r.zero (suc k) (omega arith) (omega arith) })

-- groups with a run of zeros in them
around : (groups : List ℕ) (start len : ℕ) → IsRun groups start len → groups ≡ take start groups ++ replicate {A = ℕ} len 0 ++ drop (start + len) groups
around groups start len r =
    let later : drop start groups ≡ replicate {A = ℕ} len 0 ++ drop (start + len) groups =
    sym (take-append-drop len (drop start groups)) ∙ ap (λ (t : List ℕ). t ++ drop len (drop start groups)) (zeros len start groups r) ∙ ap (λ (t : List ℕ). replicate {A = ℕ} len 0 ++ t) (drop-drop len start groups) in
    sym (take-append-drop start groups) ∙ ap (λ (t : List ℕ). take start groups ++ t) later ∙ sym (append_assoc (take start groups) (replicate {A = ℕ} len 0) (drop (start + len) groups))

shown_spells : (groups : List ℕ) (start len : ℕ) → length groups ≡ 8 → AreGroups groups → IsRun groups start len → SpellsAddress (shown groups start len) groups
shown_spells groups start len eight small r = elim (cases_lt len 2) [
  | inl short ↦ let test : ltb len 2 ≡ true = lt-ltb _ _ short in rw test (inl (joined_spells groups small (omega arith), eight))
  | inr long ↦
      let test : ltb len 2 ≡ false = le-ltb _ _ long in
      let front = take start groups in
      let behind = drop (start + len) groups in
      let front_len : length (take start groups) ≡ start = omega (arith, length-take start groups, r.within) in
      let behind_len : length (drop (start + len) groups) ≡ 8 - (start + len) = omega (arith, length-drop (start + len) groups) in
      let left : len ≡ 8 - (length (take start groups) + length (drop (start + len) groups)) = omega (arith, r.within) in
      rw test (inr (record {
        front = joined (take start groups);
        behind = joined (drop (start + len) groups);
        before = take start groups;
        after = drop (start + len) groups;
        text_is = append_assoc (joined (take start groups)) (58 ∷ 58 ∷ []) (joined (drop (start + len) groups));
        front_is = some_spelled (take start groups) (groups_take start groups small);
        behind_is = some_spelled (drop (start + len) groups) (groups_drop (start + len) groups small);
        fewer = omega (arith, r.within);
        groups_are = around groups start len r ∙ ap (λ (n : ℕ). take start groups ++ replicate {A = ℕ} n 0 ++ drop (start + len) groups) left;
      }))
]

-- the text of eight groups spells them
pub text_spells : (groups : List ℕ) → length groups ≡ 8 → AreGroups groups → SpellsAddress (groups_text groups) groups
unfolding groups_text
text_spells groups eight small = shown_spells groups _ _ eight small (found_run groups)
