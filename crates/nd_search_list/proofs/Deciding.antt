-- The functions decide the relation.
use Rattle.std.proofs.Common.{◌≡◌, ℕ, zero, suc, ◌+◌, ◌<◌, ◌≤◌, true, false, eqb, not, List, [], ◌∷◌, ◌++◌, length, take, drop, Option, Some, None, refl, sym, ap, ◌∙◌, arith, inl, inr, append_assoc}
use Rattle.std.specs.Prelude.{IfSome, MatchOption}
use Rattle.std.specs.Option.{IsSomeAnd}
use Rattle.std.specs.List.{AllByRecursion}
use Rattle.std.proofs.lemmas.Bool.{cases_lt, and_parts, and_from, eqb-true, eqb-false, eq-eqb, ne_eqb, not-true}
use Rattle.std.proofs.lemmas.List.{length-drop, take_at, drop_at, length-append}
use Rattle.nd_search_list.specs.Name.{lowered}
use Rattle.nd_search_list.specs.Reading.{name_length, are_zeros}
use Rattle.nd_search_list.specs.Names.{SpellsBefore, SpellsNames, names_in, rest_in, spells_names}
use Rattle.nd_search_list.specs.NamesLeft.{names_left}
use Rattle.nd_search_list.specs.declared.names.Names.{Names}
use Rattle.nd_search_list.proofs.Walk.{first_is, name_first, name_none, names_in_step, names_in_stop, rest_in_step, rest_in_stop, rest_in_less}
use Rattle.nd_search_list.proofs.Labels.{spelled_some}

zeros_say : (bytes : List ℕ) → are_zeros bytes ≡ true → AllByRecursion (λ byte. byte ≡ 0) bytes
zeros_say [] e = tt
zeros_say (byte ∷ bytes) e = let a = and_parts (eqb byte 0) (are_zeros bytes) e in (eqb-true _ _ a.0, zeros_say bytes a.1)

zeros_test : (bytes : List ℕ) → AllByRecursion (λ byte. byte ≡ 0) bytes → are_zeros bytes ≡ true
zeros_test [] h = refl
zeros_test (byte ∷ bytes) h = and_from (eqb byte 0) (are_zeros bytes) (eq-eqb _ _ h.0) (zeros_test bytes h.1)

read_none : (bytes : List ℕ) → name_length bytes ≡ 0 → are_zeros (rest_in bytes) ≡ true → SpellsBefore bytes (names_in bytes)
read_none bytes stop e = rw (names_in_stop bytes stop) (zeros_say bytes (ap are_zeros (sym (rest_in_stop bytes stop)) ∙ e))

-- what is read in front of zeros is spelled
read_spelled : (n : ℕ) (bytes : List ℕ) → length bytes ≤ n → are_zeros (rest_in bytes) ≡ true → SpellsBefore bytes (names_in bytes)
read_spelled zero bytes le e = elim (cases_lt 0 (name_length bytes)) [
  | inr none ↦ read_none bytes (omega arith) e
  | inl some ↦ absurd (omega (arith, le, (first_is bytes some).within))
]
read_spelled (suc n) bytes le e = elim (cases_lt 0 (name_length bytes)) [
  | inr none ↦ read_none bytes (omega arith) e
  | inl some ↦
      let f = first_is bytes some in
      let rest = drop (name_length bytes + 1) bytes in
      let less : length rest ≤ n = omega (arith, le, length-drop (name_length bytes + 1) bytes, f.within) in
      let more = read_spelled n rest less (ap are_zeros (sym (rest_in_step bytes some)) ∙ e) in
      rw (names_in_step bytes some) (take (name_length bytes) bytes, rest, f.parts, f.spelled, refl, more)
]

-- what is spelled is read, and zeros are left
spelled_read : (names : List (List ℕ)) (bytes : List ℕ) → SpellsBefore bytes names → (names_in bytes ≡ names) × (are_zeros (rest_in bytes) ≡ true)
spelled_read [] bytes h =
    let none = name_none bytes h in
    (names_in_stop bytes none, ap are_zeros (rest_in_stop bytes none) ∙ zeros_test bytes h)
spelled_read (name ∷ names) bytes h =
    let ih = spelled_read names h.1 h.5 in
    let len : name_length bytes ≡ length h.0 = ap name_length h.2 ∙ name_first h.0 h.1 h.3 in
    let some : 0 < name_length bytes = omega (arith, len, spelled_some h.0 h.3) in
    let first : take (name_length bytes) bytes ≡ h.0 = ap (λ (k : ℕ). take k bytes) len ∙ ap (take (length h.0)) h.2 ∙ take_at h.0 (0 ∷ h.1) (length h.0) refl in
    let parts : bytes ≡ (h.0 ++ 0 ∷ []) ++ h.1 = h.2 ∙ sym (append_assoc h.0 (0 ∷ []) h.1) in
    let after : drop (name_length bytes + 1) bytes ≡ h.1 = ap (drop (name_length bytes + 1)) parts ∙ drop_at (h.0 ++ 0 ∷ []) h.1 (name_length bytes + 1) (omega (arith, len, length-append h.0 (0 ∷ []))) in
    let here : lowered (take (name_length bytes) bytes) ≡ name = ap lowered first ∙ sym h.4 in
    let later : names_in (drop (name_length bytes + 1) bytes) ≡ names = ap names_in after ∙ ih.0 in
    (names_in_step bytes some ∙ rw (here, later) refl, ap are_zeros (rest_in_step bytes some ∙ ap rest_in after) ∙ ih.1)

-- ---- exactly where

pub names_spelled : (bytes : List ℕ) → spells_names bytes ≡ true → SpellsNames bytes (names_in bytes)
unfolding spells_names
names_spelled bytes e =
    let a = and_parts (not (eqb (name_length bytes) 0)) (are_zeros (rest_in bytes)) e in
    let some : 0 < name_length bytes = omega (arith, eqb-false _ _ (not-true _ a.0)) in
    record { some = rw (names_in_step bytes some) (omega arith); spelled = read_spelled (length bytes) bytes (omega arith) a.1 }

pub names_one : (bytes : List ℕ) (names : List (List ℕ)) → SpellsNames bytes names → (spells_names bytes ≡ true) × (names_in bytes ≡ names)
unfolding spells_names
names_one bytes names h =
    let r = spelled_read names bytes h.spelled in
    let some : eqb (name_length bytes) 0 ≡ false = ne_eqb _ _ (λ e. let none : names ≡ [] = sym r.0 ∙ names_in_stop bytes e in omega (arith, h.some, ap length none)) in
    (rw some r.1, r.0)

-- ---- the test by how many bytes are left

pub fewer_left : (bytes : List ℕ) → length (rest_in bytes) < length bytes → spells_names bytes ≡ are_zeros (rest_in bytes)
unfolding spells_names
fewer_left bytes less =
    let some : eqb (name_length bytes) 0 ≡ false = ne_eqb _ _ (λ (none : name_length bytes ≡ 0). omega (arith, less, ap length (rest_in_stop bytes none))) in
    rw some refl

pub all_left : (bytes : List ℕ) → length bytes ≤ length (rest_in bytes) → spells_names bytes ≡ false
unfolding spells_names
all_left bytes le = elim (cases_lt 0 (name_length bytes)) [
  | inl some ↦ absurd (omega (arith, le, rest_in_less bytes some))
  | inr none ↦ rw (eq-eqb (name_length bytes) 0 (omega arith)) refl
]

-- ---- what a call that decides it returns

pub found_of : (bytes : List ℕ) (r : Option Names) → MatchOption r (spells_names bytes ≡ false) (λ n. (spells_names bytes ≡ true) × (names_left n ≡ names_in bytes)) → IfSome r (λ n. SpellsNames bytes (names_left n))
found_of bytes None h = tt
found_of bytes (Some n) h = rw h.1 (names_spelled bytes h.0)

pub only_of : (bytes : List ℕ) (r : Option Names) (names : List (List ℕ)) → MatchOption r (spells_names bytes ≡ false) (λ n. (spells_names bytes ≡ true) × (names_left n ≡ names_in bytes)) → SpellsNames bytes names → IsSomeAnd r (λ n. names_left n ≡ names)
only_of bytes None names h s = absurd (let e = (names_one bytes names s).0 in cc)
only_of bytes (Some n) names h s = h.1 ∙ (names_one bytes names s).1
