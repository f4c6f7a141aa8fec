-- Going over names: the first name, a step, the end.
use Rattle.std.proofs.Common.{◌≡◌, ℕ, zero, suc, ◌+◌, ◌-◌, ◌<◌, ◌≤◌, Bool, true, false, cond, ltb, leb, eqb, ◌&&◌, List, [], ◌∷◌, ◌++◌, length, take, drop, slice_index, refl, sym, ap, ◌∙◌, arith, inl, inr, append_assoc}
use Rattle.std.specs.List.{AllByRecursion}
use Rattle.std.proofs.lemmas.Bool.{cases_Bool, cases_lt, and_parts, and_from, leb-true, le-leb, ltb-true, lt-ltb, eq-eqb, ne_eqb, eqb-true}
use Rattle.std.proofs.lemmas.List.{length-append, length-drop, length-take-le, nil_from_length, take_at, get_or-append_right, take-append-drop, drop_more}
use Rattle.nd_search_list.specs.Label.{IsLabel}
use Rattle.nd_search_list.specs.Name.{IsSpelled, lowered}
use Rattle.nd_search_list.specs.Reading.{labels_length, name_length, are_zeros, end_from, is_spelled}
use Rattle.nd_search_list.specs.Names.{names_behind, names_in, rest_behind, rest_in}
use Rattle.nd_search_list.proofs.Labels.{joined, counted, nothing_joined, length_spelled, spelled_tests}

-- a name in front, with its zero byte
pub record IsFirst (bytes : List ℕ) : Type 0 where
  pub within : name_length bytes < length bytes
  pub spelled : IsSpelled (take (name_length bytes) bytes)
  pub parts : bytes ≡ take (name_length bytes) bytes ++ 0 ∷ drop (name_length bytes + 1) bytes

-- the three tests of a name's end
abbrev ends_at : List ℕ → ℕ → Bool
ends_at bytes n = leb n 254 && ltb n (length bytes) && eqb (slice_index bytes n) 0

zero_behind : (bytes : List ℕ) (n : ℕ) → n < length bytes → slice_index bytes n ≡ 0 → bytes ≡ take n bytes ++ 0 ∷ drop (n + 1) bytes
zero_behind bytes n lt zero_is = sym (take-append-drop n bytes) ∙ ap (λ (t : List ℕ). take n bytes ++ t) (drop_more bytes n 0 lt ∙ ap (λ (b : ℕ). b ∷ drop (n + 1) bytes) zero_is)

taken_is_spelled : (bytes : List ℕ) (n : ℕ) → 1 ≤ n → n ≤ 254 → labels_length bytes ≡ n → IsSpelled (take n bytes)
unfolding labels_length
taken_is_spelled bytes n some short e =
    let r = counted bytes 0 0 (omega (arith, e)) in
    let parts : bytes ≡ joined r.labels ++ r.rest = r.parts ∙ ap (λ (t : List ℕ). t ++ (joined r.labels ++ r.rest)) (nil_from_length r.text r.text_is) in
    let len : length (joined r.labels) ≡ n = omega (arith, r.count, e) in
    let same : take n bytes ≡ joined r.labels = ap (take n) parts ∙ take_at (joined r.labels) r.rest n len in
    record { labels = r.labels; some = nothing_joined r.labels (omega arith); each = r.each; joined = same; short = omega (arith, ap length same, len, short) }

first_of_tests : (bytes : List ℕ) → ends_at bytes (labels_length bytes) ≡ true → 0 < labels_length bytes → name_length bytes ≡ labels_length bytes → IsFirst bytes
first_of_tests bytes test some e =
    let a = and_parts (leb (labels_length bytes) 254 && ltb (labels_length bytes) (length bytes)) (eqb (slice_index bytes (labels_length bytes)) 0) test in
    let b = and_parts (leb (labels_length bytes) 254) (ltb (labels_length bytes) (length bytes)) a.0 in
    let within : labels_length bytes < length bytes = ltb-true _ _ b.1 in
    let made : IsFirst bytes = record {
      within = rw e within;
      spelled = rw e (taken_is_spelled bytes (labels_length bytes) some (leb-true _ _ b.0) refl);
      parts = rw e (zero_behind bytes (labels_length bytes) within (eqb-true _ _ a.1));
    } in
    made

pub first_is : (bytes : List ℕ) → 0 < name_length bytes → IsFirst bytes
unfolding name_length
first_is bytes some = elim (cases_Bool (ends_at bytes (labels_length bytes))) [
  | inl test ↦
      let e : name_length bytes ≡ labels_length bytes = rw test refl in
      first_of_tests bytes test (omega (arith, e, some)) e
  | inr bad ↦ absurd (let e : name_length bytes ≡ 0 = rw bad refl in omega (arith, e, some))
]

pub first_tests : (bytes : List ℕ) (n : ℕ) → n ≡ name_length bytes → 0 < n → is_spelled (take n bytes) ≡ true
first_tests bytes n e some =
    let f = first_is bytes (omega (arith, e, some)) in
    rw e (spelled_tests (take (name_length bytes) bytes) f.spelled)

pub name_first : (bytes rest : List ℕ) → IsSpelled bytes → name_length (bytes ++ 0 ∷ rest) ≡ length bytes
unfolding name_length
name_first bytes rest s =
    let len : labels_length (bytes ++ 0 ∷ rest) ≡ length bytes = length_spelled bytes (0 ∷ rest) s (λ n. refl) in
    let at : slice_index (bytes ++ 0 ∷ rest) (length bytes) ≡ 0 = get_or-append_right bytes (0 ∷ rest) (length bytes) (length bytes) 0 refl (omega arith) ∙ (let z : length bytes - length bytes ≡ 0 = omega arith in rw z refl) in
    let lt : length bytes < length (bytes ++ 0 ∷ rest) = omega (arith, length-append bytes (0 ∷ rest)) in
    let test : ends_at (bytes ++ 0 ∷ rest) (length bytes) ≡ true =
    and_from (leb (length bytes) 254 && ltb (length bytes) (length (bytes ++ 0 ∷ rest))) (eqb (slice_index (bytes ++ 0 ∷ rest) (length bytes)) 0) (and_from (leb (length bytes) 254) (ltb (length bytes) (length (bytes ++ 0 ∷ rest))) (le-leb _ _ s.short) (lt-ltb _ _ lt)) (eq-eqb _ _ at) in
    rw (len, test) refl

pub name_none : (bytes : List ℕ) → AllByRecursion (λ byte. byte ≡ 0) bytes → name_length bytes ≡ 0
unfolding name_length labels_length
name_none [] h = refl
name_none (byte ∷ bytes) h = rw h.0 (either _ 0)
  where
    either : (b : Bool) (n : ℕ) → cond b n n ≡ n
    either true n = refl
    either false n = refl

drop_one : (n byte : ℕ) (bytes : List ℕ) → drop (n + 1) (byte ∷ bytes) ≡ drop n bytes
drop_one n byte bytes = let e : n + 1 ≡ suc n = omega arith in rw e refl

-- ---- names

names_behind-drop : (bytes : List ℕ) (skipped : ℕ) → names_behind skipped bytes ≡ names_behind 0 (drop skipped bytes)
names_behind-drop [] zero = refl
names_behind-drop [] (suc skipped) = refl
names_behind-drop (byte ∷ bytes) zero = refl
names_behind-drop (byte ∷ bytes) (suc skipped) =
    let less : suc skipped - 1 ≡ skipped = omega arith in
    let some : eqb (suc skipped) 0 ≡ false = ne_eqb _ _ (λ e. omega arith) in
    rw (some, less) (names_behind-drop bytes skipped)

pub names_in_stop : (bytes : List ℕ) → name_length bytes ≡ 0 → names_in bytes ≡ []
unfolding names_in
names_in_stop [] e = refl
names_in_stop (byte ∷ bytes) e = rw e refl

pub names_in_step : (bytes : List ℕ) → 0 < name_length bytes → names_in bytes ≡ lowered (take (name_length bytes) bytes) ∷ names_in (drop (name_length bytes + 1) bytes)
unfolding names_in
names_in_step [] h = absurd (omega (arith, (first_is [] h).within))
names_in_step (byte ∷ bytes) h =
    let some : eqb (name_length (byte ∷ bytes)) 0 ≡ false = ne_eqb _ _ (λ e. omega (arith, e, h)) in
    let behind = names_behind-drop bytes (name_length (byte ∷ bytes)) ∙ ap (names_behind 0) (sym (drop_one (name_length (byte ∷ bytes)) byte bytes)) in
    rw some (ap (λ (ns : List (List ℕ)). lowered (take (name_length (byte ∷ bytes)) (byte ∷ bytes)) ∷ ns) behind)

rest_behind-drop : (bytes : List ℕ) (skipped : ℕ) → rest_behind skipped bytes ≡ rest_behind 0 (drop skipped bytes)
rest_behind-drop [] zero = refl
rest_behind-drop [] (suc skipped) = refl
rest_behind-drop (byte ∷ bytes) zero = refl
rest_behind-drop (byte ∷ bytes) (suc skipped) =
    let less : suc skipped - 1 ≡ skipped = omega arith in
    let some : eqb (suc skipped) 0 ≡ false = ne_eqb _ _ (λ e. omega arith) in
    rw (some, less) (rest_behind-drop bytes skipped)

pub rest_in_stop : (bytes : List ℕ) → name_length bytes ≡ 0 → rest_in bytes ≡ bytes
unfolding rest_in
rest_in_stop [] e = refl
rest_in_stop (byte ∷ bytes) e = rw e refl

pub rest_in_step : (bytes : List ℕ) → 0 < name_length bytes → rest_in bytes ≡ rest_in (drop (name_length bytes + 1) bytes)
unfolding rest_in
rest_in_step [] h = absurd (omega (arith, (first_is [] h).within))
rest_in_step (byte ∷ bytes) h =
    let some : eqb (name_length (byte ∷ bytes)) 0 ≡ false = ne_eqb _ _ (λ e. omega (arith, e, h)) in
    let behind = rest_behind-drop bytes (name_length (byte ∷ bytes)) ∙ ap (rest_behind 0) (sym (drop_one (name_length (byte ∷ bytes)) byte bytes)) in
    rw some behind

-- there are no more of them than there were
rest_in-le : (n : ℕ) (bytes : List ℕ) → length bytes ≤ n → length (rest_in bytes) ≤ length bytes
rest_in-le zero bytes le = elim (cases_lt 0 (name_length bytes)) [
  | inr none ↦ omega (arith, ap length (rest_in_stop bytes (omega arith)))
  | inl some ↦ absurd (omega (arith, le, (first_is bytes some).within))
]
rest_in-le (suc n) bytes le = elim (cases_lt 0 (name_length bytes)) [
  | inr none ↦ omega (arith, ap length (rest_in_stop bytes (omega arith)))
  | inl some ↦
      let f = first_is bytes some in
      let after = length-drop (name_length bytes + 1) bytes in
      let ih = rest_in-le n (drop (name_length bytes + 1) bytes) (omega (arith, le, after, f.within)) in
      omega (arith, ap length (rest_in_step bytes some), ih, after)
]

-- and behind a name there are fewer
pub rest_in_less : (bytes : List ℕ) → 0 < name_length bytes → length (rest_in bytes) < length bytes
rest_in_less bytes some =
    let f = first_is bytes some in
    let after = length-drop (name_length bytes + 1) bytes in
    let le = rest_in-le (length bytes) (drop (name_length bytes + 1) bytes) (omega (arith, after)) in
    omega (arith, ap length (rest_in_step bytes some), le, after, f.within)

-- ---- bytes that were read before

-- the bytes of a label are passed over, where there are so many
pub passed : (n : ℕ) (bytes : List ℕ) → n ≤ length bytes → end_from n bytes ≡ n + end_from 0 (drop n bytes)
passed zero bytes le = omega arith
passed (suc n) [] le = absurd (omega arith)
passed (suc n) (byte ∷ bytes) le =
    let step : end_from (suc n) (byte ∷ bytes) ≡ end_from n bytes + 1 = refl in
    omega (arith, step, passed n bytes (omega arith))

-- and otherwise no label ends
pub none_ends : (n : ℕ) (bytes : List ℕ) → length bytes < n → end_from n bytes ≡ length bytes
none_ends n [] lt = refl
none_ends zero (byte ∷ bytes) lt = absurd (omega arith)
none_ends (suc n) (byte ∷ bytes) lt =
    let step : end_from (suc n) (byte ∷ bytes) ≡ end_from n bytes + 1 = refl in
    omega (arith, step, none_ends n bytes (omega arith))

text_passed : (text bytes : List ℕ) → end_from (length text) (text ++ bytes) ≡ length text + end_from 0 bytes
text_passed [] bytes = omega arith
text_passed (byte ∷ text) bytes =
    let step : end_from (length (byte ∷ text)) ((byte ∷ text) ++ bytes) ≡ end_from (length text) (text ++ bytes) + 1 = refl in
    omega (arith, step, text_passed text bytes)

labels_passed : (labels : List (List ℕ)) (bytes : List ℕ) → AllByRecursion IsLabel labels → end_from 0 (joined labels ++ bytes) ≡ length (joined labels) + end_from 0 bytes
labels_passed [] bytes h = omega arith
labels_passed (label ∷ labels) bytes h =
    let some : eqb (length label) 0 ≡ false = ne_eqb _ _ (λ e. omega (arith, e, h.0.some)) in
    let parts : (label ++ joined labels) ++ bytes ≡ label ++ (joined labels ++ bytes) = append_assoc label (joined labels) bytes in
    let text = text_passed label (joined labels ++ bytes) in
    rw (some, parts) (omega (arith, text, labels_passed labels bytes h.1, length-append label (joined labels)))

-- in front of zeros, a name ends at the first zero byte in the place of a label's length
pub zero_ends : (bytes : List ℕ) → are_zeros (rest_in bytes) ≡ true → end_from 0 bytes ≡ name_length bytes
zero_ends bytes padded = elim (cases_lt 0 (name_length bytes)) [
  | inl some ↦
      let f = first_is bytes some in
      let taken : length (take (name_length bytes) bytes) ≡ name_length bytes = length-take-le _ _ (omega (arith, f.within)) in
      let here : end_from 0 (joined f.spelled.labels ++ 0 ∷ drop (name_length bytes + 1) bytes) ≡ length (joined f.spelled.labels) + 0 = labels_passed f.spelled.labels (0 ∷ drop (name_length bytes + 1) bytes) f.spelled.each in
      ap (end_from 0) f.parts ∙ ap (λ (t : List ℕ). end_from 0 (t ++ 0 ∷ drop (name_length bytes + 1) bytes)) f.spelled.joined ∙ here
      ∙ omega (arith, ap length f.spelled.joined, taken)
  | inr none ↦ none_first bytes (ap are_zeros (sym (rest_in_stop bytes (omega arith))) ∙ padded) ∙ omega arith
]
  where
    none_first : (bytes : List ℕ) → are_zeros bytes ≡ true → end_from 0 bytes ≡ 0
    none_first [] h = refl
    none_first (byte ∷ bytes) h = let a = and_parts (eqb byte 0) (are_zeros bytes) h in rw a.0 refl

pub padded_behind : (bytes rest : List ℕ) → 0 < name_length bytes → rest ≡ drop (name_length bytes + 1) bytes → are_zeros (rest_in bytes) ≡ true → are_zeros (rest_in rest) ≡ true
padded_behind bytes rest some e padded = ap (λ (t : List ℕ). are_zeros (rest_in t)) e ∙ ap are_zeros (sym (rest_in_step bytes some)) ∙ padded
