-- Labels that are counted are spelled, and what is spelled is counted.
use Rattle.std.proofs.Common.{◌≡◌, ℕ, zero, suc, ◌+◌, ◌-◌, ◌≤◌, Bool, true, false, cond, leb, eqb, ◌&&◌, List, [], ◌∷◌, ◌++◌, length, take, drop, slice_index, refl, sym, ap, ◌∙◌, arith, inl, inr, append_assoc}
use Rattle.std.specs.List.{flat_map, list_all, AllByRecursion}
use Rattle.std.proofs.lemmas.Bool.Decides.{nat_tests}
use Rattle.std.proofs.lemmas.Bool.{cases_Bool, cond-true, cond-false, and_parts, and_from, leb-true, le-leb, eq-eqb, ne_eqb, eqb-true, eqb-false}
use Rattle.std.proofs.lemmas.List.{length-append, append-nil, drop_more, nil_from_length}
use Rattle.nd_search_list.specs.Label.{IsSign, IsLabel, is_sign}
use Rattle.nd_search_list.specs.Name.{label_bytes, IsSpelled}
use Rattle.nd_search_list.specs.Reading.{labels_from, labels_length, is_spelled}
use Rattle.nd_search_list.proofs.Signs.{sign_is, sign_tests}

abbrev pub joined : List (List ℕ) → List ℕ
joined labels = flat_map label_bytes labels

-- what is left of a label, whole labels, and the rest, where so many bytes were counted
pub record AreCounted (before left : ℕ) (bytes : List ℕ) : Type 0 where
  pub text : List ℕ
  pub labels : List (List ℕ)
  pub rest : List ℕ
  pub parts : bytes ≡ text ++ (joined labels ++ rest)
  pub text_is : length text ≡ left
  pub signs : AllByRecursion IsSign text
  pub each : AllByRecursion IsLabel labels
  pub count : labels_from before left bytes ≡ before + left + length (joined labels)

labels_none : (before : ℕ) (bytes : List ℕ) → labels_from before 0 bytes ≡ before → AreCounted before 0 bytes
labels_none before bytes e = record { text = []; labels = []; rest = bytes; parts = refl; text_is = refl; signs = tt; each = tt; count = omega (arith, e) }

-- a length byte, and its label
begin : (before byte : ℕ) (bytes : List ℕ) → (leb 1 byte && leb byte 63) ≡ true → AreCounted (before + 1) byte bytes → AreCounted before 0 (byte ∷ bytes)
begin before byte bytes test r =
    let t = and_parts (leb 1 byte) (leb byte 63) test in
    let low : 1 ≤ byte = leb-true _ _ t.0 in
    let high : byte ≤ 63 = leb-true _ _ t.1 in
    let label : IsLabel r.text = record { some = omega (arith, r.text_is); short = omega (arith, r.text_is); signs = r.signs } in
    let tail : bytes ≡ (r.text ++ joined r.labels) ++ r.rest = r.parts ∙ sym (append_assoc r.text (joined r.labels) r.rest) in
    let all : byte ∷ bytes ≡ length r.text ∷ ((r.text ++ joined r.labels) ++ r.rest) = rw (tail, r.text_is) refl in
    let here : labels_from before 0 (byte ∷ bytes) ≡ labels_from (before + 1) byte bytes = rw test refl in
    record {
      text = [];
      labels = r.text ∷ r.labels;
      rest = r.rest;
      parts = all;
      text_is = refl;
      signs = tt;
      each = (label, r.each);
      count = omega (arith, here, r.count, r.text_is, length-append r.text (joined r.labels));
    }

-- a byte of a label
go_on : (before left byte : ℕ) (bytes : List ℕ) → (left ≡ 0 → ⊥) → is_sign byte ≡ true → AreCounted (before + 1) (left - 1) bytes → AreCounted before left (byte ∷ bytes)
go_on before left byte bytes some sign r =
    let here : labels_from before left (byte ∷ bytes) ≡ labels_from (before + 1) (left - 1) bytes = rw (ne_eqb _ _ some, sign) refl in
    record {
      text = byte ∷ r.text;
      labels = r.labels;
      rest = r.rest;
      parts = ap (λ (t : List ℕ). byte ∷ t) r.parts;
      text_is = omega (arith, r.text_is, some);
      signs = (sign_is byte sign, r.signs);
      each = r.each;
      count = omega (arith, here, r.count, some);
    }

pub counted : (bytes : List ℕ) (before left : ℕ) → 1 ≤ labels_from before left bytes → AreCounted before left bytes
counted [] before left some = elim (cases_Bool (eqb left 0)) [
  | inl none ↦ let z : left ≡ 0 = eqb-true _ _ none in rw z (labels_none before [] refl)
  | inr more ↦ absurd (let e : labels_from before left [] ≡ 0 = rw more refl in omega (arith, e, some))
]
counted (byte ∷ bytes) before left some = elim (cases_Bool (eqb left 0)) [
  | inl none ↦ elim (cases_Bool (leb 1 byte && leb byte 63)) [
    | inl test ↦
        let here : labels_from before left (byte ∷ bytes) ≡ labels_from (before + 1) byte bytes = rw (none, test) refl in
        let z : left ≡ 0 = eqb-true _ _ none in
        rw z (begin before byte bytes test (counted bytes (before + 1) byte (omega (arith, here, some))))
    | inr test ↦ let z : left ≡ 0 = eqb-true _ _ none in rw z (labels_none before (byte ∷ bytes) (rw test refl))
  ]
  | inr more ↦ elim (cases_Bool (is_sign byte)) [
    | inl sign ↦
        let here : labels_from before left (byte ∷ bytes) ≡ labels_from (before + 1) (left - 1) bytes = rw (more, sign) refl in
        go_on before left byte bytes (eqb-false _ _ more) sign (counted bytes (before + 1) (left - 1) (omega (arith, here, some)))
    | inr bad ↦ absurd (let here : labels_from before left (byte ∷ bytes) ≡ 0 = rw (more, bad) refl in omega (arith, here, some))
  ]
]

-- ---- the other way

count_text : (text tail : List ℕ) (before : ℕ) → AllByRecursion IsSign text → labels_from before (length text) (text ++ tail) ≡ labels_from (before + length text) 0 tail
count_text [] tail before h = let e : before ≡ before + 0 = omega arith in ap (λ (n : ℕ). labels_from n 0 tail) e
count_text (byte ∷ text) tail before h =
    let ih = count_text text tail (before + 1) h.1 in
    let some : eqb (suc (length text)) 0 ≡ false = ne_eqb _ _ (λ e. omega arith) in
    let less : suc (length text) - 1 ≡ length text = omega arith in
    let more : before + 1 + length text ≡ before + suc (length text) = omega arith in
    rw (some, sign_tests byte h.0, less) (ih ∙ ap (λ (n : ℕ). labels_from n 0 tail) more)

count_labels : (labels : List (List ℕ)) (rest : List ℕ) (before : ℕ) → ((n : ℕ) → labels_from n 0 rest ≡ n) → AllByRecursion IsLabel labels → labels_from before 0 (joined labels ++ rest) ≡ before + length (joined labels)
count_labels [] rest before ends h = ends before ∙ (let e : before ≡ before + 0 = omega arith in e)
count_labels (label ∷ labels) rest before ends h =
    let ih = count_labels labels rest (before + 1 + length label) ends h.1 in
    let begins : (leb 1 (length label) && leb (length label) 63) ≡ true = and_from (leb 1 (length label)) (leb (length label) 63) (le-leb _ _ h.0.some) (le-leb _ _ h.0.short) in
    let text = count_text label (joined labels ++ rest) (before + 1) h.0.signs in
    let parts : (label ++ joined labels) ++ rest ≡ label ++ (joined labels ++ rest) = append_assoc label (joined labels) rest in
    let sum : before + 1 + length label + length (joined labels) ≡ before + suc (length (label ++ joined labels)) = omega (arith, length-append label (joined labels)) in
    rw (begins, parts) (text ∙ ih ∙ sum)

-- ---- names

pub nothing_joined : (labels : List (List ℕ)) → 1 ≤ length (joined labels) → 1 ≤ length labels
nothing_joined [] h = h
nothing_joined (label ∷ labels) h = omega arith

something_joined : (labels : List (List ℕ)) → 1 ≤ length labels → 1 ≤ length (joined labels)
something_joined [] h = h
something_joined (label ∷ labels) h = omega arith

pub spelled_says : (bytes : List ℕ) → is_spelled bytes ≡ true → IsSpelled bytes
unfolding is_spelled labels_length
spelled_says bytes e =
    let a = and_parts (leb 1 (length bytes) && leb (length bytes) 254) (eqb (labels_from 0 0 bytes) (length bytes)) e in
    let b = and_parts (leb 1 (length bytes)) (leb (length bytes) 254) a.0 in
    let some : 1 ≤ length bytes = leb-true _ _ b.0 in
    let all : labels_from 0 0 bytes ≡ length bytes = eqb-true _ _ a.1 in
    let r = counted bytes 0 0 (omega arith) in
    let parts : bytes ≡ joined r.labels ++ r.rest = r.parts ∙ ap (λ (t : List ℕ). t ++ (joined r.labels ++ r.rest)) (nil_from_length r.text r.text_is) in
    let nothing : r.rest ≡ [] = nil_from_length r.rest (omega (arith, ap length parts, length-append (joined r.labels) r.rest, r.count, all)) in
    let whole : bytes ≡ joined r.labels = parts ∙ ap (λ (t : List ℕ). joined r.labels ++ t) nothing ∙ append-nil (joined r.labels) in
    record { labels = r.labels; some = nothing_joined r.labels (omega (arith, r.count, all, some)); each = r.each; joined = whole; short = leb-true _ _ b.1 }

-- a name is counted in front of nothing, and of a zero byte
pub length_spelled : (bytes rest : List ℕ) → IsSpelled bytes → ((n : ℕ) → labels_from n 0 rest ≡ n) → labels_length (bytes ++ rest) ≡ length bytes
unfolding labels_length
length_spelled bytes rest s ends =
    let none : 0 + length (joined s.labels) ≡ length (joined s.labels) = omega arith in
    rw s.joined (count_labels s.labels rest 0 ends s.each ∙ none)

pub spelled_some : (bytes : List ℕ) → IsSpelled bytes → 1 ≤ length bytes
spelled_some bytes s = rw s.joined (something_joined s.labels s.some)

pub spelled_tests : (bytes : List ℕ) → IsSpelled bytes → is_spelled bytes ≡ true
unfolding is_spelled
spelled_tests bytes s =
    let len : labels_length bytes ≡ length bytes = ap labels_length (sym (append-nil bytes)) ∙ length_spelled bytes [] s (λ n. refl) in
    and_from (leb 1 (length bytes) && leb (length bytes) 254) (eqb (labels_length bytes) (length bytes)) (and_from (leb 1 (length bytes)) (leb (length bytes) 254) (le-leb _ _ (spelled_some bytes s)) (le-leb _ _ s.short)) (eq-eqb _ _ len)

-- ---- a label at once

from_label : (bytes : List ℕ) (before left : ℕ) → labels_from before left bytes ≡ cond (leb left (length bytes) && list_all is_sign (take left bytes)) (labels_from (before + left) 0 (drop left bytes)) 0
from_label [] before zero = omega arith
from_label [] before (suc left) =
    let some : eqb (suc left) 0 ≡ false = ne_eqb _ _ (λ e. omega arith) in
    let over : leb (suc left) 0 ≡ false = grind (arith, nat_tests) in
    rw (some, over) refl
from_label (byte ∷ bytes) before zero =
    let same : before ≡ before + 0 = omega arith in
    let none : leb 0 (length (byte ∷ bytes)) ≡ true = grind (arith, nat_tests) in
    rw none (ap (λ (n : ℕ). labels_from n 0 (byte ∷ bytes)) same)
from_label (byte ∷ bytes) before (suc left) =
    let some : eqb (suc left) 0 ≡ false = ne_eqb _ _ (λ e. omega arith) in
    let less : suc left - 1 ≡ left = omega arith in
    let more : before + 1 + left ≡ before + suc left = omega arith in
    let step : leb (suc left) (suc (length bytes)) ≡ leb left (length bytes) = grind (arith, nat_tests) in
    elim (cases_Bool (is_sign byte)) [
      | inl sign ↦ rw (some, sign, less, step) (from_label bytes (before + 1) left ∙ ap (λ (n : ℕ). cond (leb left (length bytes) && list_all is_sign (take left bytes)) (labels_from n 0 (drop left bytes)) 0) more)
      | inr bad ↦ rw (some, bad) (none (leb (suc left) (suc (length bytes))) (labels_from (before + suc left) 0 (drop left bytes)))
    ]
  where
    none : (b : Bool) (n : ℕ) → 0 ≡ cond (b && false) n 0
    none true n = refl
    none false n = refl

-- a length byte: what its label leads to
begun : (before byte : ℕ) (bytes : List ℕ) → 1 ≤ byte → byte ≤ 63 → labels_from before 0 (byte ∷ bytes) ≡ labels_from (before + 1) byte bytes
begun before byte bytes some low = let t : (leb 1 byte && leb byte 63) ≡ true = and_from (leb 1 byte) (leb byte 63) (le-leb _ _ some) (le-leb _ _ low) in rw t refl

-- in front of some bytes: the length byte, and what is behind it
parted : (bytes after : List ℕ) → 1 ≤ length bytes → after ≡ drop 1 bytes → bytes ≡ slice_index bytes 0 ∷ after
parted bytes after some e = rw e (drop_more bytes 0 0 some)

abbrev whole : ℕ → List ℕ → Bool
whole count bytes = leb count (length bytes) && list_all is_sign (take count bytes)

pub label_read : (before : ℕ) (bytes after behind : List ℕ) → 1 ≤ length bytes → 1 ≤ slice_index bytes 0 → slice_index bytes 0 ≤ 63 → after ≡ drop 1 bytes → whole (slice_index bytes 0) after ≡ true → behind ≡ drop (slice_index bytes 0) after
    → labels_from (before + (1 + slice_index bytes 0)) 0 behind ≡ labels_from before 0 bytes
label_read before bytes after behind some least most a test b =
    let count = slice_index bytes 0 in
    let sum : before + (1 + count) ≡ before + 1 + count = omega arith in
    let all : labels_from (before + 1) count after ≡ labels_from (before + 1 + count) 0 (drop count after) = from_label after (before + 1) count ∙ cond-true _ _ _ test in
    rw (b, sum) (sym all ∙ sym (begun before count after least most) ∙ ap (labels_from before 0) (sym (parted bytes after some a)))

pub label_bad : (before : ℕ) (bytes after : List ℕ) → 1 ≤ length bytes → 1 ≤ slice_index bytes 0 → slice_index bytes 0 ≤ 63 → after ≡ drop 1 bytes → whole (slice_index bytes 0) after ≡ false → labels_from before 0 bytes ≡ 0
label_bad before bytes after some least most a test =
    let count = slice_index bytes 0 in
    ap (labels_from before 0) (parted bytes after some a) ∙ begun before count after least most ∙ from_label after (before + 1) count ∙ cond-false _ _ _ test
