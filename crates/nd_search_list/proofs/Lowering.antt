-- Names in small letters.
use Rattle.std.proofs.Common.{◌≡◌, ℕ, ◌<◌, true, eqb, not, List, [], ◌∷◌, ◌++◌, length, map, refl, sym, ap, subst, ◌∙◌, arith}
use Rattle.std.specs.List.{AllByRecursion}
use Rattle.std.specs.Char.{IsAsciiUppercase, is_ascii_uppercase, to_ascii_lowercase}
use Rattle.std.proofs.lemmas.Bool.{and_parts, and_from, eqb-true, eq-eqb, not-true}
use Rattle.std.proofs.lemmas.List.{length-map, map-append}
use Rattle.nd_search_list.specs.Label.{IsSign, IsLabel}
use Rattle.nd_search_list.specs.Name.{IsSpelled, lowered, IsName}
use Rattle.nd_search_list.specs.Reading.{is_spelled, are_small, is_name, lowers_to}
use Rattle.nd_search_list.proofs.Signs.{sign_low, lower_same, lower_is_small, low_is_no_capital, lower_sign, small_is, small_tests}
use Rattle.nd_search_list.proofs.Labels.{joined, spelled_says, spelled_tests}

lowered_signs : (text : List ℕ) → AllByRecursion IsSign text → AllByRecursion IsSign (lowered text)
lowered_signs [] h = tt
lowered_signs (byte ∷ text) h = (lower_sign byte h.0, lowered_signs text h.1)

lowered_label : (label : List ℕ) → IsLabel label → IsLabel (lowered label)
lowered_label label h =
    let len : length (lowered label) ≡ length label = length-map label to_ascii_lowercase in
    record { some = omega (arith, len, h.some); short = omega (arith, len, h.short); signs = lowered_signs label h.signs }

lowered_labels : (labels : List (List ℕ)) → AllByRecursion IsLabel labels → AllByRecursion IsLabel (map lowered labels)
lowered_labels [] h = tt
lowered_labels (label ∷ labels) h = (lowered_label label h.0, lowered_labels labels h.1)

lowered_joined : (labels : List (List ℕ)) → AllByRecursion IsLabel labels → lowered (joined labels) ≡ joined (map lowered labels)
lowered_joined [] h = refl
lowered_joined (label ∷ labels) h =
    let len : length (lowered label) ≡ length label = length-map label to_ascii_lowercase in
    let first : to_ascii_lowercase (length label) ≡ length label = lower_same (length label) (low_is_no_capital (length label) h.0.short) in
    let rest : lowered (label ++ joined labels) ≡ lowered label ++ joined (map lowered labels) = map-append to_ascii_lowercase label (joined labels) ∙ ap (λ (t : List ℕ). lowered label ++ t) (lowered_joined labels h.1) in
    rw (first, rest, len) refl

lowered_is_small : (bytes : List ℕ) → AllByRecursion (λ byte. IsAsciiUppercase byte → ⊥) (lowered bytes)
lowered_is_small [] = tt
lowered_is_small (byte ∷ bytes) = (lower_is_small byte, lowered_is_small bytes)

pub lowered_spelled : (bytes : List ℕ) → IsSpelled bytes → IsSpelled (lowered bytes)
lowered_spelled bytes s =
    let len : length (map lowered s.labels) ≡ length s.labels = length-map s.labels lowered in
    let all : length (lowered bytes) ≡ length bytes = length-map bytes to_ascii_lowercase in
    record {
      labels = map lowered s.labels;
      some = omega (arith, len, s.some);
      each = lowered_labels s.labels s.each;
      joined = ap lowered s.joined ∙ lowered_joined s.labels s.each;
      short = omega (arith, all, s.short);
    }

-- a spelled name in small letters is a name
pub lowered_is_name : (bytes : List ℕ) → IsSpelled bytes → IsName (lowered bytes)
lowered_is_name bytes s = record { spelled = lowered_spelled bytes s; small = lowered_is_small bytes }

same_if_small : (bytes : List ℕ) → AllByRecursion (λ byte. IsAsciiUppercase byte → ⊥) bytes → lowered bytes ≡ bytes
same_if_small [] h = refl
same_if_small (byte ∷ bytes) h = rw (lower_same byte h.0, same_if_small bytes h.1) refl

-- a name stays as it is
pub name_lowered : (name : List ℕ) → IsName name → lowered name ≡ name
name_lowered name h = same_if_small name h.small

-- ---- the tests

small_says : (bytes : List ℕ) → are_small bytes ≡ true → AllByRecursion (λ byte. IsAsciiUppercase byte → ⊥) bytes
small_says [] e = tt
small_says (byte ∷ bytes) e = let a = and_parts (not (is_ascii_uppercase byte)) (are_small bytes) e in (small_is byte (not-true _ a.0), small_says bytes a.1)

small_tests_all : (bytes : List ℕ) → AllByRecursion (λ byte. IsAsciiUppercase byte → ⊥) bytes → are_small bytes ≡ true
small_tests_all [] h = refl
small_tests_all (byte ∷ bytes) h = rw (small_tests byte h.0) (small_tests_all bytes h.1)

pub name_says : (bytes : List ℕ) → is_name bytes ≡ true → IsName bytes
name_says bytes e = let a = and_parts (is_spelled bytes) (are_small bytes) e in record { spelled = spelled_says bytes a.0; small = small_says bytes a.1 }

pub name_tests : (bytes : List ℕ) → IsName bytes → is_name bytes ≡ true
name_tests bytes h = and_from (is_spelled bytes) (are_small bytes) (spelled_tests bytes h.spelled) (small_tests_all bytes h.small)

pub tests_of_name : (bytes : List ℕ) → IsName bytes → (is_spelled bytes ≡ true) × (are_small bytes ≡ true)
tests_of_name bytes h = and_parts (is_spelled bytes) (are_small bytes) (name_tests bytes h)

pub same_says : (bytes others : List ℕ) → lowers_to bytes others ≡ true → lowered bytes ≡ others
same_says [] [] e = refl
same_says [] (other ∷ others) e = absurd cc
same_says (byte ∷ bytes) [] e = absurd cc
same_says (byte ∷ bytes) (other ∷ others) e =
    let a = and_parts (eqb (to_ascii_lowercase byte) other) (lowers_to bytes others) e in rw (eqb-true _ _ a.0, same_says bytes others a.1) refl

same_tests_itself : (bytes : List ℕ) → lowers_to bytes (lowered bytes) ≡ true
same_tests_itself [] = refl
same_tests_itself (byte ∷ bytes) = and_from (eqb (to_ascii_lowercase byte) (to_ascii_lowercase byte)) (lowers_to bytes (lowered bytes)) (eq-eqb _ _ refl) (same_tests_itself bytes)

pub same_tests : (bytes others : List ℕ) → lowered bytes ≡ others → lowers_to bytes others ≡ true
same_tests bytes others e = subst (λ (t : List ℕ). lowers_to bytes t ≡ true) e (same_tests_itself bytes)

-- ---- bytes of a name

low_append : (xs ys : List ℕ) → AllByRecursion (λ byte. byte < 128) xs → AllByRecursion (λ byte. byte < 128) ys → AllByRecursion (λ byte. byte < 128) (xs ++ ys)
low_append [] ys h k = k
low_append (x ∷ xs) ys h k = (h.0, low_append xs ys h.1 k)

low_signs : (text : List ℕ) → AllByRecursion IsSign text → AllByRecursion (λ byte. byte < 128) text
low_signs [] h = tt
low_signs (byte ∷ text) h = (sign_low byte h.0, low_signs text h.1)

low_joined : (labels : List (List ℕ)) → AllByRecursion IsLabel labels → AllByRecursion (λ byte. byte < 128) (joined labels)
low_joined [] h = tt
low_joined (label ∷ labels) h = (omega (arith, h.0.short), low_append label (joined labels) (low_signs label h.0.signs) (low_joined labels h.1))

-- each byte of a name is below 128
pub spelled_low : (bytes : List ℕ) → IsSpelled bytes → AllByRecursion (λ byte. byte < 128) bytes
spelled_low bytes s = subst (λ (t : List ℕ). AllByRecursion (λ (byte : ℕ). byte < 128) t) (sym s.joined) (low_joined s.labels s.each)
