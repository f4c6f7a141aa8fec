-- The text of a name is its labels, parted by dots.
use Rattle.std.proofs.Common.{◌≡◌, ℕ, suc, ◌-◌, ◌≤◌, ◌<◌, false, eqb, List, [], ◌∷◌, ◌++◌, length, take, drop, get_or, refl, ap, ◌∙◌, arith}
use Rattle.std.specs.List.{AllByRecursion}
use Rattle.std.proofs.lemmas.Bool.{ne_eqb}
use Rattle.std.proofs.lemmas.List.{append-nil, take_rest}
use Rattle.nd_search_list.specs.Label.{IsLabel}
use Rattle.nd_search_list.specs.Name.{IsSpelled, lowered}
use Rattle.nd_search_list.specs.Text.{dotted, IsText, text_from, name_text}
use Rattle.nd_search_list.proofs.Labels.{joined}
use Rattle.nd_search_list.proofs.Lowering.{lowered_spelled, spelled_low}
use Rattle.nd_search_list.proofs.Signs.{lower_same, low_is_no_capital}
use Rattle.std.specs.Char.{to_ascii_lowercase}

-- a label is written as it is, and then what follows
text_behind : (label tail : List ℕ) → text_from (length label) (label ++ tail) ≡ label ++ text_from 0 tail
text_behind [] tail = refl
text_behind (byte ∷ label) tail =
    let some : eqb (suc (length label)) 0 ≡ false = ne_eqb _ _ (λ e. omega arith) in
    let less : suc (length label) - 1 ≡ length label = omega arith in
    rw (some, less) (ap (λ (t : List ℕ). byte ∷ t) (text_behind label tail))

dotted_from : (label : List ℕ) (labels : List (List ℕ)) → text_from (length label) (label ++ joined labels) ≡ dotted (label ∷ labels)
dotted_from label [] = text_behind label [] ∙ append-nil label
dotted_from label (next ∷ labels) = text_behind label (joined (next ∷ labels)) ∙ ap (λ (t : List ℕ). label ++ 46 ∷ t) (dotted_from next labels)

text_joined : (labels : List (List ℕ)) → 1 ≤ length labels → name_text (joined labels) ≡ dotted labels
text_joined [] h = refl
text_joined (label ∷ labels) h = dotted_from label labels

pub text_is : (bytes : List ℕ) → IsSpelled bytes → IsText (lowered bytes) (name_text (lowered bytes))
text_is bytes s =
    let l = lowered_spelled bytes s in
    record { labels = l.labels; each = l.each; name_is = l.joined; text_is = ap name_text l.joined ∙ text_joined l.labels l.some }

-- the first byte is a length byte, which stays in lowering
first_stays : (labels : List (List ℕ)) → AllByRecursion IsLabel labels → to_ascii_lowercase (get_or (joined labels) 0 0) ≡ get_or (joined labels) 0 0
first_stays [] h = refl
first_stays (label ∷ labels) h = lower_same (length label) (low_is_no_capital (length label) h.0.short)

-- the text by the first byte and the others
pub text_from_rest : (bytes : List ℕ) → IsSpelled bytes → 1 ≤ length bytes → name_text (lowered bytes) ≡ text_from (get_or bytes 0 0) (lowered (take (length bytes - 1) (drop 1 bytes)))
text_from_rest bytes s some =
    let first : to_ascii_lowercase (get_or bytes 0 0) ≡ get_or bytes 0 0 = rw s.joined (first_stays s.labels s.each) in
    rw (take_rest bytes 1) (by_cases bytes first)
  where
    by_cases : (bs : List ℕ) → to_ascii_lowercase (get_or bs 0 0) ≡ get_or bs 0 0 → name_text (lowered bs) ≡ text_from (get_or bs 0 0) (lowered (drop 1 bs))
    by_cases [] e = refl
    by_cases (byte ∷ bs) e = rw e refl

pub low_rest : (bytes : List ℕ) → IsSpelled bytes → AllByRecursion (λ byte. byte < 128) (take (length bytes - 1) (drop 1 bytes))
low_rest bytes s = rw (take_rest bytes 1) (by_cases bytes (spelled_low bytes s))
  where
    by_cases : (bs : List ℕ) → AllByRecursion (λ byte. byte < 128) bs → AllByRecursion (λ byte. byte < 128) (drop 1 bs)
    by_cases [] h = tt
    by_cases (byte ∷ bs) h = h.1
