-- Lists of bytes.
use Rattle.std.proofs.Common.{◌≡◌, ℕ, zero, suc, ◌+◌, ◌-◌, ◌<◌, ◌≤◌, List, [], ◌∷◌, ◌++◌, length, take, drop, get_or, refl, sym, ap, ◌∙◌, arith, inl, inr}
use Rattle.std.specs.List.{AllByRecursion}
use Rattle.std.proofs.lemmas.Bool.{cases_lt}
use Rattle.std.proofs.lemmas.List.{length-drop, length-take, get_or-drop, get_or-take, get_or_past, get_or_append_left, get_or-append_right}
use Rattle.byteorder.specs.Endian.{big_bytes}
use Rattle.nd_addr.specs.Bytes.{IsBytes, AreBytes}

-- the same by cases on the list, which computes on a list that is written out
abbrev pub AreSmall : List ℕ → Type 0
AreSmall xs = AllByRecursion (λ x. x < 256) xs

pub IsBytes-from : (xs : List ℕ) → AreSmall xs → IsBytes xs
IsBytes-from [] h i = omega arith
IsBytes-from (x ∷ xs) h zero = h.0
IsBytes-from (x ∷ xs) h (suc i) = IsBytes-from xs h.1 i

pub AreSmall-from : (xs : List ℕ) → IsBytes xs → AreSmall xs
AreSmall-from [] h = tt
AreSmall-from (x ∷ xs) h = (h 0, AreSmall-from xs (λ i. h (suc i)))

pub AreSmall-append : (xs ys : List ℕ) → AreSmall xs → AreSmall ys → AreSmall (xs ++ ys)
AreSmall-append [] ys h k = k
AreSmall-append (x ∷ xs) ys h k = (h.0, AreSmall-append xs ys h.1 k)

pub IsBytes-drop : (n : ℕ) (xs : List ℕ) → IsBytes xs → IsBytes (drop n xs)
IsBytes-drop n xs h i = rw get_or-drop (h (n + i))

pub IsBytes-take : (n : ℕ) (xs : List ℕ) → IsBytes xs → IsBytes (take n xs)
IsBytes-take n xs h i = elim (cases_lt i n) [
  | inl lt ↦ rw (get_or-take n xs i 0 lt) (h i)
  | inr le ↦ rw (get_or_past (take n xs) i 0 (omega (arith, length-take n xs))) (omega arith)
]

pub IsBytes-left : (xs ys : List ℕ) → IsBytes (xs ++ ys) → IsBytes xs
IsBytes-left xs ys h i = elim (cases_lt i (length xs)) [
  | inl lt ↦ rw (sym (get_or_append_left xs ys 0 i lt)) (h i)
  | inr le ↦ rw (get_or_past xs i 0 le) (omega arith)
]

pub IsBytes-right : (xs ys : List ℕ) → IsBytes (xs ++ ys) → IsBytes ys
IsBytes-right xs ys h i =
    let at : get_or (xs ++ ys) (length xs + i) 0 ≡ get_or ys (length xs + i - length xs) 0 = get_or-append_right xs ys (length xs) (length xs + i) 0 refl (omega arith) in
    let place : length xs + i - length xs ≡ i = omega arith in
    rw (sym (at ∙ ap (λ (k : ℕ). get_or ys k 0) place)) (h (length xs + i))

pub small_four : (x : ℕ) (rest : List ℕ) → AreSmall rest → AreSmall (big_bytes 4 x ++ rest)
small_four x rest h = (omega arith, (omega arith, (omega arith, (omega arith, h))))

pub small_two : (x : ℕ) (rest : List ℕ) → AreSmall rest → AreSmall (big_bytes 2 x ++ rest)
small_two x rest h = (omega arith, (omega arith, h))

pub AreBytes-part : (n m : ℕ) (xs : List ℕ) → n + m ≤ length xs → IsBytes xs → AreBytes m (take m (drop n xs))
AreBytes-part n m xs le h = record { len_is = omega (arith, length-take m (drop n xs), length-drop n xs); each = IsBytes-take m (drop n xs) (IsBytes-drop n xs h) }
