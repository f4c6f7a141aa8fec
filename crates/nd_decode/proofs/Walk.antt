-- Going over options: a step, the end, and that the count of steps does not matter.
use Rattle.std.proofs.Common.{◌≡◌, ℕ, zero, suc, ◌*◌, ◌-◌, ◌≤◌, true, false, leb, ◌&&◌, List, [], ◌∷◌, length, take, drop, slice_index, refl, sym, ap, ◌∙◌, arith, inl, inr}
use Rattle.std.proofs.lemmas.Bool.{cases_Bool, and_parts, and_from, leb-true, le-leb}
use Rattle.std.proofs.lemmas.List.{length-drop, nil_from_length}
use Rattle.nd_decode.specs.Option.{Said, option_of}
use Rattle.nd_decode.specs.Whole.{piece_length, begins_whole, rest_from, rest_in}
use Rattle.nd_decode.specs.Pieces.{options_from, options_in}

-- a whole piece in front
pub record IsFront (bytes : List ℕ) : Type 0 where
  pub two : 2 ≤ length bytes
  pub some : 1 ≤ slice_index bytes 1
  pub fits : 8 * slice_index bytes 1 ≤ length bytes

pub front_is : (bytes : List ℕ) → begins_whole bytes ≡ true → IsFront bytes
front_is bytes e =
    let a = and_parts (leb 2 (length bytes) && leb 1 (slice_index bytes 1)) (leb (piece_length bytes) (length bytes)) e in
    let b = and_parts (leb 2 (length bytes)) (leb 1 (slice_index bytes 1)) a.0 in
    record { two = leb-true _ _ b.0; some = leb-true _ _ b.1; fits = leb-true _ _ a.1 }

pub begins : (bytes : List ℕ) → IsFront bytes → begins_whole bytes ≡ true
begins bytes h =
    and_from (leb 2 (length bytes) && leb 1 (slice_index bytes 1)) (leb (piece_length bytes) (length bytes)) (and_from (leb 2 (length bytes)) (leb 1 (slice_index bytes 1)) (le-leb _ _ h.two) (le-leb _ _ h.some)) (le-leb _ _ h.fits)

shorter : (n : ℕ) (bytes : List ℕ) → length bytes ≤ suc n → begins_whole bytes ≡ true → length (drop (piece_length bytes) bytes) ≤ n
shorter n bytes le e = let h = front_is bytes e in omega (arith, length-drop (piece_length bytes) bytes)

options_from-nil : (n : ℕ) → options_from n [] ≡ []
options_from-nil zero = refl
options_from-nil (suc n) = refl

-- more steps than bytes change nothing
options_from-any : (m n : ℕ) (bytes : List ℕ) → length bytes ≤ m → length bytes ≤ n → options_from m bytes ≡ options_from n bytes
options_from-any zero n bytes h k = let e : bytes ≡ [] = nil_from_length bytes (omega arith) in rw e (sym (options_from-nil n))
options_from-any (suc m) zero bytes h k = let e : bytes ≡ [] = nil_from_length bytes (omega arith) in rw e refl
options_from-any (suc m) (suc n) bytes h k =
    elim (cases_Bool (begins_whole bytes)) [
      | inl whole ↦ let ih = options_from-any m n (drop (piece_length bytes) bytes) (shorter m bytes h whole) (shorter n bytes k whole) in rw (whole, ih) refl
      | inr over ↦ rw over refl
    ]

pub options_in_step : (bytes : List ℕ) → begins_whole bytes ≡ true → options_in bytes ≡ option_of (take (piece_length bytes) bytes) ∷ options_in (drop (piece_length bytes) bytes)
unfolding options_in
options_in_step bytes e =
    let h = front_is bytes e in
    let some : length bytes ≡ suc (length bytes - 1) = omega (arith, h.two) in
    let less : length (drop (piece_length bytes) bytes) ≤ length bytes - 1 = shorter (length bytes - 1) bytes (omega arith) e in
    let one : options_from (suc (length bytes - 1)) bytes ≡ option_of (take (piece_length bytes) bytes) ∷ options_from (length bytes - 1) (drop (piece_length bytes) bytes) = rw e refl in
    ap (λ (n : ℕ). options_from n bytes) some ∙ one ∙ ap (λ (os : List Said). option_of (take (piece_length bytes) bytes) ∷ os) (options_from-any (length bytes - 1) (length (drop (piece_length bytes) bytes)) (drop (piece_length bytes) bytes) less (omega arith))

pub options_in_stop : (bytes : List ℕ) → begins_whole bytes ≡ false → options_in bytes ≡ []
unfolding options_in
options_in_stop bytes e =
    let one : (n : ℕ) → options_from n bytes ≡ [] = stop bytes e in one (length bytes)
  where
    stop : (b : List ℕ) → begins_whole b ≡ false → (n : ℕ) → options_from n b ≡ []
    stop b e zero = refl
    stop b e (suc n) = rw e refl

rest_from-nil : (n : ℕ) → rest_from n [] ≡ []
rest_from-nil zero = refl
rest_from-nil (suc n) = refl

rest_from-any : (m n : ℕ) (bytes : List ℕ) → length bytes ≤ m → length bytes ≤ n → rest_from m bytes ≡ rest_from n bytes
rest_from-any zero n bytes h k = let e : bytes ≡ [] = nil_from_length bytes (omega arith) in rw e (sym (rest_from-nil n))
rest_from-any (suc m) zero bytes h k = let e : bytes ≡ [] = nil_from_length bytes (omega arith) in rw e refl
rest_from-any (suc m) (suc n) bytes h k =
    elim (cases_Bool (begins_whole bytes)) [
      | inl whole ↦ let ih = rest_from-any m n (drop (piece_length bytes) bytes) (shorter m bytes h whole) (shorter n bytes k whole) in rw (whole, ih) refl
      | inr over ↦ rw over refl
    ]

pub rest_in_step : (bytes : List ℕ) → begins_whole bytes ≡ true → rest_in bytes ≡ rest_in (drop (piece_length bytes) bytes)
unfolding rest_in
rest_in_step bytes e =
    let h = front_is bytes e in
    let some : length bytes ≡ suc (length bytes - 1) = omega (arith, h.two) in
    let less : length (drop (piece_length bytes) bytes) ≤ length bytes - 1 = shorter (length bytes - 1) bytes (omega arith) e in
    let one : rest_from (suc (length bytes - 1)) bytes ≡ rest_from (length bytes - 1) (drop (piece_length bytes) bytes) = rw e refl in
    ap (λ (n : ℕ). rest_from n bytes) some ∙ one ∙ rest_from-any (length bytes - 1) (length (drop (piece_length bytes) bytes)) (drop (piece_length bytes) bytes) less (omega arith)

pub rest_in_stop : (bytes : List ℕ) → begins_whole bytes ≡ false → rest_in bytes ≡ bytes
unfolding rest_in
rest_in_stop bytes e = let one : (n : ℕ) → rest_from n bytes ≡ bytes = stop bytes e in one (length bytes)
  where
    stop : (b : List ℕ) → begins_whole b ≡ false → (n : ℕ) → rest_from n b ≡ b
    stop b e zero = refl
    stop b e (suc n) = rw e refl

-- what is left behind whole pieces begins with none
rest_from-stops : (n : ℕ) (bytes : List ℕ) → length bytes ≤ n → begins_whole (rest_from n bytes) ≡ false
rest_from-stops zero bytes h = let e : bytes ≡ [] = nil_from_length bytes (omega arith) in rw e refl
rest_from-stops (suc n) bytes h =
    elim (cases_Bool (begins_whole bytes)) [
      | inl whole ↦ rw whole (rest_from-stops n (drop (piece_length bytes) bytes) (shorter n bytes h whole))
      | inr over ↦ rw over over
    ]

pub rest_in_stops : (bytes : List ℕ) → begins_whole (rest_in bytes) ≡ false
unfolding rest_in
rest_in_stops bytes = rest_from-stops (length bytes) bytes (omega arith)

-- ---- bytes that are whole pieces

-- one is in front, unless there are none
pub whole_front : (bytes : List ℕ) → rest_in bytes ≡ [] → 1 ≤ length bytes → IsFront bytes
whole_front bytes all some = elim (cases_Bool (begins_whole bytes)) [
  | inl whole ↦ front_is bytes whole
  | inr over ↦ absurd (let rest : length (rest_in bytes) ≡ length bytes = ap length (rest_in_stop bytes over) in omega (arith, rest, ap length all, some))
]

-- those behind it are whole
pub whole_behind : (bytes rest : List ℕ) → rest_in bytes ≡ [] → begins_whole bytes ≡ true → rest ≡ drop (piece_length bytes) bytes → rest_in rest ≡ []
whole_behind bytes rest all whole e = ap rest_in e ∙ sym (rest_in_step bytes whole) ∙ all
