-- Options that are read are spelled so, and what is spelled is read.
use Rattle.std.proofs.Common.{◌≡◌, ℕ, zero, suc, ◌≤◌, true, false, List, [], ◌∷◌, ◌++◌, length, take, drop, slice_index, refl, sym, ap, ◌∙◌, arith, inl, inr, append_assoc}
use Rattle.std.proofs.lemmas.Bool.{cases_Bool}
use Rattle.std.proofs.lemmas.List.{length-drop, length-append, length-take-le, get_or-take, get_or_append_left, take-append-drop, take_at, drop_at}
use Rattle.nd_decode.specs.Option.{Said, option_of, IsPiece}
use Rattle.nd_decode.specs.Whole.{piece_length, begins_whole, rest_in}
use Rattle.nd_decode.specs.Pieces.{options_in}
use Rattle.nd_decode.specs.Options.{SpellsOptions}
use Rattle.nd_decode.proofs.Walk.{IsFront, front_is, begins, options_in_step, options_in_stop, rest_in_step, rest_in_stop}
use Rattle.nd_decode.proofs.Says.{option_says, says_one}

-- the first piece is one
pub front_piece : (bytes : List ℕ) → IsFront bytes → IsPiece (take (piece_length bytes) bytes)
front_piece bytes h =
    let second : slice_index (take (piece_length bytes) bytes) 1 ≡ slice_index bytes 1 = get_or-take (piece_length bytes) bytes 1 0 (omega (arith, h.some)) in
    let len : length (take (piece_length bytes) bytes) ≡ piece_length bytes = length-take-le (piece_length bytes) bytes h.fits in
    record { some = omega (arith, second, h.some); whole = omega (arith, second, len) }

-- the options that are read are spelled by the bytes in front of the rest
pub spelled : (n : ℕ) (bytes : List ℕ) → length bytes ≤ n → (front : List ℕ) × (bytes ≡ front ++ rest_in bytes) × SpellsOptions front (options_in bytes)
spelled zero bytes le = elim (cases_Bool (begins_whole bytes)) [
  | inl whole ↦ absurd (let h = front_is bytes whole in omega (arith, h.two))
  | inr over ↦ ([], sym (rest_in_stop bytes over), rw (options_in_stop bytes over) refl)
]
spelled (suc n) bytes le = elim (cases_Bool (begins_whole bytes)) [
  | inr over ↦ ([], sym (rest_in_stop bytes over), rw (options_in_stop bytes over) refl)
  | inl whole ↦
      let h = front_is bytes whole in
      let less : length (drop (piece_length bytes) bytes) ≤ n = omega (arith, length-drop (piece_length bytes) bytes, h.some) in
      let more = spelled n (drop (piece_length bytes) bytes) less in
      let parts : bytes ≡ (take (piece_length bytes) bytes ++ more.0) ++ rest_in bytes =
      sym (take-append-drop (piece_length bytes) bytes)
      ∙ ap (λ (t : List ℕ). take (piece_length bytes) bytes ++ t) more.1
      ∙ sym (append_assoc (take (piece_length bytes) bytes) more.0 (rest_in (drop (piece_length bytes) bytes)))
      ∙ ap (λ (t : List ℕ). (take (piece_length bytes) bytes ++ more.0) ++ t) (sym (rest_in_step bytes whole)) in
      let first = take (piece_length bytes) bytes in
      (first ++ more.0, parts, rw (options_in_step bytes whole) (first, more.0, refl, front_piece bytes h, option_says first (front_piece bytes h), more.2))
]

-- a piece in front of anything
pub record IsStep (piece rest : List ℕ) : Type 0 where
  pub whole : begins_whole (piece ++ rest) ≡ true
  pub first : take (piece_length (piece ++ rest)) (piece ++ rest) ≡ piece
  pub after : drop (piece_length (piece ++ rest)) (piece ++ rest) ≡ rest

step_of : (piece rest : List ℕ) → IsPiece piece → IsStep piece rest
step_of piece rest p =
    let second : slice_index (piece ++ rest) 1 ≡ slice_index piece 1 = get_or_append_left piece rest 0 1 (omega (arith, p.some, p.whole)) in
    let len : length piece ≡ piece_length (piece ++ rest) = omega (arith, p.whole, second) in
    record {
      whole = begins (piece ++ rest) (record { two = omega (arith, p.some, p.whole, length-append piece rest); some = omega (arith, p.some, second); fits = omega (arith, len, length-append piece rest) });
      first = take_at piece rest (piece_length (piece ++ rest)) len;
      after = drop_at piece rest (piece_length (piece ++ rest)) len;
    }

-- what is spelled in front of a tail that begins with no whole piece is read, and the tail is left
pub walked : (options : List Said) (front tail : List ℕ) → begins_whole tail ≡ false → SpellsOptions front options
    → (options_in (front ++ tail) ≡ options) × (rest_in (front ++ tail) ≡ tail)
walked [] front tail over h =
    let e : front ++ tail ≡ tail = ap (λ (f : List ℕ). f ++ tail) h in
    (ap options_in e ∙ options_in_stop tail over, ap rest_in e ∙ rest_in_stop tail over)
walked (o ∷ os) front tail over h =
    let ih = walked os h.1 tail over h.5 in
    let s = step_of h.0 (h.1 ++ tail) h.3 in
    let e : front ++ tail ≡ h.0 ++ (h.1 ++ tail) = ap (λ (f : List ℕ). f ++ tail) h.2 ∙ append_assoc h.0 h.1 tail in
    let said : option_of (take (piece_length (h.0 ++ (h.1 ++ tail))) (h.0 ++ (h.1 ++ tail))) ≡ o = ap option_of s.first ∙ sym (says_one h.0 o h.3 h.4) in
    let later : options_in (drop (piece_length (h.0 ++ (h.1 ++ tail))) (h.0 ++ (h.1 ++ tail))) ≡ os = ap options_in s.after ∙ ih.0 in (
      ap options_in e ∙ options_in_step (h.0 ++ (h.1 ++ tail)) s.whole ∙ rw (said, later) refl,
      ap rest_in e ∙ rest_in_step (h.0 ++ (h.1 ++ tail)) s.whole ∙ ap rest_in s.after ∙ ih.1,
    )
