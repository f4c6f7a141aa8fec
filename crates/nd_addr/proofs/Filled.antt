-- An array that is written part by part, from its first byte to its last.
use Rattle.std.proofs.Common.{◌≡◌, ℕ, ◌+◌, ◌≤◌, List, ◌++◌, length, take, drop, sym, ap, ◌∙◌, arith, append_assoc}
use Rattle.std.proofs.lemmas.List.{take_at, drop_at, length-append, length-take, length-drop}
use borrow.Rule.Slice.PartMut.{put_mid}

-- the first part
pub first_part : (part bytes rest : List ℕ) → part ≡ bytes → part ++ rest ≡ bytes ++ rest
first_part part bytes rest e = ap (λ (xs : List ℕ). xs ++ rest) e

-- a part behind those that are written, over as many bytes of the rest
pub next_part : (a k : ℕ) (whole front rest part bytes : List ℕ) → length front ≡ a → whole ≡ front ++ rest → part ≡ bytes → put_mid a k whole part ≡ front ++ bytes ++ drop k rest
next_part a k whole front rest part bytes at w p =
    ap (λ (xs : List ℕ). put_mid a k xs part) w
    ∙ ap (λ (xs : List ℕ). xs ++ (part ++ drop k (drop a (front ++ rest)))) (take_at front rest a at)
    ∙ ap (λ (xs : List ℕ). front ++ (part ++ drop k xs)) (drop_at front rest a at)
    ∙ ap (λ (xs : List ℕ). front ++ (xs ++ drop k rest)) p
    ∙ sym (append_assoc front bytes (drop k rest))

-- a part that is written leaves the length
pub length-put_mid : (a k : ℕ) (whole part : List ℕ) → a + k ≤ length whole → length part ≡ k → length (put_mid a k whole part) ≡ length whole
length-put_mid a k whole part le is =
    omega (arith, length-append (take a whole) (part ++ drop k (drop a whole)), length-append part (drop k (drop a whole)), length-take a whole, length-drop k (drop a whole), length-drop a whole)
