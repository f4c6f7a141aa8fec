-- Pieces that are put one behind the other, into room for all of them.
use Rattle.std.proofs.Common.{◌≡◌, ℕ, ◌+◌, ◌≤◌, List, ◌++◌, length, vec_len, vec_capacity, refl, ap, ◌∙◌, arith, append_assoc}
use Rattle.std.specs.declared.vec.Vec.{Vec}
use Rattle.std.proofs.lemmas.List.{length-append}
use Rattle.nd_addr.specs.Room.{HasRoom, Puts}

-- so many were put that those that are left make up all, and no room was given up
pub record IsPutting {A : Type 0} (old now : Vec ℕ A) (left all : List ℕ) : Type 0 where
  pub items : now.items ++ left ≡ old.items ++ all
  pub len : vec_len now + length left ≡ vec_len old + length all
  pub capacity : vec_capacity old ≤ vec_capacity now

-- all are left
pub begins : {A : Type 0} (old : Vec ℕ A) (all : List ℕ) → IsPutting old old all all
begins old all = record { items = refl; len = refl; capacity = omega arith }

-- there is room for the next
pub room_left : {A : Type 0} (old now : Vec ℕ A) (piece left all : List ℕ) → HasRoom old (length all) → IsPutting old now (piece ++ left) all → HasRoom now (length piece)
room_left old now piece left all room h = omega (arith, room, h.len, h.capacity, length-append piece left)

-- one more was put
pub goes_on : {A : Type 0} (old now new : Vec ℕ A) (piece left all : List ℕ) → IsPutting old now (piece ++ left) all → Puts now new piece → IsPutting old new left all
goes_on old now new piece left all h p = record {
  items = ap (λ (xs : List ℕ). xs ++ left) p.0 ∙ append_assoc now.items piece left ∙ h.items;
  len = omega (arith, p.1, h.len, length-append piece left);
  capacity = omega (arith, p.2, h.capacity);
}

-- two, one behind the other
pub puts_both : {A : Type 0} (old now new : Vec ℕ A) (first second : List ℕ) → Puts old now first → Puts now new second → Puts old new (first ++ second)
puts_both old now new first second p q =
    let items : new.items ≡ old.items ++ (first ++ second) = q.0 ∙ ap (λ (xs : List ℕ). xs ++ second) p.0 ∙ append_assoc old.items first second in
    (items, omega (arith, p.1, q.1, length-append first second), omega (arith, p.2, q.2))
