-- Rows that are written one after the other to the front of a list.
use Rattle.std.proofs.Common.{◌≡◌, ◌<◌, ◌++◌, List, [], ◌∷◌, Option, Some, length, drop, map, refl, sym, ap, arith, slice_set, subst}
use Rattle.std.specs.Iterator.{Yields}

-- one item more
pub yields_more : {S A : Type 0} (steps : S → Option A → S → Type 0) (s t u : S) (xs : List A) (x : A) → Yields steps s xs t → steps t (Some x) u → Yields steps s (xs ++ x ∷ []) u
yields_more steps s t u [] x e step = (u, subst (λ j. steps j (Some x) u) (sym e) step, refl)
yields_more steps s t u (y ∷ ys) x (j, first, rest) step = (j, first, yields_more steps j t u ys x rest step)

-- its row is written behind those before it
pub row_more : {A R : Type 0} (f : A → R) (xs : List A) (x : A) (old : List R) (row : R) → length xs < length old → row ≡ f x
    → slice_set (map f xs ++ drop (length xs) old) (length xs) row ≡ map f (xs ++ x ∷ []) ++ drop (length (xs ++ x ∷ [])) old
row_more f [] x [] row less e = absurd (omega arith)
row_more f [] x (o ∷ os) row less e = ap (λ r. r ∷ os) e
row_more f (y ∷ ys) x [] row less e = absurd (omega arith)
row_more f (y ∷ ys) x (o ∷ os) row less e = ap (λ l. f y ∷ l) (row_more f ys x os row (omega arith) e)
