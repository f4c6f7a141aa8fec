-- What an iterator gives at an index is what its list has there.
use Rattle.std.proofs.Common.{◌≡◌, ℕ, ◌≤◌, List, [], ◌∷◌, length, Some, None, sym, ◌∙◌, ap, arith, suc, zero}
use Rattle.std.specs.Prelude.{Option, MatchOption, slice_get}
use Rattle.std.specs.Iterator.{Yields, YieldsFirstBy, SkipsThenYields}

module _ {S A B : Type 0} (view : A → B) (rest : S → List B) where
  -- what is at an index, if something is
  abbrev pub IsAt : List B → ℕ → Option A → Type 0
  IsAt list n None = slice_get list n ≡ None
  IsAt list n (Some x) = slice_get list n ≡ Some (view x)

  behind : (xs : List A) (n : ℕ) (s t u : S) (r : Option A) → Yields (YieldsFirstBy view rest) s xs t → YieldsFirstBy view rest t r u
      → MatchOption r (length xs ≤ n) (λ _. length xs ≡ n) → IsAt (rest s) n r
  behind [] n s t u None e f le = ap (λ (l : List B). slice_get l n) (ap rest e ∙ f.0)
  behind [] n s t u (Some x) e f is = ap (λ (l : List B). slice_get l n) (ap rest e ∙ f) ∙ ap (slice_get (view x ∷ rest u)) (sym is)
  behind (x ∷ xs) zero s t u None e f le = absurd (omega arith)
  behind (x ∷ xs) zero s t u (Some y) e f is = absurd (omega arith)
  behind (x ∷ xs) (suc n) s t u None (j, first, more) f le = ap (λ (l : List B). slice_get l (suc n)) first ∙ behind xs n j t u None more f (omega arith)
  behind (x ∷ xs) (suc n) s t u (Some y) (j, first, more) f is = ap (λ (l : List B). slice_get l (suc n)) first ∙ behind xs n j t u (Some y) more f (omega arith)

  pub nth_is : (n : ℕ) (s u : S) (r : Option A) → SkipsThenYields (YieldsFirstBy view rest) s n r u → IsAt (rest s) n r
  nth_is n s u r (xs, (t, before, last), counted) = behind xs n s t u r before last counted
