-- The elements of a list, by their places.
use Rattle.std.proofs.Common.{◌≡◌, ◌≢◌, ℕ, zero, suc, ◌<◌, List, [], ◌∷◌, ◌++◌, length, set, Option, Some, refl, ap, arith}
use Rattle.std.specs.Prelude.{slice_get}

module _ {X : Type 0} where
  pub get_there : (xs : List X) (i : ℕ) → i < length xs → (x : X) × (slice_get xs i ≡ Some x)
  get_there [] i lt = absurd (omega (arith, lt))
  get_there (x ∷ xs) zero lt = (x, refl)
  get_there (x ∷ xs) (suc i) lt = get_there xs i (omega (arith, lt))

  pub same_element : (o : Option X) (x y : X) → o ≡ Some x → o ≡ Some y → x ≡ y
  same_element o x y e f = cc

  pub get_same : (xs : List X) (i : ℕ) (x y : X) → slice_get xs i ≡ Some x → slice_get xs i ≡ Some y → x ≡ y
  get_same xs i x y e f = same_element (slice_get xs i) x y e f

  -- ---- one is put in place of another

  pub set_own : (xs : List X) (i : ℕ) (x y : X) → slice_get (set xs i x) i ≡ Some y → y ≡ x
  set_own [] i x y e = absurd (let no : ⊥ = cc in no)
  set_own (z ∷ xs) zero x y e = let is : y ≡ x = cc in is
  set_own (z ∷ xs) (suc i) x y e = set_own xs i x y e

  pub set_others : (xs : List X) (i j : ℕ) (x : X) → i ≢ j → slice_get (set xs i x) j ≡ slice_get xs j
  set_others [] i j x ne = refl
  set_others (z ∷ xs) zero zero x ne = absurd (ne refl)
  set_others (z ∷ xs) zero (suc j) x ne = refl
  set_others (z ∷ xs) (suc i) zero x ne = refl
  set_others (z ∷ xs) (suc i) (suc j) x ne = set_others xs i j x (λ e. ne (ap suc e))

  -- ---- one comes behind

  pub push_length : (xs : List X) (x : X) → length (xs ++ x ∷ []) ≡ suc (length xs)
  push_length [] x = refl
  push_length (z ∷ xs) x = ap suc (push_length xs x)

  pub push_own : (xs : List X) (x : X) → slice_get (xs ++ x ∷ []) (length xs) ≡ Some x
  push_own [] x = refl
  push_own (z ∷ xs) x = push_own xs x

  pub push_others : (xs : List X) (i : ℕ) (x : X) → i < length xs → slice_get (xs ++ x ∷ []) i ≡ slice_get xs i
  push_others [] i x lt = absurd (omega (arith, lt))
  push_others (z ∷ xs) zero x lt = refl
  push_others (z ∷ xs) (suc i) x lt = push_others xs i x (omega (arith, lt))
