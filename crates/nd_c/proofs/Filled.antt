-- What a list holds that an iterator has filled.
use Rattle.std.proofs.Common.{◌≡◌, ℕ, ◌<◌, ◌++◌, ◌⊎◌, inl, inr, List, [], ◌∷◌, length, Option, Some, None, drop, map, refl, sym, ◌∙◌, ap, arith, suc, zero, subst, ℤ, to_z, of_z, w32}
use Rattle.std.specs.Prelude.{slice_get}
use Rattle.std.specs.Iterator.{Yields, YieldsFirstBy}
use Rattle.std.proofs.lemmas.List.{length-map}
use Rattle.nd_c.specs.AllRows.{Fills}
use Rattle.nd_c.specs.Status.{done, no_room}
use Rattle.nd_c.specs.Rows.{IsRowOf}

module _ {S A B Row : Type 0} (view : A → B) (rest : S → List B) (row_of : A → Row) where
  -- what came, and what is left
  all_of : (s t : S) (xs : List A) → Yields (YieldsFirstBy view rest) s xs t → rest s ≡ map view xs ++ rest t
  all_of s t [] e = ap rest e
  all_of s t (x ∷ xs) (j, first, more) = first ∙ ap (λ l. view x ∷ l) (all_of j t xs more)

  -- the row of one that came
  row_at : (xs : List A) (l : List B) (index : ℕ) → index < length xs → IsRowOf view row_of (slice_get (map view xs ++ l) index) (slice_get (map row_of xs) index)
  row_at [] l index less = absurd (omega arith)
  row_at (x ∷ xs) l zero less = (x, refl, refl)
  row_at (x ∷ xs) l (suc n) less = row_at xs l n (omega arith)

  -- the row of the first that is left
  behind : (xs : List A) (l : List B) (row : Option Row) → IsRowOf view row_of (slice_get l 0) row → IsRowOf view row_of (slice_get (map view xs ++ l) (length xs)) row
  behind [] l row is = is
  behind (x ∷ xs) l row is = behind xs l row is

  module _ (At : ℕ → Option Row → Type 0) (s t u : S) (at : (index : ℕ) (row : Option Row) → IsRowOf view row_of (slice_get (rest s) index) row → At index row) where
    -- of the list that is left
    at_all : (xs : List A) → Yields (YieldsFirstBy view rest) s xs t → (index : ℕ) (row : Option Row) → IsRowOf view row_of (slice_get (map view xs ++ rest t) index) row → At index row
    at_all xs came index row is = at index row (subst (λ l. IsRowOf view row_of (slice_get l index) row) (sym (all_of s t xs came)) is)

    -- the list as it is written, and its status, which is a number of 32 bits where the function returns it
    pub filled : (xs : List A) (status : ℤ) (count : ℕ) (old new : List Row) → Yields (YieldsFirstBy view rest) s xs t → count ≡ length xs → new ≡ map row_of xs ++ drop (length xs) old
        → ((status ≡ done) × YieldsFirstBy view rest t None u) ⊎ ((status ≡ no_room) × (length xs ≡ length old) × (x : A) × YieldsFirstBy view rest t (Some x) u)
        → Fills At (to_z w32 (of_z w32 status)) count old new
    filled xs status count old new came counted wrote end = record {
      rows = (
        map row_of xs,
        length-map xs row_of ∙ sym counted,
        wrote ∙ ap (λ n. map row_of xs ++ drop n old) (sym counted),
        λ index less. at_all xs came index (slice_get (map row_of xs) index) (row_at xs (rest t) index (omega (arith, less, counted))),
      );
      ends = last end;
    }
      where
        last : ((status ≡ done) × YieldsFirstBy view rest t None u) ⊎ ((status ≡ no_room) × (length xs ≡ length old) × (x : A) × YieldsFirstBy view rest t (Some x) u)
            → ((to_z w32 (of_z w32 status) ≡ done) × At count None) ⊎ ((to_z w32 (of_z w32 status) ≡ no_room) × (count ≡ length old) × (row : Row) × At count (Some row))
        last (inl (e, none)) = inl (ap (λ z. to_z w32 (of_z w32 z)) e, subst (λ n. At n None) (sym counted) (at_all xs came (length xs) None (behind xs (rest t) None (ap (λ l. slice_get l 0) none.0))))
        last (inr (e, full, x, one)) = inr (ap (λ z. to_z w32 (of_z w32 z)) e, counted ∙ full, row_of x, subst (λ n. At n (Some (row_of x))) (sym counted) (at_all xs came (length xs) (Some (row_of x)) (behind xs (rest t) (Some (row_of x)) (x, ap (λ l. slice_get l 0) one, refl))))
