-- A list of which each entry is shown by something else of the same number.
use Rattle.std.proofs.Common.{◌≡◌, ℕ, ◌<◌, eqb, List, [], ◌∷◌, Some, refl, sym, ◌∙◌, ap, subst, inl, inr}
use Rattle.std.specs.Prelude.{map}
use Rattle.std.specs.Option.{option_map}
use Rattle.std.proofs.lemmas.Bool.{cond-true, cond-false, cases_Bool}
use Rattle.nd_table.specs.Keyed.{at_key, AllAbove, Rises}

module _ {N M : Type 0} (key : N → ℕ) (key' : M → ℕ) (f : N → M) (same : (n : N) → key' (f n) ≡ key n) where
  pub at_key-map : (k : ℕ) (ns : List N) → at_key key' k (map f ns) ≡ option_map f (at_key key k ns)
  at_key-map k [] = refl
  at_key-map k (n ∷ ns) = elim (cases_Bool (eqb (key n) k)) [
    | inl e ↦ cond-true (eqb (key' (f n)) k) (Some (f n)) (at_key key' k (map f ns)) (ap (λ (x : ℕ). eqb x k) (same n) ∙ e)
        ∙ sym (ap (option_map f) (cond-true (eqb (key n) k) (Some n) (at_key key k ns) e))
    | inr e ↦ cond-false (eqb (key' (f n)) k) (Some (f n)) (at_key key' k (map f ns)) (ap (λ (x : ℕ). eqb x k) (same n) ∙ e)
        ∙ (at_key-map k ns ∙ sym (ap (option_map f) (cond-false (eqb (key n) k) (Some n) (at_key key k ns) e)))
  ]

  AllAbove-map : (k : ℕ) (ns : List N) → AllAbove key k ns → AllAbove key' k (map f ns)
  AllAbove-map k [] h = tt
  AllAbove-map k (n ∷ ns) h = (subst (λ (x : ℕ). k < x) (sym (same n)) h.0, AllAbove-map k ns h.1)

  pub Rises-map : (ns : List N) → Rises key ns → Rises key' (map f ns)
  Rises-map [] h = tt
  Rises-map (n ∷ ns) h = (subst (λ (x : ℕ). AllAbove key' x (map f ns)) (sym (same n)) (AllAbove-map (key n) ns h.0), Rises-map ns h.1)
