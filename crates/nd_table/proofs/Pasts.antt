-- What a history was at some time.
use Rattle.std.proofs.Common.{◌≡◌, ◌≤◌, ◌⊎◌, inl, inr, ⊎_elim, List, [], ◌∷◌, ◌++◌, length, refl, sym, ap, subst, suc, arith}
use Rattle.nd_table.specs.History.{Past}

module _ {R : Type 0} where
  pub past_self : (h : List R) → Past h h
  past_self [] = refl
  past_self (row ∷ h) = inl refl

  pub past_then : (g h history : List R) → Past g h → Past h history → Past g history
  past_then g h [] p q = subst (λ (x : List R). Past g x) q p
  past_then g h (row ∷ history) p q = ⊎_elim (λ same. subst (λ (x : List R). Past g x) same p) (λ below. inr (past_then g h history p below)) q

  pub past_tail : (row : R) (h history : List R) → Past (row ∷ h) history → Past h history
  past_tail row h history p = past_then h (row ∷ h) history (inr (past_self h)) p

  -- newer rows come before
  pub past_below : (newer h : List R) → Past h (newer ++ h)
  past_below [] h = past_self h
  past_below (row ∷ newer) h = inr (past_below newer h)

  -- of two places one is a past of the other
  pub past_linear : (g h history : List R) → Past g history → Past h history → Past g h ⊎ Past h g
  past_linear g h [] p q = inl (subst (λ (x : List R). Past g x) (sym q) p)
  past_linear g h (row ∷ history) p q = ⊎_elim
      (λ same. inr (subst (λ (x : List R). Past h x) (sym same) q))
      (λ below. ⊎_elim (λ same. inl (subst (λ (x : List R). Past g x) (sym same) (inr below))) (λ under. past_linear g h history below under) q) p

  pub past-length : (h history : List R) → Past h history → length h ≤ length history
  past-length h [] e = let f : length h ≡ 0 = ap length e in omega arith
  past-length h (row ∷ history) (inl e) = let f : length h ≡ suc (length history) = ap length e in omega arith
  past-length h (row ∷ history) (inr p) = omega (arith, past-length h history p)

  -- what is not before, and was, is the same
  pub past-same : (h : List R) (row : R) (history : List R) → Past h (row ∷ history) → Past (row ∷ history) h → h ≡ row ∷ history
  past-same h row history (inl e) q = e
  past-same h row history (inr p) q = absurd (omega (arith, past-length h history p, past-length (row ∷ history) h q))

  -- what holds of all that came holds of all that had come
  pub all_before : (All : List R → Type 0) → ((row : R) (h : List R) → All (row ∷ h) → All h) → (h history : List R) → Past h history → All history → All h
  all_before All tail h [] p all = subst All (sym p) all
  all_before All tail h (row ∷ history) (inl e) all = subst All (sym e) all
  all_before All tail h (row ∷ history) (inr p) all = all_before All tail h history p (tail row history all)
