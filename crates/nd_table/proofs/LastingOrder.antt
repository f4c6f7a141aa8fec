-- Entries whose numbers rise stay so where the list is changed.
use Rattle.std.proofs.Common.{◌≡◌, ℕ, ◌<◌, Bool, true, List, [], ◌∷◌, ◌++◌, Option, Some, None, refl, sym, subst, arith, ⊎_elim}
use Rattle.std.specs.Prelude.{map, filter, is_some}
use Rattle.std.proofs.lemmas.Bool.{cond_both, true≢false}
use Rattle.nd_table.specs.declared.lasting.Lasting.{Lasting}
use Rattle.nd_table.specs.Listing.{end_in, AllAfter, Rises, renewed}
use Rattle.nd_table.specs.ListingKept.{Distinct}
use Rattle.nd_table.proofs.Finding.{Tells, Has, Has-head, Has-tail}

module _ {K : Type 0} (same : K → K → Bool) (tells : Tells same) where
  abbrev pub Agree : (K → ℕ) → (K → ℕ) → List (Lasting K) → Type 0
  Agree f g es = (k : K) → Has same tells es k → f k ≡ g k

  AllAfter-agree : (f g : K → ℕ) (n : ℕ) (es : List (Lasting K)) → Agree f g es → AllAfter same f n es → AllAfter same g n es
  AllAfter-agree f g n [] a h = tt
  AllAfter-agree f g n (e ∷ es) a h =
      (subst (λ (x : ℕ). n < x) (a e.key (Has-head same tells e es)) h.0, AllAfter-agree f g n es (λ k p. a k (Has-tail same tells e es k p)) h.1)

  pub Rises-agree : (f g : K → ℕ) (es : List (Lasting K)) → Agree f g es → Rises same f es → Rises same g es
  Rises-agree f g [] a h = tt
  Rises-agree f g (e ∷ es) a h =
      let a' : Agree f g es = λ k p. a k (Has-tail same tells e es k p) in
      (subst (λ (x : ℕ). AllAfter same g x es) (a e.key (Has-head same tells e es)) (AllAfter-agree f g (f e.key) es a' h.0), Rises-agree f g es a' h.1)

  AllAfter-renewed : (f : K → ℕ) (n : ℕ) (key : K) (end : Option ℕ) (es : List (Lasting K)) → AllAfter same f n es → AllAfter same f n (map (renewed same key end) es)
  AllAfter-renewed f n key end [] h = tt
  AllAfter-renewed f n key end (e ∷ es) h = (h.0, AllAfter-renewed f n key end es h.1)

  pub Rises-renewed : (f : K → ℕ) (key : K) (end : Option ℕ) (es : List (Lasting K)) → Rises same f es → Rises same f (map (renewed same key end) es)
  Rises-renewed f key end [] h = tt
  Rises-renewed f key end (e ∷ es) h = (AllAfter-renewed f (f e.key) key end es h.0, Rises-renewed f key end es h.1)

  AllAfter-filter : (f : K → ℕ) (n : ℕ) (p : Lasting K → Bool) (es : List (Lasting K)) → AllAfter same f n es → AllAfter same f n (filter p es)
  AllAfter-filter f n p [] h = tt
  AllAfter-filter f n p (e ∷ es) h =
      let rest = AllAfter-filter f n p es h.1 in
      cond_both (p e) (e ∷ filter p es) (filter p es) (AllAfter same f n) (λ _. (h.0, rest)) (λ _. rest)

  pub Rises-filter : (f : K → ℕ) (p : Lasting K → Bool) (es : List (Lasting K)) → Rises same f es → Rises same f (filter p es)
  Rises-filter f p [] h = tt
  Rises-filter f p (e ∷ es) h =
      let rest = Rises-filter f p es h.1 in
      cond_both (p e) (e ∷ filter p es) (filter p es) (Rises same f) (λ _. (AllAfter-filter f (f e.key) p es h.0, rest)) (λ _. rest)

  AllAfter-push : (f : K → ℕ) (n : ℕ) (es : List (Lasting K)) (e : Lasting K) → AllAfter same f n es → n < f e.key → AllAfter same f n (es ++ e ∷ [])
  AllAfter-push f n [] e h l = (l, tt)
  AllAfter-push f n (x ∷ es) e h l = (h.0, AllAfter-push f n es e h.1 l)

  pub Rises-push : (f : K → ℕ) (es : List (Lasting K)) (e : Lasting K) → Rises same f es → ((k : K) → Has same tells es k → f k < f e.key) → Rises same f (es ++ e ∷ [])
  Rises-push f [] e h l = (tt, tt)
  Rises-push f (x ∷ es) e h l =
      (AllAfter-push f (f x.key) es e h.0 (l x.key (Has-head same tells x es)), Rises-push f es e h.1 (λ k p. l k (Has-tail same tells x es k p)))

  -- a key whose entry is among them is later
  pub AllAfter-has : (f : K → ℕ) (n : ℕ) (es : List (Lasting K)) (k : K) → AllAfter same f n es → Has same tells es k → n < f k
  AllAfter-has f n [] k h is = absurd (true≢false (sym is))
  AllAfter-has f n (e ∷ es) k h is = ⊎_elim
      (λ s. subst (λ (x : K). n < f x) s.1 h.0)
      (λ d. AllAfter-has f n es k h.1 (grind (arith, d.0, is)))
      (tells e.key k)

  none_or_some : (o : Option (Option ℕ)) → (is_some o ≡ true → ⊥) → o ≡ None
  none_or_some None h = refl
  none_or_some (Some x) h = absurd (h refl)

  -- entries whose numbers rise are distinct
  pub distinct_of : (f : K → ℕ) (es : List (Lasting K)) → Rises same f es → Distinct same es
  distinct_of f [] r = tt
  distinct_of f (e ∷ es) r =
      (none_or_some (end_in same e.key es) (λ has. let later = AllAfter-has f (f e.key) es e.key r.0 has in absurd (omega (arith, later))), distinct_of f es r.1)
