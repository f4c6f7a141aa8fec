-- One list of entries is that of the keys that stand.
use Rattle.std.proofs.Common.{◌≡◌, ℕ, ◌<◌, ◌≤◌, Bool, List, [], ◌∷◌, Option, Some, None, refl, sym, ◌∙◌, ap, arith, ◌⊎◌, inl, inr, ⊎_elim}
use Rattle.std.specs.Prelude.{is_some, map}
use Rattle.std.proofs.lemmas.Bool.{cond-false, true≢false}
use Rattle.std.proofs.lemmas.Option.{same_Some}
use Rattle.nd_table.specs.declared.lasting.Lasting.{Lasting}
use Rattle.nd_table.specs.Announcements.{Row}
use Rattle.nd_table.specs.Listing.{end_in, AllAfter, Rises, Lists}
use Rattle.nd_table.specs.Shown.{Seen, seen, Shows}
use Rattle.nd_table.proofs.Finding.{Tells}
use Rattle.nd_table.proofs.LastingOrder.{AllAfter-has}

module _ {K : Type 0} (same : K → K → Bool) (tells : Tells same) where
  abbrev SameEnds : List (Lasting K) → List (Lasting K) → Type 0
  SameEnds es fs = (key : K) → end_in same key es ≡ end_in same key fs

  end_of_head : (e : Lasting K) (es : List (Lasting K)) → end_in same e.key (e ∷ es) ≡ Some e.end
  end_of_head e es = grind (arith, tells)

  end_of_other : (e : Lasting K) (es : List (Lasting K)) (key : K) → (e.key ≡ key → ⊥) → end_in same key (e ∷ es) ≡ end_in same key es
  end_of_other e es key differ = ⊎_elim (λ s. absurd (differ s.1)) (λ d. cond-false (same e.key key) (Some e.end) (end_in same key es) d.0) (tells e.key key)

  same_or : (a b : K) → (a ≡ b) ⊎ (a ≡ b → ⊥)
  same_or a b = ⊎_elim (λ s. inl s.1) (λ d. inr d.1) (tells a b)

  -- a key that isn't later than n isn't among entries that are
  absent : (f : K → ℕ) (n : ℕ) (key : K) (es : List (Lasting K)) → AllAfter same f n es → f key ≤ n → (o : Option (Option ℕ)) → end_in same key es ≡ o → o ≡ None
  absent f n key es h le None is = refl
  absent f n key es h le (Some end) is = let later = AllAfter-has same tells f n es key h (ap is_some is) in absurd (omega (arith, later))

  same_tail : (f : K → ℕ) (e g : Lasting K) (es fs : List (Lasting K)) → e.key ≡ g.key → AllAfter same f (f e.key) es → AllAfter same f (f g.key) fs → SameEnds (e ∷ es) (g ∷ fs) → SameEnds es fs
  same_tail f e g es fs is h k ends key = ⊎_elim
      (λ at.
      absent f (f e.key) key es h (omega (arith, ap f at)) (end_in same key es) refl
      ∙ sym (absent f (f g.key) key fs k (omega (arith, ap f at, ap f is)) (end_in same key fs) refl))
      (λ differ. sym (end_of_other e es key differ) ∙ (ends key ∙ end_of_other g fs key (λ at. differ (is ∙ at))))
      (same_or e.key key)

  -- of two different heads each would come before the other
  later : (f : K → ℕ) (e g : Lasting K) (es fs : List (Lasting K)) → (e.key ≡ g.key → ⊥) → AllAfter same f (f e.key) es → SameEnds (e ∷ es) (g ∷ fs) → f e.key < f g.key
  later f e g es fs differ h ends =
      AllAfter-has same tells f (f e.key) es g.key h (ap is_some (sym (end_of_other e es g.key differ) ∙ (ends g.key ∙ end_of_head g fs)))

  pub one_list : (f : K → ℕ) (es fs : List (Lasting K)) → Rises same f es → Rises same f fs → SameEnds es fs → es ≡ fs
  one_list f [] [] r s ends = refl
  one_list f [] (g ∷ fs) r s ends = absurd (true≢false (ap is_some (sym (end_of_head g fs) ∙ sym (ends g.key))))
  one_list f (e ∷ es) [] r s ends = absurd (true≢false (ap is_some (sym (end_of_head e es) ∙ ends e.key)))
  one_list f (e ∷ es) (g ∷ fs) r s ends = ⊎_elim
      (λ is.
      let end : e.end ≡ g.end = same_Some e.end g.end (sym (end_of_head e es) ∙ (ends e.key ∙ (ap (λ k. end_in same k (g ∷ fs)) is ∙ end_of_head g fs))) in
      let rest : es ≡ fs = one_list f es fs r.1 s.1 (same_tail f e g es fs is r.0 s.0 ends) in
      let made : K → Option ℕ → Lasting K = λ k o. record { key = k; end = o } in
      let head : e ≡ g = ap (λ k. made k e.end) is ∙ ap (λ o. made g.key o) end in
      ap (λ (x : Lasting K). x ∷ es) head ∙ ap (λ (l : List (Lasting K)). g ∷ l) rest)
      (λ differ. let here = later f e g es fs differ r.0 ends in let there = later f g e fs es (λ h. differ (sym h)) s.0 (λ key. sym (ends key)) in absurd (omega (arith, here, there)))
      (same_or e.key g.key)

  pub one_listing : (history : List (Row K)) (moment : ℕ) (es fs : List (Lasting K)) → Lists same history moment es → Lists same history moment fs → es ≡ fs
  one_listing history moment es fs l m = one_list _ es fs l.order m.order (λ key. l.ends key ∙ sym (m.ends key))

  -- nor is there another list that shows them
  pub one_shown : (history : List (Row K)) (moment : ℕ) (a b : List (Seen K)) → Shows same history moment a → Shows same history moment b → a ≡ b
  one_shown history moment a b h k = h.2 ∙ ap (map (seen moment)) (one_listing history moment h.0 k.0 h.1 k.1) ∙ sym k.2
