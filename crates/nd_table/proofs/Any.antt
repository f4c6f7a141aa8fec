-- Whether some entry of a list passes a test, after a change of the list.
use Rattle.std.proofs.Common.{◌≡◌, ℕ, ◌<◌, ◌≤◌, Bool, true, false, eqb, List, [], ◌∷◌, length, get_or, set, Some, sym, ◌∙◌, ap, subst, arith, suc, zero, inl, inr}
use Rattle.std.specs.Prelude.{is_some}
use Rattle.std.specs.List.{insert, remove, list_any}
use Rattle.std.proofs.lemmas.Bool.{true≢false, cond-true, cond-false, cases_Bool, or_left, or_right, or_cases}
use Rattle.nd_table.specs.Keyed.{at_key, AllAbove, Rises}
use Rattle.nd_table.proofs.Keyed.{above_at}

-- what passes the first test passes the second
module _ {N : Type 0} (p q : N → Bool) (passes : (n : N) → p n ≡ true → q n ≡ true) where
  pub any_more : (ns : List N) → list_any p ns ≡ true → list_any q ns ≡ true
  any_more [] h = h
  any_more (n ∷ ns) h = elim (or_cases (p n) (list_any p ns) h) [
    | inl e ↦ or_left (q n) (list_any q ns) (passes n e)
    | inr e ↦ or_right (q n) (list_any q ns) (any_more ns e)
  ]

  pub any_set : (ns : List N) (i : ℕ) (m d : N) → i < length ns → (p (get_or ns i d) ≡ true → q m ≡ true) → list_any p ns ≡ true → list_any q (set ns i m) ≡ true
  any_set [] i m d lt at h = absurd (omega arith)
  any_set (n ∷ ns) zero m d lt at h = elim (or_cases (p n) (list_any p ns) h) [
    | inl e ↦ or_left (q m) (list_any q ns) (at e)
    | inr e ↦ or_right (q m) (list_any q ns) (any_more ns e)
  ]
  any_set (n ∷ ns) (suc i) m d lt at h = elim (or_cases (p n) (list_any p ns) h) [
    | inl e ↦ or_left (q n) (list_any q (set ns i m)) (passes n e)
    | inr e ↦ or_right (q n) (list_any q (set ns i m)) (any_set ns i m d (omega arith) at e)
  ]

  pub any_remove : (ns : List N) (i : ℕ) (d : N) → i < length ns → p (get_or ns i d) ≡ false → list_any p ns ≡ true → list_any q (remove ns i) ≡ true
  any_remove [] i d lt at h = absurd (omega arith)
  any_remove (n ∷ ns) zero d lt at h = elim (or_cases (p n) (list_any p ns) h) [
    | inl e ↦ absurd (true≢false (sym e ∙ at))
    | inr e ↦ any_more ns e
  ]
  any_remove (n ∷ ns) (suc i) d lt at h = elim (or_cases (p n) (list_any p ns) h) [
    | inl e ↦ or_left (q n) (list_any q (remove ns i)) (passes n e)
    | inr e ↦ or_right (q n) (list_any q (remove ns i)) (any_remove ns i d (omega arith) at e)
  ]

  pub any_insert : (ns : List N) (i : ℕ) (m : N) → list_any p ns ≡ true → list_any q (insert ns i m) ≡ true
  any_insert [] i m h = absurd (true≢false (sym h))
  any_insert (n ∷ ns) zero m h = or_right (q m) (list_any q (n ∷ ns)) (any_more (n ∷ ns) h)
  any_insert (n ∷ ns) (suc i) m h = elim (or_cases (p n) (list_any p ns) h) [
    | inl e ↦ or_left (q n) (list_any q (insert ns i m)) (passes n e)
    | inr e ↦ or_right (q n) (list_any q (insert ns i m)) (any_insert ns i m e)
  ]

  -- the entry that came in doesn't pass
  pub any_inserted : (ns : List N) (i : ℕ) (m : N) → i ≤ length ns → p m ≡ false → list_any p (insert ns i m) ≡ true → list_any q ns ≡ true
  any_inserted [] zero m le at h = elim (or_cases (p m) false h) [
    | inl e ↦ absurd (true≢false (sym e ∙ at))
    | inr e ↦ e
  ]
  any_inserted [] (suc i) m le at h = absurd (omega arith)
  any_inserted (n ∷ ns) zero m le at h = elim (or_cases (p m) (list_any p (n ∷ ns)) h) [
    | inl e ↦ absurd (true≢false (sym e ∙ at))
    | inr e ↦ any_more (n ∷ ns) e
  ]
  any_inserted (n ∷ ns) (suc i) m le at h = elim (or_cases (p n) (list_any p (insert ns i m)) h) [
    | inl e ↦ or_left (q n) (list_any q ns) (passes n e)
    | inr e ↦ or_right (q n) (list_any q ns) (any_inserted ns i m (omega arith) at e)
  ]

-- the other way, where what passes the second test, and has another number than this, passes the first
module _ {N : Type 0} (key : N → ℕ) (k : ℕ) (q p : N → Bool) (passes : (n : N) → (key n ≡ k → ⊥) → q n ≡ true → p n ≡ true) where
  any_above : (ns : List N) → AllAbove key k ns → list_any q ns ≡ true → list_any p ns ≡ true
  any_above [] above h = h
  any_above (n ∷ ns) above h = elim (or_cases (q n) (list_any q ns) h) [
    | inl e ↦ or_left (p n) (list_any p ns) (passes n (λ same. omega (arith, above.0)) e)
    | inr e ↦ or_right (p n) (list_any p ns) (any_above ns above.1 e)
  ]

  pub any_was_set : (ns : List N) (i : ℕ) (m d : N) → Rises key ns → i < length ns → key (get_or ns i d) ≡ k → (q m ≡ true → p (get_or ns i d) ≡ true) → list_any q (set ns i m) ≡ true → list_any p ns ≡ true
  any_was_set [] i m d r lt is at h = absurd (omega arith)
  any_was_set (n ∷ ns) zero m d r lt is at h = elim (or_cases (q m) (list_any q ns) h) [
    | inl e ↦ or_left (p n) (list_any p ns) (at e)
    | inr e ↦ or_right (p n) (list_any p ns) (any_above ns (subst (λ (x : ℕ). AllAbove key x ns) is r.0) e)
  ]
  any_was_set (n ∷ ns) (suc i) m d r lt is at h =
      let above : key n < key (get_or ns i d) = above_at key (key n) ns i d r.0 (omega arith) in
      elim (or_cases (q n) (list_any q (set ns i m)) h) [
        | inl e ↦ or_left (p n) (list_any p ns) (passes n (λ same. omega (arith, above, is)) e)
        | inr e ↦ or_right (p n) (list_any p ns) (any_was_set ns i m d r.1 (omega arith) is at e)
      ]

  pub any_was_removed : (ns : List N) (i : ℕ) (d : N) → Rises key ns → i < length ns → key (get_or ns i d) ≡ k → list_any q (remove ns i) ≡ true → list_any p ns ≡ true
  any_was_removed [] i d r lt is h = absurd (omega arith)
  any_was_removed (n ∷ ns) zero d r lt is h = or_right (p n) (list_any p ns) (any_above ns (subst (λ (x : ℕ). AllAbove key x ns) is r.0) h)
  any_was_removed (n ∷ ns) (suc i) d r lt is h =
      let above : key n < key (get_or ns i d) = above_at key (key n) ns i d r.0 (omega arith) in
      elim (or_cases (q n) (list_any q (remove ns i)) h) [
        | inl e ↦ or_left (p n) (list_any p ns) (passes n (λ same. omega (arith, above, is)) e)
        | inr e ↦ or_right (p n) (list_any p ns) (any_was_removed ns i d r.1 (omega arith) is e)
      ]

-- a number that is in the list is still in it after a change of an entry that keeps its number
module _ {N : Type 0} (key : N → ℕ) (k : ℕ) where
  still_behind : (n : N) (ns ms : List N) → (is_some (at_key key k ns) ≡ true → is_some (at_key key k ms) ≡ true) → is_some (at_key key k (n ∷ ns)) ≡ true → is_some (at_key key k (n ∷ ms)) ≡ true
  still_behind n ns ms keeps h = elim (cases_Bool (eqb (key n) k)) [
    | inl e ↦ ap is_some (cond-true (eqb (key n) k) (Some n) (at_key key k ms) e)
    | inr e ↦ ap is_some (cond-false (eqb (key n) k) (Some n) (at_key key k ms) e)
        ∙ keeps (sym (ap is_some (cond-false (eqb (key n) k) (Some n) (at_key key k ns) e)) ∙ h)
  ]

  pub still_set : (ns : List N) (i : ℕ) (m d : N) → i < length ns → key (get_or ns i d) ≡ key m → is_some (at_key key k ns) ≡ true → is_some (at_key key k (set ns i m)) ≡ true
  still_set [] i m d lt same h = absurd (omega arith)
  still_set (n ∷ ns) zero m d lt same h = elim (cases_Bool (eqb (key m) k)) [
    | inl e ↦ ap is_some (cond-true (eqb (key m) k) (Some m) (at_key key k ns) e)
    | inr e ↦ ap is_some (cond-false (eqb (key m) k) (Some m) (at_key key k ns) e)
        ∙ (sym (ap is_some (cond-false (eqb (key n) k) (Some n) (at_key key k ns) (ap (λ (x : ℕ). eqb x k) same ∙ e))) ∙ h)
  ]
  still_set (n ∷ ns) (suc i) m d lt same h = still_behind n ns (set ns i m) (still_set ns i m d (omega arith) same) h

  pub still_removed : (ns : List N) (i : ℕ) (d : N) → i < length ns → eqb (key (get_or ns i d)) k ≡ false → is_some (at_key key k ns) ≡ true → is_some (at_key key k (remove ns i)) ≡ true
  still_removed [] i d lt differ h = absurd (omega arith)
  still_removed (n ∷ ns) zero d lt differ h = sym (ap is_some (cond-false (eqb (key n) k) (Some n) (at_key key k ns) differ)) ∙ h
  still_removed (n ∷ ns) (suc i) d lt differ h = still_behind n ns (remove ns i) (still_removed ns i d (omega arith) differ) h

  pub held_at : (ns : List N) (i : ℕ) (d : N) → i < length ns → eqb (key (get_or ns i d)) k ≡ true → is_some (at_key key k ns) ≡ true
  held_at [] i d lt same = absurd (omega arith)
  held_at (n ∷ ns) zero d lt same = ap is_some (cond-true (eqb (key n) k) (Some n) (at_key key k ns) same)
  held_at (n ∷ ns) (suc i) d lt same = elim (cases_Bool (eqb (key n) k)) [
    | inl e ↦ ap is_some (cond-true (eqb (key n) k) (Some n) (at_key key k ns) e)
    | inr e ↦ ap is_some (cond-false (eqb (key n) k) (Some n) (at_key key k ns) e) ∙ held_at ns i d (omega arith) same
  ]
