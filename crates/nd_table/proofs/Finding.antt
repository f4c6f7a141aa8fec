-- An entry found by its key, in lists that are changed.
use Rattle.std.proofs.Common.{length, ◌+◌, ◌≤◌, ◌≡◌, ◌≢◌, ℕ, Bool, true, false, cond, List, [], ◌∷◌, ◌++◌, Option, Some, None, refl, sym, ap, ◌∙◌, arith, ◌⊎◌}
use Rattle.std.specs.Prelude.{map, filter, is_some, ◌||◌, if◌then◌else◌}
use Rattle.std.specs.List.{list_all}
use Rattle.std.proofs.lemmas.Bool.{true≢false, and_parts, cond-true}
use Rattle.std.proofs.lemmas.List.Sums.{count_by-le-length, length-filter}
use Rattle.nd_table.specs.declared.lasting.Lasting.{Lasting}
use Rattle.nd_table.specs.Ends.{is_before}
use Rattle.nd_table.specs.Announcements.{is_open}
use Rattle.nd_table.specs.Listing.{open_at, end_in, renewed, without}
use Rattle.nd_table.specs.ListingKept.{Distinct}

-- those that pass a test are no more than all
pub fewer_filtered : {X : Type 0} (p : X → Bool) (xs : List X) → length (filter p xs) ≤ length xs
fewer_filtered p xs = omega (arith, length-filter p xs, count_by-le-length p xs)

-- a key that is among entries is the first one's or among the others
pub there_more : {K : Type 0} (same : K → K → Bool) (key : K) (e : Lasting K) (es : List (Lasting K)) → is_some (end_in same key (e ∷ es)) ≡ (same e.key key || is_some (end_in same key es))
there_more same key e es = by (same e.key key)
  where
    by : (b : Bool) → is_some (if b then Some e.end else end_in same key es) ≡ (b || is_some (end_in same key es))
    by true = refl
    by false = refl

-- renewing an entry that isn't there changes none
pub renewed_absent : {K : Type 0} (same : K → K → Bool) (key : K) (end : Option ℕ) (es : List (Lasting K)) → is_some (end_in same key es) ≡ false → map (renewed same key end) es ≡ es
renewed_absent same key end [] h = refl
renewed_absent {K} same key end (e ∷ es) h = by (same e.key key) refl (renewed_absent same key end es)
  where
    by : (b : Bool) → same e.key key ≡ b → (is_some (end_in same key es) ≡ false → map (renewed same key end) es ≡ es) → map (renewed same key end) (e ∷ es) ≡ e ∷ es
    by true is rest = let no : ⊥ = cc in absurd no
    by false is rest =
        ap (λ (b : Bool). record { key = e.key; end = if b then end else e.end } ∷ map (renewed same key end) es) is
        ∙ ap (λ (l : List (Lasting K)). e ∷ l) (rest (sym (there_more same key e es ∙ ap (λ (b : Bool). b || is_some (end_in same key es)) is) ∙ h))

-- what the test of two keys tells
abbrev pub Tells : {K : Type 0} → (K → K → Bool) → Type 0
Tells {K} same = (a b : K) → ((same a b ≡ true) × (a ≡ b)) ⊎ ((same a b ≡ false) × (a ≢ b))

pub absent_of : (o : Option (Option ℕ)) → is_some o ≡ false → o ≡ None
absent_of None h = refl
absent_of (Some x) h = absurd (true≢false h)

-- a list each of whose elements passes the test
pub filter_all : {X : Type 0} (p : X → Bool) (xs : List X) → list_all p xs ≡ true → filter p xs ≡ xs
filter_all p [] h = refl
filter_all {X} p (x ∷ xs) h =
    let parts = and_parts (p x) (list_all p xs) h in
    cond-true (p x) (x ∷ filter p xs) (filter p xs) parts.0 ∙ ap (λ (rest : List X). x ∷ rest) (filter_all p xs parts.1)

pub one_longer : {K : Type 0} (es : List (Lasting K)) (e : Lasting K) → length (es ++ e ∷ []) ≡ length es + 1
one_longer [] e = refl
one_longer (x ∷ es) e = let rest = one_longer es e in omega (arith, rest)

module _ {K : Type 0} (same : K → K → Bool) (tells : Tells same) where
  pub end_in-renewed : (k key : K) (end : Option ℕ) (es : List (Lasting K)) → end_in same k (map (renewed same key end) es) ≡ cond (same key k) (cond (is_some (end_in same key es)) (Some end) None) (end_in same k es)
  end_in-renewed k key end [] = grind (arith, tells)
  end_in-renewed k key end (e ∷ es) = grind (arith, tells, end_in-renewed k key end es)

  pub end_in-without : (k key : K) (es : List (Lasting K)) → end_in same k (without same key es) ≡ cond (same key k) None (end_in same k es)
  end_in-without k key [] = grind (arith, tells)
  end_in-without k key (e ∷ es) = grind (arith, tells, end_in-without k key es)

  pub end_in-push : (k : K) (es : List (Lasting K)) (e : Lasting K) → end_in same e.key es ≡ None → end_in same k (es ++ e ∷ []) ≡ cond (same e.key k) (Some e.end) (end_in same k es)
  end_in-push k [] e h = refl
  end_in-push k (x ∷ es) e h = grind (arith, tells, end_in-push k es e, h)

  -- a key among the entries
  abbrev pub Has : List (Lasting K) → K → Type 0
  Has es k = is_some (end_in same k es) ≡ true

  pub Has-head : (e : Lasting K) (es : List (Lasting K)) → Has (e ∷ es) e.key
  Has-head e es = grind (arith, tells)

  pub Has-tail : (e : Lasting K) (es : List (Lasting K)) (k : K) → Has es k → Has (e ∷ es) k
  Has-tail e es k h = grind (arith, tells, h)

  pub end_in-filter-none : (p : Lasting K → Bool) (k : K) (es : List (Lasting K)) → end_in same k es ≡ None → end_in same k (filter p es) ≡ None
  end_in-filter-none p k [] h = refl
  end_in-filter-none p k (e ∷ es) h = grind (arith, tells, h, end_in-filter-none p k es)

  -- what is left of an entry that is found, where some that have ended leave
  pub end_in-open : (t : ℕ) (k : K) (es : List (Lasting K)) → Distinct same es → end_in same k (open_at t es) ≡ cond (is_open (end_in same k es) t) (end_in same k es) None
  end_in-open t k [] d = refl
  end_in-open t k (e ∷ es) d = grind (arith, tells, d.0, end_in-filter-none (λ e. is_before t e.end) e.key es d.0, end_in-open t k es d.1)

  pub as_long : (key : K) (end : Option ℕ) (es : List (Lasting K)) → length (map (renewed same key end) es) ≡ length es
  as_long key end [] = refl
  as_long key end (e ∷ es) = let rest = as_long key end es in omega (arith, rest)

  pub without_absent : (key : K) (es : List (Lasting K)) → end_in same key es ≡ None → without same key es ≡ es
  without_absent key [] h = refl
  without_absent key (e ∷ es) h = grind (arith, tells, h, without_absent key es)
