-- What a message leaves that only refreshes: the same keys, in the same order.
use Rattle.std.proofs.Common.{◌≡◌, ℕ, ◌+◌, ◌*◌, Bool, true, false, List, [], ◌∷◌, map, Option, Some, None, refl, sym, ◌∙◌, ap, arith}
use Rattle.std.specs.Prelude.{◌==◌, ◌&&◌, ◌||◌, not, is_some, if◌then◌else◌}
use Rattle.std.proofs.lemmas.Bool.{cond-true, cond-false, and_parts}
use Rattle.std.proofs.lemmas.Bool.Decides.{nat_tests}
use Rattle.nd_table.specs.declared.lasting.Lasting.{Lasting}
use Rattle.nd_table.specs.Listing.{announced, end_in, open_at, renewed, without}
use Rattle.nd_table.specs.ListingKept.{announced_all, entered}
use Rattle.nd_table.specs.Ends.{end_time, is_before}
use Rattle.nd_table.specs.Refreshing.{only_refreshes}

-- the keys of some entries
abbrev pub keys_of : {K : Type 0} → List (Lasting K) → List K
keys_of es = map (λ e. e.key) es

module _ {K : Type 0} (same : K → K → Bool) where
  -- the key is among these
  abbrev among : K → List K → Bool
  among key [] = false
  among key (k ∷ ks) = same k key || among key ks

  in_keys : (key : K) (es : List (Lasting K)) → is_some (end_in same key es) ≡ among key (keys_of es)
  in_keys key [] = refl
  in_keys key (e ∷ es) = by (same e.key key) refl (in_keys key es)
    where
      by : (b : Bool) → same e.key key ≡ b → is_some (end_in same key es) ≡ among key (keys_of es) → is_some (end_in same key (e ∷ es)) ≡ among key (keys_of (e ∷ es))
      by true h rest = rw h refl
      by false h rest = rw h rest

  stands_by_keys : (key : K) (a b : List (Lasting K)) → keys_of a ≡ keys_of b → is_some (end_in same key a) ≡ is_some (end_in same key b)
  stands_by_keys key a b is = in_keys key a ∙ (ap (among key) is ∙ sym (in_keys key b))

  refreshes_by_keys : (now : ℕ) (more : List (K × ℕ)) (a b : List (Lasting K)) → keys_of (open_at now a) ≡ keys_of (open_at now b) → only_refreshes same now more a ≡ only_refreshes same now more b
  refreshes_by_keys now [] a b is = refl
  refreshes_by_keys now ((key, lifetime) ∷ more) a b is =
      ap (λ (s : Bool). not (lifetime == 0) && s && only_refreshes same now more a) (stands_by_keys key (open_at now a) (open_at now b) is)
      ∙ ap (λ (r : Bool). not (lifetime == 0) && is_some (end_in same key (open_at now b)) && r) (refreshes_by_keys now more a b is)

  keys_renewed : (key : K) (end : Option ℕ) (es : List (Lasting K)) → keys_of (map (renewed same key end) es) ≡ keys_of es
  keys_renewed key end [] = refl
  keys_renewed key end (e ∷ es) = ap (λ (ks : List K). e.key ∷ ks) (keys_renewed key end es)

  renewed_before : (now : ℕ) (key : K) (end : Option ℕ) (e : Lasting K) → is_before now end ≡ true → is_before now e.end ≡ true → is_before now (renewed same key end e).end ≡ true
  renewed_before now key end e h k = by (same e.key key)
    where
      by : (b : Bool) → is_before now (if b then end else e.end) ≡ true
      by true = h
      by false = k

  -- none of them has ended then
  open_renewed : (now : ℕ) (key : K) (end : Option ℕ) → is_before now end ≡ true → (es : List (Lasting K)) → open_at now (map (renewed same key end) (open_at now es)) ≡ map (renewed same key end) (open_at now es)
  open_renewed now key end h [] = refl
  open_renewed now key end h (e ∷ es) = by (is_before now e.end) refl (open_renewed now key end h es)
    where
      by : (b : Bool) → is_before now e.end ≡ b → open_at now (map (renewed same key end) (open_at now es)) ≡ map (renewed same key end) (open_at now es)
          → open_at now (map (renewed same key end) (open_at now (e ∷ es))) ≡ map (renewed same key end) (open_at now (e ∷ es))
      by true o rest =
          let first : open_at now (e ∷ es) ≡ e ∷ open_at now es = cond-true (is_before now e.end) (e ∷ open_at now es) (open_at now es) o in
          let r = map (renewed same key end) (open_at now es) in
          ap (λ (l : List (Lasting K)). open_at now (map (renewed same key end) l)) first
          ∙ (cond-true (is_before now (renewed same key end e).end) (renewed same key end e ∷ open_at now r) (open_at now r) (renewed_before now key end e h o)
          ∙ (ap (λ (l : List (Lasting K)). renewed same key end e ∷ l) rest ∙ sym (ap (λ (l : List (Lasting K)). map (renewed same key end) l) first)))
      by false o rest =
          let first : open_at now (e ∷ es) ≡ open_at now es = cond-false (is_before now e.end) (e ∷ open_at now es) (open_at now es) o in
          ap (λ (l : List (Lasting K)). open_at now (map (renewed same key end) l)) first ∙ (rest ∙ sym (ap (λ (l : List (Lasting K)). map (renewed same key end) l) first))

  lasts : (now lifetime : ℕ) → not (lifetime == 0) ≡ true → is_before now (end_time now lifetime) ≡ true
  lasts now lifetime h = by (lifetime == 4294967295)
    where
      by : (b : Bool) → is_before now (if b then None else Some (now + 1000 * lifetime)) ≡ true
      by true = refl
      by false = grind (arith, nat_tests, h)

  -- an announcement of a key that stands
  announced_is : (now : ℕ) (key : K) (lifetime : ℕ) (es : List (Lasting K)) → not (lifetime == 0) ≡ true → is_some (end_in same key (open_at now es)) ≡ true
      → announced same now key lifetime es ≡ map (renewed same key (end_time now lifetime)) (open_at now es)
  announced_is now key lifetime es goes_on there = by (lifetime == 0) refl
    where
      by : (b : Bool) → lifetime == 0 ≡ b → announced same now key lifetime es ≡ map (renewed same key (end_time now lifetime)) (open_at now es)
      by true e = let never : ⊥ = cc in absurd never
      by false e = cond-false (lifetime == 0) (without same key (open_at now es)) _ e ∙ cond-true (is_some (end_in same key (open_at now es))) (map (renewed same key (end_time now lifetime)) (open_at now es)) _ there

  pub announced_keys : (now : ℕ) (key : K) (lifetime : ℕ) (es : List (Lasting K)) → not (lifetime == 0) ≡ true → is_some (end_in same key (open_at now es)) ≡ true
      → (keys_of (announced same now key lifetime es) ≡ keys_of (open_at now es)) × (keys_of (open_at now (announced same now key lifetime es)) ≡ keys_of (open_at now es))
  announced_keys now key lifetime es goes_on there =
      let is = announced_is now key lifetime es goes_on there in
      let end = end_time now lifetime in (
        ap (λ (l : List (Lasting K)). keys_of l) is ∙ keys_renewed key end (open_at now es),
        ap (λ (l : List (Lasting K)). keys_of (open_at now l)) is ∙ (ap (λ (l : List (Lasting K)). keys_of l) (open_renewed now key end (lasts now lifetime goes_on) es) ∙ keys_renewed key end (open_at now es)),
      )

  -- what is announced behind it only refreshes where the whole does
  pub refreshes_behind : (now : ℕ) (key : K) (lifetime : ℕ) (more : List (K × ℕ)) (es : List (Lasting K)) → (not (lifetime == 0) && is_some (end_in same key (open_at now es))) ≡ true
      → only_refreshes same now more (announced same now key lifetime es) ≡ only_refreshes same now ((key, lifetime) ∷ more) es
  refreshes_behind now key lifetime more es h =
      let parts = and_parts (not (lifetime == 0)) (is_some (end_in same key (open_at now es))) h in
      let step = announced_keys now key lifetime es parts.0 parts.1 in
      refreshes_by_keys now more (announced same now key lifetime es) es step.1 ∙ ap (λ (first : Bool). first && only_refreshes same now more es) (sym h)

  -- the same of a whole message
  pub refreshed_keys : (now : ℕ) (all : List (K × ℕ)) (es : List (Lasting K)) → only_refreshes same now all es ≡ true → keys_of (open_at now (announced_all same now all es)) ≡ keys_of (open_at now es)
  refreshed_keys now [] es h = refl
  refreshed_keys now ((key, lifetime) ∷ more) es h =
      let outer = and_parts (not (lifetime == 0) && is_some (end_in same key (open_at now es))) (only_refreshes same now more es) h in
      let inner = and_parts (not (lifetime == 0)) (is_some (end_in same key (open_at now es))) outer.0 in
      let step = announced_keys now key lifetime es inner.0 inner.1 in
      refreshed_keys now more (announced same now key lifetime es) (refreshes_by_keys now more (announced same now key lifetime es) es step.1 ∙ outer.1) ∙ step.1

  -- and it enters no key
  pub refreshed_enters : (now : ℕ) (all : List (K × ℕ)) (es : List (Lasting K)) → only_refreshes same now all es ≡ true → entered same now all es ≡ []
  refreshed_enters now [] es h = refl
  refreshed_enters now ((key, lifetime) ∷ more) es h =
      let outer = and_parts (not (lifetime == 0) && is_some (end_in same key (open_at now es))) (only_refreshes same now more es) h in
      let inner = and_parts (not (lifetime == 0)) (is_some (end_in same key (open_at now es))) outer.0 in
      let next = announced same now key lifetime es in
      let step = announced_keys now key lifetime es inner.0 inner.1 in
      let rest = refreshed_enters now more next (refreshes_by_keys now more next es step.1 ∙ outer.1) in
      ap (λ (there : Bool). if not (lifetime == 0) && not there then key ∷ entered same now more next else entered same now more next) inner.1
      ∙ ap (λ (goes : Bool). if goes && false then key ∷ entered same now more next else entered same now more next) inner.0
      ∙ rest
