-- Each history of announcements has the list of what stands.
use Rattle.std.proofs.Common.{◌≡◌, ℕ, Bool, true, false, cond, eqb, List, [], ◌∷◌, ◌++◌, Option, Some, None, refl, sym, ◌∙◌, ap, arith}
use Rattle.std.specs.Prelude.{map, is_some}
use Rattle.std.proofs.lemmas.Bool.{cond-true, cond-false}
use Rattle.nd_table.specs.declared.lasting.Lasting.{Lasting}
use Rattle.nd_table.specs.Ends.{end_time}
use Rattle.nd_table.specs.Announcements.{Row, Announced, Ended, Cleared, end_of, stands, place}
use Rattle.nd_table.specs.Listing.{open_at, end_in, Lists, renewed, without}
use Rattle.nd_table.specs.ListingKept.{StandsUntilTold}
use Rattle.nd_table.proofs.Finding.{Tells, Has, end_in-renewed, end_in-without, end_in-push}
use Rattle.nd_table.proofs.LastingOrder.{Rises-agree, Rises-renewed, Rises-filter, Rises-push}
use Rattle.nd_table.proofs.Steps.{open_some, place_below, ends, lists_at}

module _ {K : Type 0} (same : K → K → Bool) (tells : Tells same) where
  -- what an announcement makes of the entries: a lifetime of 0 takes the key away; a key that stands keeps its place, and another one comes last
  abbrev told_to : Bool → Bool → ℕ → K → ℕ → List (Lasting K) → List (Lasting K)
  told_to true standing at key w es = without same key es
  told_to false true at key w es = map (renewed same key (end_time at w)) es
  told_to false false at key w es = without same key es ++ record { key = key; end = end_time at w } ∷ []

  -- the entries of a history
  abbrev pub listing : List (Row K) → List (Lasting K)
  listing [] = []
  listing (Announced at key w ∷ history) = told_to (eqb w 0) (stands same key history at) at key w (listing history)
  listing (Ended at key ∷ history) = without same key (listing history)
  listing (Cleared at ∷ history) = []

  module _ (es : List (Lasting K)) (history : List (Row K)) (at : ℕ) (key : K) (w : ℕ) (s : StandsUntilTold same es history) where
    listed_some : (k : K) → Has same tells es k → is_some (end_of same k history) ≡ true
    listed_some k h = sym (ap is_some (s.ends k)) ∙ h

    still_listed : (k : K) → Has same tells (without same key es) k → Has same tells es k
    still_listed k h = grind (arith, tells, h, end_in-without same tells k key es)

    removed : eqb w 0 ≡ true → StandsUntilTold same (without same key es) (Announced at key w ∷ history)
    removed zero = record {
      ends = λ k. end_in-without same tells k key es
          ∙ (ap (λ o. cond (same key k) None o) (s.ends k)
          ∙ ap (λ g. cond (same key k) g (end_of same k history)) (sym (cond-true (eqb w 0) None (Some (end_time at w)) zero)));
      order = Rises-agree same tells (λ k. place same k history) _ (without same key es) (λ k h. grind (arith, tells, h, end_in-without same tells k key es)) (Rises-filter same tells _ _ es s.order);
    }

    kept : eqb w 0 ≡ false → stands same key history at ≡ true → StandsUntilTold same (map (renewed same key (end_time at w)) es) (Announced at key w ∷ history)
    kept some standing =
        let has : is_some (end_in same key es) ≡ true = ap is_some (s.ends key) ∙ open_some (end_of same key history) at standing in
        record {
          ends = λ k. end_in-renewed same tells k key (end_time at w) es
              ∙ (ap (λ b. cond (same key k) (cond b (Some (end_time at w)) None) (end_in same k es)) has
              ∙ (ap (λ o. cond (same key k) (Some (end_time at w)) o) (s.ends k)
              ∙ ap (λ g. cond (same key k) g (end_of same k history)) (sym (cond-false (eqb w 0) None (Some (end_time at w)) some))));
          order = Rises-renewed same tells _ key (end_time at w) es (Rises-agree same tells (λ k. place same k history) _ es (λ k _. grind (arith, tells, standing)) s.order);
        }

    entered : eqb w 0 ≡ false → stands same key history at ≡ false
        → StandsUntilTold same (without same key es ++ record { key = key; end = end_time at w } ∷ []) (Announced at key w ∷ history)
    entered some ended =
        let e : Lasting K = record { key = key; end = end_time at w } in
        let gone : end_in same key (without same key es) ≡ None = grind (arith, tells, end_in-without same tells key key es) in
        record {
          ends = λ k. end_in-push same tells k (without same key es) e gone
              ∙ (ap (λ o. cond (same key k) (Some (end_time at w)) o) (end_in-without same tells k key es)
              ∙ (twice (same key k) (Some (end_time at w)) (end_in same k es)
              ∙ (ap (λ o. cond (same key k) (Some (end_time at w)) o) (s.ends k)
              ∙ ap (λ g. cond (same key k) g (end_of same k history)) (sym (cond-false (eqb w 0) None (Some (end_time at w)) some)))));
          order = Rises-push same tells (λ k. place same k (Announced at key w ∷ history)) (without same key es) e
              (Rises-agree same tells (λ k. place same k history) _ (without same key es) (λ k h. grind (arith, tells, h, end_in-without same tells k key es)) (Rises-filter same tells _ _ es s.order))
              (λ k h. grind (arith, tells, ended, h, end_in-without same tells k key es, listed_some k (still_listed k h), place_below same tells k history));
        }
      where
        twice : (b : Bool) (x o : Option (Option ℕ)) → cond b x (cond b None o) ≡ cond b x o
        twice true x o = refl
        twice false x o = refl

    announced_stands : (zero standing : Bool) → eqb w 0 ≡ zero → stands same key history at ≡ standing → StandsUntilTold same (told_to zero standing at key w es) (Announced at key w ∷ history)
    announced_stands true standing z t = removed z
    announced_stands false true z t = kept z t
    announced_stands false false z t = entered z t

  pub listing_stands : (history : List (Row K)) → StandsUntilTold same (listing history) history
  listing_stands [] = record { ends = λ k. refl; order = tt }
  listing_stands (Announced at key w ∷ history) =
      announced_stands (listing history) history at key w (listing_stands history) (eqb w 0) (stands same key history at) refl refl
  listing_stands (Ended at key ∷ history) = ends same tells (listing history) history at key (listing_stands history)
  listing_stands (Cleared at ∷ history) = record { ends = λ k. refl; order = tt }

  -- what stands at a moment
  pub listed : (history : List (Row K)) (now : ℕ) → (es : List (Lasting K)) × Lists same history now es
  listed history now = (open_at now (listing history), lists_at same tells (listing history) history now (listing_stands history))
