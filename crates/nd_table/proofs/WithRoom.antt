-- The announcements of a message for which there is room.
use Rattle.std.proofs.Common.{◌≡◌, ℕ, ◌≤◌, Bool, true, cond, List, [], ◌∷◌, length, refl, sym, ◌∙◌, ap}
use Rattle.std.specs.Prelude.{nat_le, not, is_some, ◌&&◌, ◌==◌}
use Rattle.std.proofs.lemmas.Bool.{cond-true, and_parts, leb-true}
use Rattle.nd_table.specs.declared.lasting.Lasting.{Lasting}
use Rattle.nd_table.specs.Listing.{open_at, end_in, announced, fits, with_room}
use Rattle.nd_table.specs.ListingKept.{announced_all}
use Rattle.nd_table.specs.Refreshing.{only_refreshes}
use Rattle.nd_table.proofs.Finding.{Tells}
use Rattle.nd_table.proofs.Behind.{announced_open}
use Rattle.nd_table.proofs.Refreshing.{refreshes_behind}

module _ {K : Type 0} (same : K → K → Bool) where
  -- there is room for the first of them
  pub next_has_room : (limit now : ℕ) (key : K) (w : ℕ) (more all : List (K × ℕ)) (es : List (Lasting K)) → all ≡ (key, w) ∷ more → nat_le (length (announced same now key w es)) limit ≡ true
      → with_room same limit now all es ≡ (key, w) ∷ with_room same limit now more (announced same now key w es)
  next_has_room limit now key w more all es is h =
      let next = announced same now key w es in
      ap (λ (l : List (K × ℕ)). with_room same limit now l es) is ∙ cond-true (nat_le (length next) limit) ((key, w) ∷ with_room same limit now more next) (with_room same limit now more es) h

  -- where there is room for the first, what there is room for leads from what that makes to the same end
  module _ (limit now : ℕ) (key : K) (w : ℕ) (more all : List (K × ℕ)) (seen es next : List (Lasting K)) (is : all ≡ (key, w) ∷ more) (seen_is : seen ≡ es)
      (room : nat_le (length (announced same now key w seen)) limit ≡ true) (next_is : next ≡ announced same now key w es) where
    room_is : nat_le (length (announced same now key w es)) limit ≡ true
    room_is = ap (λ (l : List (Lasting K)). nat_le (length (announced same now key w l)) limit) (sym seen_is) ∙ room

    pub few_after : length next ≤ limit
    few_after = leb-true (length next) limit (ap (λ (l : List (Lasting K)). nat_le (length l) limit) next_is ∙ room_is)

    pub leads_on : announced_all same now (with_room same limit now more next) next ≡ announced_all same now (with_room same limit now all es) es
    leads_on =
        ap (λ (l : List (Lasting K)). announced_all same now (with_room same limit now more l) l) next_is
        ∙ ap (λ (l : List (K × ℕ)). announced_all same now l es) (sym (next_has_room limit now key w more all es is room_is))

    pub refreshes_on : (not (w == 0) && is_some (end_in same key (open_at now es))) ≡ true
        → only_refreshes same now (with_room same limit now more next) next ≡ only_refreshes same now (with_room same limit now all es) es
    refreshes_on h =
        ap (λ (l : List (Lasting K)). only_refreshes same now (with_room same limit now more l) l) next_is
        ∙ (refreshes_behind same now key w (with_room same limit now more (announced same now key w es)) es h
        ∙ ap (λ (l : List (K × ℕ)). only_refreshes same now l es) (sym (next_has_room limit now key w more all es is room_is)))

  -- where they fit there is room for all of them
  pub all_have_room : (limit now : ℕ) (more : List (K × ℕ)) (es : List (Lasting K)) → fits same limit now more es ≡ true → with_room same limit now more es ≡ more
  all_have_room limit now [] es h = refl
  all_have_room limit now ((key, w) ∷ more) es h =
      let next = announced same now key w es in
      let parts = and_parts (nat_le (length next) limit) (fits same limit now more next) h in
      next_has_room limit now key w more ((key, w) ∷ more) es refl parts.0
      ∙ ap (λ (rest : List (K × ℕ)). (key, w) ∷ rest) (all_have_room limit now more next parts.1)

  -- what has ended takes no room
  pub with_room_open : (tells : Tells same) (limit now : ℕ) (more : List (K × ℕ)) (es : List (Lasting K)) → with_room same limit now more (open_at now es) ≡ with_room same limit now more es
  with_room_open tells limit now [] es = refl
  with_room_open tells limit now ((key, w) ∷ more) es =
      let next = announced same now key w es in
      ap (λ (xs : List (Lasting K)). cond (nat_le (length xs) limit) ((key, w) ∷ with_room same limit now more xs) (with_room same limit now more (open_at now es))) (announced_open same tells now key w es)
      ∙ ap (λ (rest : List (K × ℕ)). cond (nat_le (length next) limit) ((key, w) ∷ with_room same limit now more next) rest) (with_room_open tells limit now more es)
