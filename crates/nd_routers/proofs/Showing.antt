-- What is shown of the routers, where their preferences are those of the history.
use Rattle.std.proofs.Common.{◌≡◌, ℕ, Bool, true, false, cond, List, [], ◌∷◌, map, refl, ap}
use Rattle.nd_addr.specs.declared.preference.Preference.{Preference}
use Rattle.nd_table.specs.declared.lasting.Lasting.{Lasting}
use Rattle.nd_table.specs.Listing.{open_at}
use Rattle.nd_table.specs.Ends.{is_before}
use Rattle.nd_routers.specs.Shown.{Seen, seen}
use Rattle.nd_routers.specs.ShownKept.{seen_beside}

module _ (now : ℕ) (f : ℕ → Preference) where
  kept : (b : Bool) (e : Lasting ℕ) (shown : List Seen) (es : List (Lasting ℕ)) → shown ≡ map (seen now f) es → cond b (seen now f e ∷ shown) shown ≡ map (seen now f) (cond b (e ∷ es) es)
  kept true e shown es same = ap (λ (l : List Seen). seen now f e ∷ l) same
  kept false e shown es same = same

  pub seen_paired : (es : List (Lasting ℕ)) → seen_beside now es (map (λ e. record { router = e.key; preference = f e.key }) es) ≡ map (seen now f) (open_at now es)
  seen_paired [] = refl
  seen_paired (e ∷ es) = kept (is_before now e.end) e _ (open_at now es) (seen_paired es)
