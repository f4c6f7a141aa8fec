-- A message that only refreshes what stands: no key comes or goes with it.
use Rattle.std.specs.Prelude.{ℕ, Bool, true, ◌==◌, ◌&&◌, not, is_some, List, [], ◌∷◌}
use Rattle.nd_table.specs.declared.lasting.Lasting.{Lasting}
use Rattle.nd_table.specs.Listing.{end_in, open_at}

-- each key that is announced stands at the moment, and goes on
abbrev pub only_refreshes : {K : Type 0} → (K → K → Bool) → ℕ → List (K × ℕ) → List (Lasting K) → Bool
only_refreshes same now [] es = true
only_refreshes same now ((key, lifetime) ∷ more) es = not (lifetime == 0) && is_some (end_in same key (open_at now es)) && only_refreshes same now more es
