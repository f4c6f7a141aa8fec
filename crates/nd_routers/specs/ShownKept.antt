-- Only what is kept, in the code's terms: what the routers show at a moment.
use Rattle.std.specs.Prelude.{ℕ, if◌then◌else◌, List, [], ◌∷◌}
use Rattle.nd_table.specs.declared.lasting.Lasting.{Lasting}
use Rattle.nd_table.specs.Ends.{is_before, time_left}
use Rattle.nd_routers.specs.declared.preferred.Preferred.{Preferred}
use Rattle.nd_routers.specs.Shown.{Seen}

-- the same of what is kept: those that haven't ended, each with the preference at its place
abbrev pub seen_beside : ℕ → List (Lasting ℕ) → List Preferred → List Seen
seen_beside now [] ps = []
seen_beside now (e ∷ es) [] = []
seen_beside now (e ∷ es) (p ∷ ps) =
    if is_before now e.end then record { key = e.key; left = time_left now e.end; preference = p.preference } ∷ seen_beside now es ps else seen_beside now es ps
