-- A history is what happened, the newest row first.
use Rattle.std.specs.Prelude.{◌≡◌, ◌⊎◌, List, [], ◌∷◌}

module _ {R : Type 0} where
  -- the one is what the other was at some time, or is now
  abbrev pub Past : List R → List R → Type 0
  Past earlier [] = earlier ≡ []
  Past earlier (row ∷ history) = (earlier ≡ row ∷ history) ⊎ Past earlier history
