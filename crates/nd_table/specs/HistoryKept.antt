-- Only what is kept, in the code's terms: how a call leads a table from one history to the next. Each table says for itself when it stands for one.
use Rattle.std.specs.Prelude.{List, ◌∷◌}

module _ {T R : Type 0} (Stands : T → List R → Type 0) where
  -- for each history that old stands for, new stands for what has grown of it
  pub record GainsRows (old new : T) (grown : List R → List R) : Type 0 where
    pub stands : (history : List R) → Stands old history → Stands new (grown history)

  -- for each history that old stands for, new stands for it with one more row
  pub record GainsRow (old new : T) (row : R) : Type 0 where
    pub stands : (history : List R) → Stands old history → Stands new (row ∷ history)

  -- the same where something may have to be evicted first, by rows of its own below
  pub record GainsRowsMakingPlace (old new : T) (Makes : List R → List R → Type 0) (grown : List R → List R → List R) : Type 0 where
    pub stands : (history : List R) → Stands old history → (made : List R) × Makes history made × Stands new (grown history made)
