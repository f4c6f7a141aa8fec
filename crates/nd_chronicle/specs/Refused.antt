-- What is refused adds its refusal alone.
use Rattle.std.specs.Prelude.{◌≡◌, ◌⊎◌, ℕ, Bool, true, false, ◌++◌, ◌∷◌, Option, Some, None}
use Rattle.std.specs.List.{AllByRecursion}
use Rattle.std.specs.Option.{option_map}
use Rattle.nd_chronicle.specs.Happening.{Chronicle, Happening, Refused, Refusal, WrongRole, Full, Limit}
use Rattle.nd_addr.specs.declared.role.Role.{Role}
use Rattle.nd_addr.specs.declared.role.Role.TheVariants.{Host, Router}

module _ (now : ℕ) where
  abbrev pub UnlessRefused : Option Refusal → (Chronicle → Type 0) → Chronicle → Chronicle → Type 0
  UnlessRefused None Adds c d = Adds d
  UnlessRefused (Some refusal) Adds c d = d ≡ (now, Refused refusal) ∷ c

  -- so does what would fill a table
  abbrev pub UnlessFull : Option Limit → (Chronicle → Type 0) → Chronicle → Chronicle → Type 0
  UnlessFull full Adds c d = UnlessRefused (option_map Full full) Adds c d

  -- and what only a router does, at a host
  abbrev pub AtRouter : Role → (Chronicle → Type 0) → Chronicle → Chronicle → Type 0
  AtRouter Host Adds c d = d ≡ (now, Refused WrongRole) ∷ c
  AtRouter Router Adds c d = Adds d

-- it is a refusal
abbrev pub is_refusal : Happening → Bool
is_refusal (Refused refusal) = true
is_refusal _ = false

-- the chronicle grows by rows none of which is a refusal
pub record GrowsUnrefused (c d : Chronicle) : Type 0 where
  pub newer : Chronicle
  pub all : d ≡ newer ++ c
  pub none : AllByRecursion (λ row. is_refusal row.1 ≡ false) newer

-- it grows by a refusal alone, or by no refusal
abbrev pub RefusedOrNot : ℕ → Chronicle → Chronicle → Type 0
RefusedOrNot now c d = ((refusal : Refusal) × (d ≡ (now, Refused refusal) ∷ c)) ⊎ GrowsUnrefused c d
