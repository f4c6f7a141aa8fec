-- Only what is kept, in the code's terms: the entry of a list that is due first.
use Rattle.std.specs.Prelude.{ℕ, ◌≤◌, MatchOption, Bool, false, ◌==◌, if◌then◌else◌, List, [], ◌∷◌, Option, Some, None}
use Rattle.nd_table.specs.Due.{lesser}

-- it is this moment
abbrev pub is_at : ℕ → Option ℕ → Bool
is_at now None = false
is_at now (Some x) = x == now

-- the moment, if there is one, isn't before this
abbrev pub NotBefore : ℕ → Option ℕ → Type 0
NotBefore now next = MatchOption next (Unit {0}) (λ x. now ≤ x)

module _ {N : Type 0} (date : N → Option ℕ) where
  -- the least moment of a list
  abbrev pub least_date : List N → Option ℕ
  least_date [] = None
  least_date (n ∷ ns) = lesser (date n) (least_date ns)

  -- the first that is due at the moment
  abbrev pub first_at : ℕ → List N → Option N
  first_at now [] = None
  first_at now (n ∷ ns) = if is_at now (date n) then Some n else first_at now ns
