-- What a list of announcements, the newest first, says of each key that was announced: a router, a prefix, a DNS server or a search
-- name (RFC 4861, section 6.3.4; RFC 8106, section 6). Nothing here has a state: each question looks back.
use Rattle.std.specs.Prelude.{ℕ, Bool, false, ◌==◌, if◌then◌else◌, List, [], ◌∷◌, length, Option, Some, None}
use Rattle.nd_table.specs.Ends.{end_time, is_before}

-- a key is announced for a lifetime in seconds, or it is ended by something else, or all keys are
pub data Row (K : Type 0) : Type 0 where
  Announced : (at : ℕ) (key : K) (lifetime : ℕ) → Row K
  Ended : (at : ℕ) (key : K) → Row K
  Cleared : (at : ℕ) → Row K

-- the moment of the newest row
abbrev pub last_moment : {K : Type 0} → List (Row K) → ℕ
last_moment [] = 0
last_moment (Announced at key lifetime ∷ history) = at
last_moment (Ended at key ∷ history) = at
last_moment (Cleared at ∷ history) = at

-- the end of an announcement that was made at this moment, where a lifetime of 0 ends the key
abbrev pub end_after : ℕ → ℕ → Option (Option ℕ)
end_after at lifetime = if lifetime == 0 then None else Some (end_time at lifetime)

-- there is an end, and the moment is before it
abbrev pub is_open : Option (Option ℕ) → ℕ → Bool
is_open None t = false
is_open (Some end) t = is_before t end

module _ {K : Type 0} (same : K → K → Bool) where
  -- the end of the key's last announcement since a row that ends it
  abbrev pub end_of : K → List (Row K) → Option (Option ℕ)
  end_of key [] = None
  end_of key (Announced at k lifetime ∷ history) = if same k key then end_after at lifetime else end_of key history
  end_of key (Ended at k ∷ history) = if same k key then None else end_of key history
  end_of key (Cleared at ∷ history) = None

  -- the key stands at the moment
  abbrev pub stands : K → List (Row K) → ℕ → Bool
  stands key history t = is_open (end_of key history) t

  -- the number of the earliest announcement from which on the key has stood without a gap
  abbrev pub place : K → List (Row K) → ℕ
  place key [] = 0
  place key (Announced at k lifetime ∷ history) =
      if same k key then (if stands key history at then place key history else length history) else place key history
  place key (Ended at k ∷ history) = place key history
  place key (Cleared at ∷ history) = place key history
