-- When a neighbour was confirmed as reachable, and what disturbs that (RFC 4861, sections 7.2.5 and 7.3.1).
use Rattle.std.specs.Prelude.{ℕ, ◌+◌, nat_lt, Bool, false, Option, Some, true, None}

-- a confirmation at a moment, which holds for a ReachableTime, or a disturbance at a moment
pub data Evidence : Type 0 where
  Confirms : (at reachable : ℕ) → Evidence
  Disturbs : (at : ℕ) → Evidence

-- from when on the neighbour is no longer known to be reachable: the confirmation's end, or the disturbance
abbrev pub since : Evidence → ℕ
since (Confirms at reachable) = at + reachable
since (Disturbs at) = at

-- it is reachable at the moment: its address is known, and the last word is a confirmation that still holds
abbrev pub holds : Option ℕ → Option Evidence → ℕ → Bool
holds (Some mac) (Some (Confirms at reachable)) t = nat_lt t (at + reachable)
holds _ _ t = false

-- the last word is a confirmation
abbrev pub is_confirmed : Option Evidence → Bool
is_confirmed None = false
is_confirmed (Some (Confirms at reachable)) = true
is_confirmed (Some (Disturbs at)) = false

-- from when on it is no longer known to be reachable, by the last word
abbrev pub since_in : Option Evidence → ℕ
since_in None = 0
since_in (Some evidence) = since evidence
