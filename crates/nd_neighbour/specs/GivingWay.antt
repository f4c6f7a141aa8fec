-- Which neighbour fails for one that speaks, where the table is full of neighbours that may not go: the one that was asked for longest. What is known to live goes
-- before what is only asked for (RFC 6583, section 7).
use Rattle.std.specs.Prelude.{◌≡◌, ℕ, true, List, ◌<◌, ◌≤◌, ◌⊎◌, Some, None, Option}
use Rattle.nd_neighbour.specs.AddressResolution.{Resolution, resolution_of}
use Rattle.nd_neighbour.specs.History.{Row, story}
use Rattle.nd_neighbour.specs.Place.{WouldBeFull}
use Rattle.nd_neighbour.specs.Story.{is_present, mac_of}

-- the neighbour is present and INCOMPLETE
abbrev pub IsIncomplete : List Row → ℕ → Type 0
IsIncomplete history key = (is_present (story key history) ≡ true) × (mac_of (story key history) ≡ None)

-- when a resolution began
abbrev pub began_in : Option Resolution → ℕ
began_in None = 0
began_in (Some r) = r.at

-- since when the neighbour is asked for
abbrev pub asked_since : List Row → ℕ → ℕ
asked_since history key = began_in (resolution_of (story key history))

-- no other one is asked for longer, and none of a lower address for as long
pub record IsAskedLongest (history : List Row) (key : ℕ) : Type 0 where
  pub incomplete : IsIncomplete history key
  pub longest : (k : ℕ) → IsIncomplete history k → (asked_since history key < asked_since history k) ⊎ ((asked_since history key ≡ asked_since history k) × (key ≤ k))

-- there is no room for a new neighbour that speaks: none is STALE, and none is only asked for
pub record IsFullOfSpeakers (limit now key : ℕ) (history : List Row) : Type 0 where
  pub full : WouldBeFull limit now key history
  pub none_incomplete : (k : ℕ) → IsIncomplete history k → ⊥

-- the neighbour that fails for a new one that speaks, if one does
abbrev pub GivesWay : ℕ → ℕ → ℕ → List Row → Option ℕ → Type 0
GivesWay limit now key history None = WouldBeFull limit now key history → (k : ℕ) → IsIncomplete history k → ⊥
GivesWay limit now key history (Some gone) = WouldBeFull limit now key history × IsAskedLongest history gone
