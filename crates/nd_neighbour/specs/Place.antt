-- Which neighbour is evicted for a new one, and when there is no room (RFC 4861, section 5.3, leaves this open).
use Rattle.std.specs.Prelude.{◌≡◌, ℕ, true, List, ◌<◌, ◌≤◌, ◌⊎◌, ◌∷◌, length, Bool, ◌&&◌, not, MatchBool, false, Some, None, Option}
use Rattle.nd_neighbour.specs.declared.shown.Reachability.TheVariants.{Stale}
use Rattle.nd_neighbour.specs.History.{Row, story, Forgot, PushedOut}
use Rattle.nd_neighbour.specs.EntryKept.{NeighbourEntry}
use Rattle.nd_neighbour.specs.ReachabilityConfirmation.{since_in}
use Rattle.nd_neighbour.specs.Story.{is_present, evidence_of}
use Rattle.nd_neighbour.specs.TableKept.{Stands}
use Rattle.nd_neighbour.specs.Shown.{state_of}

-- the neighbour is present and STALE at the moment
abbrev pub IsStale : List Row → ℕ → ℕ → Type 0
IsStale history now key = (is_present (story key history) ≡ true) × (state_of (story key history) now ≡ Stale)

-- since when it isn't known to be reachable
abbrev pub stale_since : List Row → ℕ → ℕ
stale_since history key = since_in (evidence_of (story key history))

-- no other one is stale for longer, and none of a lower address for as long
pub record IsLongestStale (history : List Row) (now key : ℕ) : Type 0 where
  pub stale : IsStale history now key
  pub longest : (k : ℕ) → IsStale history now k → (stale_since history key < stale_since history k) ⊎ ((stale_since history key ≡ stale_since history k) × (key ≤ k))

-- what a new neighbour adds before it: nothing where there are fewer than the limit, else the end of the one that
-- is stale for longest
pub data MakesPlace (limit now : ℕ) (history made : List Row) : Type 0 where
  HadPlace : (entries : List NeighbourEntry) → Stands entries history → length entries < limit → made ≡ history → MakesPlace limit now history made
  Pushed : (entries : List NeighbourEntry) (key : ℕ) → Stands entries history → limit ≤ length entries → IsLongestStale history now key → made ≡ (now, key, Forgot PushedOut) ∷ history → MakesPlace limit now history made

-- what comes before a row of the neighbour, which may be one that lets it enter
abbrev pub Prepares : ℕ → ℕ → Bool → ℕ → List Row → List Row → Type 0
Prepares limit now enters key history made =
    MatchBool (enters && not (is_present (story key history))) (MakesPlace limit now history made) (made ≡ history)

-- the history behind the end of a neighbour that is evicted, if one is
abbrev pub pushing : ℕ → Option ℕ → List Row → List Row
pushing now None history = history
pushing now (Some key) history = (now, key, Forgot PushedOut) ∷ history

-- there is no room for a new neighbour: it isn't present, there are as many as there may be, and none is stale
pub record WouldBeFull (limit now key : ℕ) (history : List Row) : Type 0 where
  pub absent : is_present (story key history) ≡ false
  pub entries : List NeighbourEntry
  pub those : Stands entries history
  pub many : limit ≤ length entries
  pub none_stale : (k : ℕ) → IsStale history now k → ⊥
