-- The routers that failed, in the order of their last failures.
use Rattle.std.specs.Prelude.{◌≡◌, ℕ, ◌+◌, ◌<◌, Bool, false, ◌||◌, ◌&&◌, ◌==◌, if◌then◌else◌, List, [], ◌∷◌, Option, Some, None, is_some}
use Rattle.std.specs.Option.{option_map}
use Rattle.nd_table.specs.Announcements.{end_of}
use Rattle.nd_routers.specs.History.{RouterRow, announcements, failure_of}

-- the key is among them
abbrev pub has_failed : ℕ → List ℕ → Bool
has_failed key [] = false
has_failed key (k ∷ keys) = (k == key) || has_failed key keys

-- each has a greater number than this
abbrev pub AllLater : (ℕ → ℕ) → ℕ → List ℕ → Type 0
AllLater number n [] = Unit {0}
AllLater number n (k ∷ keys) = (n < number k) × AllLater number n keys

-- their numbers rise
abbrev pub InOrder : (ℕ → ℕ) → List ℕ → Type 0
InOrder number [] = Unit {0}
InOrder number (k ∷ keys) = AllLater number (number k) keys × InOrder number keys

-- the number of a failure
abbrev pub number_in : Option ℕ → ℕ
number_in None = 0
number_in (Some n) = n

-- the keys are the routers that are listed and failed since they came, in the order of their last failures
pub record Failures (history : List RouterRow) (keys : List ℕ) : Type 0 where
  pub each : (key : ℕ) → has_failed key keys ≡ (is_some (end_of (λ a b. a == b) key (announcements history)) && is_some (failure_of key history))
  pub order : InOrder (λ key. number_in (failure_of key history)) keys

-- the place of the key, counted from 0
abbrev pub place_among : ℕ → List ℕ → Option ℕ
place_among key [] = None
place_among key (k ∷ keys) = if k == key then Some 0 else option_map (λ i. i + 1) (place_among key keys)

-- where the router is among those that failed, if it did
pub record FailsAt (history : List RouterRow) (key : ℕ) (place : Option ℕ) : Type 0 where
  pub keys : List ℕ
  pub failures : Failures history keys
  pub place_is : place ≡ place_among key keys
