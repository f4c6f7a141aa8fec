-- What is shown of an address at a moment.
use Rattle.std.specs.Prelude.{◌≡◌, ℕ, Bool, if◌then◌else◌, List, Option, Some, None}
use Rattle.nd_table.specs.Ends.{time_left}
use Rattle.nd_table.specs.Keyed.{at_key, Rises}
use Rattle.nd_slaac.specs.declared.state.State.{State}
use Rattle.nd_slaac.specs.History.{Row, Story, story}
use Rattle.nd_slaac.specs.Ends.{preferred_end, valid_end}
use Rattle.nd_slaac.specs.State.{is_by_hand, is_known, has_conflict, was_assigned, state_by}

-- an address, its state, what is left of its lifetimes, in milliseconds, which is 0 where they have ended and nothing for one without an end, and
-- whether it was given by hand
pub record Seen : Type 0 where
  pub key : ℕ
  pub state : State
  pub preferred_left : Option ℕ
  pub valid_left : Option ℕ
  pub by_hand : Bool

-- what the story says at the moment
abbrev pub seen_of : ℕ → Story → ℕ → Option Seen
seen_of key s t =
    if is_known s then Some (record {
      key = key;
      state = state_by (has_conflict s) (was_assigned s) (preferred_end s) t;
      preferred_left = time_left t (preferred_end s);
      valid_left = time_left t (valid_end s);
      by_hand = is_by_hand s;
    }) else None

abbrev pub seen_key : Seen → ℕ
seen_key s = s.key

-- the list shows the addresses that the history gives, as they are at the moment, in the order of their numbers
pub record Lists (history : List Row) (now : ℕ) (shown : List Seen) : Type 0 where
  pub each : (key : ℕ) → at_key seen_key key shown ≡ seen_of key (story key history) now
  pub order : Rises seen_key shown
