-- Only what is kept, in the code's terms: an address, and what its story gives of it.
use Rattle.std.specs.Prelude.{ℕ, Bool, true, false, Option, Some, None}
use Rattle.nd_slaac.specs.declared.stage.Stage.{Stage}
use Rattle.nd_slaac.specs.declared.stage.Stage.TheVariants.{Detecting, Failed, Passed}
use Rattle.nd_slaac.specs.declared.state.State.{State}
use Rattle.nd_slaac.specs.History.{Story}
use Rattle.nd_slaac.specs.Ends.{preferred_end, valid_end}
use Rattle.nd_slaac.specs.State.{Forming, forming_of, has_conflict, is_by_hand, was_assigned, sent_of, state_by, step_at}

-- an address as a number, its ends, where its duplicate address detection stands, and whether it was given by hand
pub record Address : Type 0 where
  pub key : ℕ
  pub preferred_end : Option ℕ
  pub valid_end : Option ℕ
  pub stage : Stage
  pub by_hand : Bool

abbrev pub stage_by : Forming → Bool → Bool → ℕ → Stage
stage_by f true assigned sent = Failed
stage_by f false true sent = Passed
stage_by f false false sent = Detecting sent f.retrans (step_at f sent)

abbrev pub address_by : ℕ → Option Forming → Bool → Bool → ℕ → Option ℕ → Option ℕ → Bool → Option Address
address_by key None conflict assigned sent preferred valid by_hand = None
address_by key (Some f) conflict assigned sent preferred valid by_hand =
    Some (record { key = key; preferred_end = preferred; valid_end = valid; stage = stage_by f conflict assigned sent; by_hand = by_hand })

-- what the story says of the address, if it is known
abbrev pub address_of : ℕ → Story → Option Address
address_of key s = address_by key (forming_of s) (has_conflict s) (was_assigned s) (sent_of s) (preferred_end s) (valid_end s) (is_by_hand s)

-- the state at a moment of what is kept
abbrev pub state_in : Stage → Option ℕ → ℕ → State
state_in (Detecting sent retrans due) end t = state_by false false end t
state_in Failed end t = state_by true false end t
state_in Passed end t = state_by false true end t
