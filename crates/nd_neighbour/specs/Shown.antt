-- What is shown of a neighbour at a moment, and its reachability state (RFC 4861, sections 5.1 and 7.3.2).
use Rattle.std.specs.Prelude.{ℕ, ◌+◌, ◌-◌, nat_lt, if◌then◌else◌, Option, Some, None, Bool, true, false, ◌≡◌, List}
use Rattle.nd_table.specs.Keyed.{at_key, Rises}
use Rattle.nd_neighbour.specs.declared.shown.Reachability.{Reachability}
use Rattle.nd_neighbour.specs.declared.shown.Reachability.TheVariants.{Stale, Delay, Probe, Incomplete, Reachable}
use Rattle.nd_neighbour.specs.History.{Story, Row, story}
use Rattle.nd_neighbour.specs.ReachabilityConfirmation.{Evidence, Confirms, holds}
use Rattle.nd_neighbour.specs.UnreachabilityDetection.{delay_first_probe_time, Use}
use Rattle.nd_neighbour.specs.Story.{mac_of, evidence_of, use_of, is_present, is_router}

-- without a use STALE; after the first use DELAY for DELAY_FIRST_PROBE_TIME, and PROBE from then on
abbrev pub used_state : Option Use → ℕ → Reachability
used_state None t = Stale
used_state (Some use') t = if nat_lt t (use'.at + delay_first_probe_time) then Delay else Probe

-- without an address INCOMPLETE, while a confirmation holds REACHABLE
abbrev pub state_by : Option ℕ → Option Evidence → Option Use → ℕ → Reachability
state_by None evidence use' t = Incomplete
state_by (Some mac) evidence use' t = if holds (Some mac) evidence t then Reachable else used_state use' t

-- a neighbour of which a use is no news: its link-layer address is known, and it isn't STALE
abbrev pub is_leased : Reachability → Bool
is_leased Incomplete = false
is_leased Stale = false
is_leased _ = true

-- the state at a moment
abbrev pub state_of : Story → ℕ → Reachability
state_of s t = state_by (mac_of s) (evidence_of s) (use_of s) t

-- how long the confirmation still holds at a moment, if it does
abbrev pub left_by : Option ℕ → Option Evidence → ℕ → Option ℕ
left_by (Some mac) (Some (Confirms at reachable)) t = if nat_lt t (at + reachable) then Some (at + reachable - t) else None
left_by _ _ t = None

-- the same by the story
abbrev pub reachable_left : Story → ℕ → Option ℕ
reachable_left s t = left_by (mac_of s) (evidence_of s) t

-- a neighbour: its address, its link-layer address, its mark, its state, and how long it still is REACHABLE
pub record Seen : Type 0 where
  pub key : ℕ
  pub mac : Option ℕ
  pub router : Bool
  pub state : Reachability
  pub left : Option ℕ

-- what the story says at the moment
abbrev pub seen_of : ℕ → Story → ℕ → Option Seen
seen_of key s t =
    if is_present s then Some (record { key = key; mac = mac_of s; router = is_router s; state = state_of s t; left = reachable_left s t }) else None

-- its address
abbrev pub seen_key : Seen → ℕ
seen_key x = x.key

-- the list shows the neighbours that the history gives, as they are at the moment, in the order of their addresses
pub record Lists (history : List Row) (now : ℕ) (shown : List Seen) : Type 0 where
  pub each : (key : ℕ) → at_key seen_key key shown ≡ seen_of key (story key history) now
  pub order : Rises seen_key shown
