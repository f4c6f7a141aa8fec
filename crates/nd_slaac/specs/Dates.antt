-- The same of what is kept: the dates of addresses, the first that is due, and the next moment.
use Rattle.std.specs.Prelude.{◌≡◌, ℕ, ◌+◌, ◌-◌, ◌<◌, nat_lt, if◌then◌else◌, List, [], ◌∷◌, length, slice_index_or, slice_set, Option, Some, None}
use Rattle.std.specs.List.{remove}
use Rattle.nd_table.specs.DueKept as due
use Rattle.nd_table.specs.Due.{lesser}
use Rattle.nd_table.specs.DueKept.{least_date, NotBefore}
use Rattle.nd_slaac.specs.declared.stage.Stage.{Stage}
use Rattle.nd_slaac.specs.declared.stage.Stage.TheVariants.{Detecting, Failed, Passed}
use Rattle.nd_slaac.specs.AddressKept.{Address}
use Rattle.nd_slaac.specs.Due.{Falls, Ends, Solicits, Assigns}

abbrev pub end_date : Address → Option ℕ
end_date a = a.valid_end

abbrev pub stage_date : Stage → Option ℕ
stage_date (Detecting sent retrans due) = Some due
stage_date Failed = None
stage_date Passed = None

abbrev pub next_step : Address → Option ℕ
next_step a = stage_date a.stage

-- either date of an address
abbrev pub earlier : Address → Option ℕ
earlier a = lesser (end_date a) (next_step a)

-- the first of a list that has the date
abbrev pub first_at : (Address → Option ℕ) → ℕ → List Address → Option Address
first_at date now addresses = due.first_at date now addresses

-- the least date of a list
abbrev pub next_in : List Address → Option ℕ
next_in addresses = least_date earlier addresses

-- nothing was due before the moment
abbrev pub NoneBefore : List Address → ℕ → Type 0
NoneBefore addresses now = NotBefore now (next_in addresses)

-- the step that an address takes, where a detection sends so many solicitations
abbrev pub falls_by : ℕ → ℕ → Stage → Falls
falls_by transmits key (Detecting sent retrans due) = if nat_lt sent transmits then Solicits key else Assigns key
falls_by transmits key Failed = Ends key
falls_by transmits key Passed = Ends key

-- and its stage afterwards
abbrev pub stage_after : ℕ → ℕ → Stage → Stage
stage_after transmits now (Detecting sent retrans due) = if nat_lt sent transmits then Detecting (sent + 1) retrans (now + retrans) else Passed
stage_after transmits now Failed = Failed
stage_after transmits now Passed = Passed

abbrev pub stepped : ℕ → ℕ → Address → Address
stepped transmits now a = record { key = a.key; preferred_end = a.preferred_end; valid_end = a.valid_end; stage = stage_after transmits now a.stage; by_hand = a.by_hand }

-- an address at a place of the list goes where its end has come, and else takes a step
pub data Turns (transmits now : ℕ) (old new : List Address) (what : Falls) : Type 0 where
  Goes : (at : ℕ) (a : Address) → at < length old → a ≡ slice_index_or old at a → first_at end_date now old ≡ Some a → what ≡ Ends a.key → new ≡ remove old at → Turns transmits now old new what
  Steps : (at : ℕ) (a : Address) → at < length old → a ≡ slice_index_or old at a → first_at end_date now old ≡ None → first_at next_step now old ≡ Some a → what ≡ falls_by transmits a.key a.stage → new ≡ slice_set old at (stepped transmits now a) → Turns transmits now old new what

-- nothing of the list is due at the moment
pub record Rests (now : ℕ) (addresses : List Address) : Type 0 where
  pub ends : first_at end_date now addresses ≡ None
  pub steps : first_at next_step now addresses ≡ None

-- how many turns an address can still take, where nothing else happens
abbrev pub turns_to : ℕ → Stage → ℕ
turns_to transmits (Detecting sent retrans due) = transmits - sent + 2
turns_to transmits Failed = 1
turns_to transmits Passed = 1

abbrev pub turns_left : ℕ → List Address → ℕ
turns_left transmits [] = 0
turns_left transmits (a ∷ addresses) = turns_to transmits a.stage + turns_left transmits addresses
