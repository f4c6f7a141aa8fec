-- What is due, and when (RFC 4861, sections 7.2.2, 7.3.3 and 10), by what happened.
use Rattle.std.specs.Prelude.{ℕ, List, nat_lt, if◌then◌else◌, [], Some, None, true, ◌≡◌, Option, ◌≤◌}
use Rattle.nd_neighbour.specs.History.{Row, story, Story, Solicited, Probed, Forgot, Failed, Aged}
use Rattle.nd_neighbour.specs.AddressResolution.{max_more, Resolution, more_in, resolution_of, waiting_of}
use Rattle.nd_neighbour.specs.UnreachabilityDetection.{max_unicast_solicit, Use}
use Rattle.nd_neighbour.specs.Story.{is_present, due_of, mac_of, use_of}

-- what is due for a neighbour
pub data Falls : Type 0 where
  Multicasts : (key : ℕ) → Falls
  Unicasts : (key mac : ℕ) → Falls
  Fails : (key : ℕ) (packets : List (List ℕ)) → Falls
  Ages : (key : ℕ) → Falls

-- something is due for the neighbour at the moment, and there is no row for it yet
abbrev pub IsDue : List Row → ℕ → ℕ → Type 0
IsDue history moment key = (is_present (story key history) ≡ true) × (due_of (story key history) ≡ moment)

-- without an address: a second and a third solicitation, and then the failure, with all that waits. With one: three
-- probes after a use, and then the failure; without a use the entry goes.
abbrev pub falling_by : ℕ → Option ℕ → Option Use → Option Resolution → List (List ℕ) → Falls
falling_by key None use' resolution waiting = if nat_lt (more_in resolution) max_more then Multicasts key else Fails key waiting
falling_by key (Some mac) None resolution waiting = Ages key
falling_by key (Some mac) (Some use') resolution waiting = if nat_lt use'.probes max_unicast_solicit then Unicasts key mac else Fails key []

-- what is due for the neighbour
abbrev pub falling : ℕ → Story → Falls
falling key s = falling_by key (mac_of s) (use_of s) (resolution_of s) (waiting_of s)

-- the least address for which something is due at the moment, and what
pub record IsFirst (history : List Row) (moment : ℕ) (falls : Falls) : Type 0 where
  pub key : ℕ
  pub due : IsDue history moment key
  pub least : (k : ℕ) → IsDue history moment k → key ≤ k
  pub what : falls ≡ falling key (story key history)

abbrev pub FirstDue : List Row → ℕ → Option Falls → Type 0
FirstDue history moment None = (key : ℕ) → IsDue history moment key → ⊥
FirstDue history moment (Some falls) = IsFirst history moment falls

-- the moment is the first at which something is due, if there is one
abbrev pub NextDue : List Row → Option ℕ → Type 0
NextDue history None = (moment key : ℕ) → IsDue history moment key → ⊥
NextDue history (Some next) = ((key : ℕ) × IsDue history next key) × ((moment key : ℕ) → IsDue history moment key → next ≤ moment)

-- nothing that is due was due before the moment
pub record NoneOverdue (history : List Row) (now : ℕ) : Type 0 where
  pub none : (moment key : ℕ) → IsDue history moment key → now ≤ moment

-- the row that comes with it
abbrev pub due_row : ℕ → Falls → Row
due_row now (Multicasts key) = (now, key, Solicited)
due_row now (Unicasts key mac) = (now, key, Probed)
due_row now (Fails key packets) = (now, key, Forgot Failed)
due_row now (Ages key) = (now, key, Forgot Aged)
