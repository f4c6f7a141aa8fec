-- What is due, asked of what happened (RFC 4862, sections 5.4.2 and 5.5.4).
use Rattle.std.specs.Prelude.{◌≡◌, ℕ, ◌≤◌, ◌<◌, ◌⊎◌, true, List, Option, Some, None}
use Rattle.nd_slaac.specs.History.{Row, Story, story, RowKind, Solicited, Assigned, Ended}
use Rattle.nd_slaac.specs.Ends.{valid_end}
use Rattle.nd_slaac.specs.State.{Forming, forming_of, is_known, is_tentative, sent_of, step_at}

-- an address is due: its valid lifetime ends, a solicitation for it is to be sent, or it is assigned
pub data Falls : Type 0 where
  Ends : (key : ℕ) → Falls
  Solicits : (key : ℕ) → Falls
  Assigns : (key : ℕ) → Falls

abbrev pub date_by : Option Forming → ℕ → Option ℕ
date_by None sent = None
date_by (Some f) sent = Some (step_at f sent)

-- when the next step of a detection is due: one RetransTimer lies between a solicitation and the next step, and the
-- first waits for the delay alone; both are those of the forming
abbrev pub step_date : Story → Option ℕ
step_date s = date_by (forming_of s) (sent_of s)

-- a detection goes on, and its next step is due at the moment
pub record IsStep (s : Story) (moment : ℕ) : Type 0 where
  pub tentative : is_tentative s ≡ true
  pub date : step_date s ≡ Some moment

abbrev pub key_in : Falls → ℕ
key_in (Ends key) = key
key_in (Solicits key) = key
key_in (Assigns key) = key

-- ends come before all else
abbrev pub pass_of : Falls → ℕ
pass_of (Ends key) = 0
pass_of (Solicits key) = 1
pass_of (Assigns key) = 1

-- the one comes before the other, or is of the same address and pass
abbrev pub NotAfter : Falls → Falls → Type 0
NotAfter a b = (pass_of a < pass_of b) ⊎ ((pass_of a ≡ pass_of b) × (key_in a ≤ key_in b))

-- how many solicitations a detection sends is the interface's own choice (RFC 4862, section 5.1, DupAddrDetectTransmits)
module _ (transmits : ℕ) where
  -- it is due at the moment, and there is no row for it yet
  abbrev pub IsDue : List Row → ℕ → Falls → Type 0
  IsDue history moment (Ends key) = (is_known (story key history) ≡ true) × (valid_end (story key history) ≡ Some moment)
  IsDue history moment (Solicits key) = IsStep (story key history) moment × (sent_of (story key history) < transmits)
  IsDue history moment (Assigns key) = IsStep (story key history) moment × (transmits ≤ sent_of (story key history))

  -- it is due at the moment, and nothing that is due then is before it
  pub record IsFirst (history : List Row) (moment : ℕ) (falls : Falls) : Type 0 where
    pub due : IsDue history moment falls
    pub first : (others : Falls) → IsDue history moment others → NotAfter falls others

  abbrev pub FirstDue : List Row → ℕ → Option Falls → Type 0
  FirstDue history moment None = (falls : Falls) → IsDue history moment falls → ⊥
  FirstDue history moment (Some falls) = IsFirst history moment falls

  -- the moment is the first at which something is due, if there is one
  abbrev pub NextDue : List Row → Option ℕ → Type 0
  NextDue history None = (moment : ℕ) (falls : Falls) → IsDue history moment falls → ⊥
  NextDue history (Some next) = ((falls : Falls) × IsDue history next falls) × ((moment : ℕ) (falls : Falls) → IsDue history moment falls → next ≤ moment)

  -- nothing that is due was due before the moment
  pub record NoneOverdue (history : List Row) (now : ℕ) : Type 0 where
    pub none : (moment : ℕ) (falls : Falls) → IsDue history moment falls → now ≤ moment

-- what has come then
abbrev pub happens : Falls → RowKind
happens (Ends key) = Ended
happens (Solicits key) = Solicited
happens (Assigns key) = Assigned

-- the row that comes with it
abbrev pub due_row : ℕ → Falls → Row
due_row now falls = (now, key_in falls, happens falls)
