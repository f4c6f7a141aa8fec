-- Histories: lists of rows of which each is at a place where it is possible, and what they say of an address that is assigned.
use Rattle.std.specs.Prelude.{◌≡◌, ℕ, ◌+◌, ◌*◌, ◌<◌, ◌≤◌, true, false, List, [], ◌∷◌, Option, Some}
use Rattle.nd_slaac.specs.History.{Lifetimes, Row, story, Formed, SetByHand, Announced, Solicited, Conflict, Assigned, Ended}
use Rattle.nd_slaac.specs.State.{is_by_hand, is_known, is_tentative, is_assigned}
use Rattle.nd_table.specs.Ends.{is_before}
use Rattle.nd_table.specs.History.{Past}
use Rattle.nd_slaac.specs.Ends.{valid_end}
use Rattle.nd_slaac.specs.Due.{Falls, Solicits, Assigns, IsDue, FirstDue}

-- The address was tried: it was formed at some moment, and at each place since then it was tentative. Each
-- solicitation was sent at its date: the first after the delay, and each further one a RetransTimer later, both being
-- those of the forming.
pub record Tried (key : ℕ) (history : List Row) (formed delay retrans sent : ℕ) (lifetimes : Option Lifetimes) (below : List Row) : Type 0 where
  pub formed_at : Past ((formed, key, Formed delay retrans lifetimes) ∷ below) history
  pub positive : 0 < retrans
  pub tentative : (h : List Row) → Past h history → Past ((formed, key, Formed delay retrans lifetimes) ∷ below) h → is_tentative (story key h) ≡ true
  -- each of them stands since then
  pub solicited : (number : ℕ) → number < sent → (earlier : List Row) × Past ((formed + delay + number * retrans, key, Solicited) ∷ earlier) history × Past ((formed, key, Formed delay retrans lifetimes) ∷ below) earlier
  -- and any that stands since then comes at least a RetransTimer before the next step
  pub only : (moment : ℕ) (earlier : List Row) → Past ((moment, key, Solicited) ∷ earlier) history → Past ((formed, key, Formed delay retrans lifetimes) ∷ below) earlier → moment + retrans ≤ formed + delay + sent * retrans

-- a detection sends so many solicitations (RFC 4862, section 5.1, DupAddrDetectTransmits)
module _ (transmits : ℕ) where
  -- it is the first that is due at the moment, and nothing was due before
  pub record IsTurn (history : List Row) (now : ℕ) (falls : Falls) : Type 0 where
    pub first : FirstDue transmits history now (Some falls)
    pub none_before : (moment : ℕ) (others : Falls) → IsDue transmits history moment others → now ≤ moment

  -- a row is possible on top of others: an address is formed where it isn't known, with a RetransTimer above 0; where it is known it is set by
  -- hand, announced unless it was set by hand, or ends, at its valid end or withdrawn; it has a conflict where it is tentative; all else comes at
  -- its date
  abbrev pub MayCome : Row → List Row → Type 0
  MayCome (at, key, Formed delay retrans lifetimes) history = (is_known (story key history) ≡ false) × (0 < retrans)
  MayCome (at, key, SetByHand lifetimes) history = is_known (story key history) ≡ true
  MayCome (at, key, Announced lifetimes) history = (is_known (story key history) ≡ true) × (is_by_hand (story key history) ≡ false)
  MayCome (at, key, Solicited) history = IsTurn history at (Solicits key)
  MayCome (at, key, Conflict) history = is_tentative (story key history) ≡ true
  MayCome (at, key, Assigned) history = IsTurn history at (Assigns key)
  MayCome (at, key, Ended) history = is_known (story key history) ≡ true

  abbrev pub IsHistory : List Row → Type 0
  IsHistory [] = Unit {0}
  IsHistory (row ∷ history) = MayCome row history × IsHistory history

  -- The address holds: it was tried, each of its solicitations was sent a RetransTimer before the next one, and the last one a RetransTimer
  -- before it was assigned; that was before its valid lifetime ended, and it has been assigned at each place since then.
  pub record Held (key : ℕ) (history : List Row) : Type 0 where
    pub formed : ℕ
    pub delay : ℕ
    pub retrans : ℕ
    pub lifetimes : Option Lifetimes
    pub below : List Row
    pub assigned : ℕ
    pub over : List Row
    pub assigned_at : Past ((assigned, key, Assigned) ∷ over) history
    pub tried : Tried key over formed delay retrans transmits lifetimes below
    -- counted back from the assignment
    pub solicited : (back : ℕ) → 0 < back → back ≤ transmits → (sent : ℕ) × (earlier : List Row) × (assigned ≡ sent + back * retrans)
        × Past ((sent, key, Solicited) ∷ earlier) over × Past ((formed, key, Formed delay retrans lifetimes) ∷ below) earlier
    -- its date follows from the forming: the delay, and as many RetransTimers as there are solicitations
    pub date : assigned ≡ formed + delay + transmits * retrans
    pub valid : is_before assigned (valid_end (story key over)) ≡ true
    pub since : (h : List Row) → Past h history → Past ((assigned, key, Assigned) ∷ over) h → is_assigned (story key h) ≡ true
