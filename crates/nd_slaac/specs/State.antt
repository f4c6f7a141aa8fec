-- The state of an address at a moment (RFC 4862, sections 2 and 5.4).
use Rattle.std.specs.Prelude.{ℕ, ◌+◌, Bool, true, false, ◌&&◌, not, if◌then◌else◌, [], ◌∷◌, Option, Some, None, is_some, ◌*◌}
use Rattle.nd_slaac.specs.declared.state.State.{State}
use Rattle.nd_slaac.specs.declared.state.State.TheVariants.{Tentative, Preferred, Deprecated, Duplicate}
use Rattle.nd_slaac.specs.History.{Story, Formed, SetByHand, Solicited, Conflict, Assigned}
use Rattle.nd_table.specs.Ends.{is_before}
use Rattle.nd_slaac.specs.Ends.{preferred_end}

-- how an address was formed: when, how long its first solicitation waits, and the RetransTimer in force then
pub record Forming : Type 0 where
  pub at : ℕ
  pub delay : ℕ
  pub retrans : ℕ

-- the last forming
abbrev pub forming_of : Story → Option Forming
forming_of [] = None
forming_of ((at, Formed delay retrans lifetimes) ∷ s) = Some (record { at = at; delay = delay; retrans = retrans })
forming_of ((at, _) ∷ s) = forming_of s

-- the address is known: it was formed, and hasn't ended since
abbrev pub is_known : Story → Bool
is_known s = is_some (forming_of s)

-- there was a conflict since it was formed
abbrev pub has_conflict : Story → Bool
has_conflict [] = false
has_conflict ((at, Formed delay retrans lifetimes) ∷ s) = false
has_conflict ((at, Conflict) ∷ s) = true
has_conflict ((at, _) ∷ s) = has_conflict s

-- it was assigned since it was formed
abbrev pub was_assigned : Story → Bool
was_assigned [] = false
was_assigned ((at, Formed delay retrans lifetimes) ∷ s) = false
was_assigned ((at, Assigned) ∷ s) = true
was_assigned ((at, _) ∷ s) = was_assigned s

-- how many solicitations were sent since it was formed
abbrev pub sent_of : Story → ℕ
sent_of [] = 0
sent_of ((at, Formed delay retrans lifetimes) ∷ s) = 0
sent_of ((at, Solicited) ∷ s) = sent_of s + 1
sent_of ((at, _) ∷ s) = sent_of s

-- its lifetimes were set by hand since it was formed: it is an address given by hand, which no advertisement renews ("configured by
-- stateless autoconfiguration", section 5.5.3 e)
abbrev pub is_by_hand : Story → Bool
is_by_hand [] = false
is_by_hand ((at, Formed delay retrans lifetimes) ∷ s) = false
is_by_hand ((at, SetByHand lifetimes) ∷ s) = is_known s
is_by_hand ((at, _) ∷ s) = is_by_hand s

-- a known address with a conflict is a duplicate; else it is tentative until it is assigned, and then preferred up to
-- its preferred end and deprecated from there on
abbrev pub state_by : Bool → Bool → Option ℕ → ℕ → State
state_by true assigned end t = Duplicate
state_by false false end t = Tentative
state_by false true end t = if is_before t end then Preferred else Deprecated

-- the state at a moment, of an address that is known
abbrev pub state_of : Story → ℕ → Option State
state_of s t = if is_known s then Some (state_by (has_conflict s) (was_assigned s) (preferred_end s) t) else None

-- the address is tentative
abbrev pub is_tentative : Story → Bool
is_tentative s = is_known s && not (has_conflict s) && not (was_assigned s)

-- the address is a duplicate
abbrev pub is_duplicate : Story → Bool
is_duplicate s = is_known s && has_conflict s

-- the address is assigned: preferred or deprecated
abbrev pub is_assigned : Story → Bool
is_assigned s = is_known s && not (has_conflict s) && was_assigned s

-- the date of a step of the detection, the first being number 0: one RetransTimer lies between two
abbrev pub step_at : Forming → ℕ → ℕ
step_at f number = f.at + f.delay + number * f.retrans
