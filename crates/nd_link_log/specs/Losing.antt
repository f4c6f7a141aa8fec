-- A link that may lose frames, but not all solicitations of an attempt for an address (RFC 4862, section 5.4).
use Rattle.std.specs.Prelude.{◌≡◌, ◌≢◌, ℕ, ◌*◌, ◌<◌, true, is_some, List, ◌∷◌, Option}
use Rattle.nd_table.specs.History.{Past}
use Rattle.nd_slaac.specs.History.{Formed, Lifetimes}
use Rattle.nd_chronicle.specs.Happening.{Address, Chronicle, Sent}
use Rattle.nd_link_log.specs.Log.{Log, Adds, Carries, adding, sent, start_of}
use Rattle.nd_link_log.specs.Holding.{Arrives}
use Rattle.nd_link_log.specs.Attempt.{Attempt, Claims, Solicitation, ending_of}

-- the log when a node answers a frame that is carried to it, behind the rows of that event that come before
abbrev pub answering : ℕ → ℕ → ℕ → Chronicle → Log → Log
answering node at number rows before = adding node rows (Carries node at number ∷ before)

-- a solicitation of the attempt reaches another node in time, and each answer to that delivery reaches the node that asks in time
pub record Reaches (log : Log) (within : ℕ) {node key : ℕ} (attempt : Attempt node key) (other : ℕ) : Type 0 where
  pub at : ℕ
  pub frame : List ℕ
  pub earlier : Log
  pub solicitation : Solicitation attempt at frame earlier
  pub arrives : Arrives log other (sent earlier) at within
  pub answered : (answer : List ℕ) (rows : Chronicle) → Claims key answer → Past (Adds other arrives.at (Sent answer) ∷ answering other arrives.at (sent earlier) rows arrives.before) log
      → Arrives log node (sent (answering other arrives.at (sent earlier) rows arrives.before)) arrives.at within

-- each attempt reaches each other node that was there when the address was formed
abbrev pub AllReach : ℕ → Log → Type 0
AllReach within log = (node key : ℕ) (attempt : Attempt node key) → Past (ending_of attempt) log → (other : ℕ) → other ≢ node → is_some (start_of other attempt.below) ≡ true
    → Reaches log within attempt other

-- A link loses little where each attempt reaches the other nodes so, and a tentative address waits for more than twice that time between two steps,
-- as RetransTimer says where it is formed.
pub record LosesLittle (within : ℕ) (log : Log) : Type 0 where
  pub reaches : AllReach within log
  pub waits : (node at key delay retrans : ℕ) (lifetimes : Option Lifetimes) (before : Log) → Past (Adds node at (Address key (Formed delay retrans lifetimes)) ∷ before) log
      → 2 * within < retrans
