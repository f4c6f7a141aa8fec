-- What the nodes of a link, and the link, owe the law that no address is held twice. Nothing here knows a date, a table or a walk.
use Rattle.std.specs.Prelude.{◌≡◌, ◌⊎◌, ℕ, ◌+◌, ◌<◌, ◌≤◌, true, false, is_some, List, ◌∷◌, Option}
use Rattle.nd_table.specs.History.{Past}
use Rattle.nd_slaac.specs.History.{Conflict, Lifetimes}
use Rattle.nd_slaac.specs.State.{is_known}
use Rattle.nd_chronicle.specs.Happening.{Address, Chronicle, Happening, Sent}
use Rattle.nd_chronicle.specs.OwnAddress.{story_of}
use Rattle.nd_link_log.specs.Log.{Entry, Log, Adds, Carries, IsFrame, chronicle_of, last_moment, start_of}
use Rattle.nd_link_log.specs.Holding.{Holds, IsTrying}
use Rattle.nd_link_log.specs.Attempt.{Attempt, Claims, Solicitation, Tries, ending_of, formed_entry}
use Rattle.nd_link_log.specs.Losing.{answering}

-- an entry of a node, or of a delivery, is of this moment
abbrev pub IsAt : Entry → ℕ → Type 0
IsAt (Adds node at what) moment = at ≡ moment
IsAt (Carries node at number) moment = at ≡ moment
IsAt _ moment = ⊥

-- a row came to a node after that place
pub record Gains (log d : Log) (node at : ℕ) (what : Happening) : Type 0 where
  pub below : Log
  pub gained : Past (Adds node at what ∷ below) log
  pub above : Past d below

-- a row of the event in which a frame was carried to a node says that it sent this one
pub record Answers (log before : Log) (node at number : ℕ) (answer : List ℕ) : Type 0 where
  pub rows : Chronicle
  pub sends : Past (Adds node at (Sent answer) ∷ answering node at number rows before) log

-- what a frame that is carried to a node leads to: a holder of the address that it tries announces it to all nodes, and a node that tries the
-- address itself finds it a duplicate (RFC 4861, section 7.2.4; RFC 4862, sections 5.4.3 and 5.4.4)
pub record Brings (log : Log) (node at number : ℕ) (before : Log) : Type 0 where
  pub sender : ℕ
  pub sent_at : ℕ
  pub frame : List ℕ
  pub is_frame : IsFrame before number sender sent_at frame
  pub answers : (key : ℕ) → Tries key frame → Holds node key before → (answer : List ℕ) × Claims key answer × Answers log before node at number answer
  pub clashes : (key : ℕ) → Tries key frame ⊎ Claims key frame → IsTrying node key before → Gains log before node at (Address key Conflict)

-- how a node came to hold an address: an attempt for it ended, and it is held since. A solicitation was sent, and each that was sent tries the
-- address, RetransTimer or longer before it was assigned (RFC 4862, section 5.4).
pub record Tried (node key : ℕ) (log : Log) : Type 0 where
  pub attempt : Attempt node key
  pub ended : Past (ending_of attempt) log
  pub solicited : (at : ℕ) × (frame : List ℕ) × (earlier : Log) × Solicitation attempt at frame earlier
  pub each : (at : ℕ) (frame : List ℕ) (earlier : Log) → Solicitation attempt at frame earlier → Tries key frame × (at + attempt.retrans ≤ attempt.assigned)
  pub since : (d : Log) → Past d log → Past (ending_of attempt) d → Holds node key d

pub record IsSound (log : Log) : Type 0 where
  -- of two entries that of the earlier moment is below, and none is after the last moment
  pub in_order : (entry other : Entry) (a b : Log) (at when : ℕ) → Past (entry ∷ a) log → Past (other ∷ b) log → IsAt entry at → IsAt other when → at < when → Past (entry ∷ a) b
  pub by_then : (entry : Entry) (a : Log) (at : ℕ) → Past (entry ∷ a) log → IsAt entry at → at ≤ last_moment log
  -- a node that has a row is there
  pub there : (node at : ℕ) (what : Happening) (a : Log) → Past (Adds node at what ∷ a) log → is_some (start_of node a) ≡ true
  pub brings : (node at number : ℕ) (before : Log) → Past (Carries node at number ∷ before) log → Brings log node at number before
  pub tried : (node key : ℕ) (d : Log) → Past d log → Holds node key d → Tried node key d
  -- an address is formed where it isn't known
  pub forms : (node key at delay retrans : ℕ) (lifetimes : Option Lifetimes) (below : Log) → Past (formed_entry node key at delay retrans lifetimes ∷ below) log
      → is_known (story_of (chronicle_of node below) key) ≡ false
