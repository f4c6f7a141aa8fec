-- Who holds an address on a link (RFC 4862, section 5.4), and when the link is timely.
use Rattle.std.specs.Prelude.{◌≡◌, ◌≢◌, ℕ, ◌+◌, ◌*◌, ◌<◌, ◌≤◌, true, is_some, List, ◌∷◌, Option}
use Rattle.nd_table.specs.History.{Past}
use Rattle.nd_slaac.specs.History as addresses
use Rattle.nd_slaac.specs.State.{is_assigned, is_tentative}
use Rattle.nd_chronicle.specs.Happening.{Address, Sent}
use Rattle.nd_chronicle.specs.OwnAddress.{story_of}
use Rattle.nd_link_log.specs.Log.{Log, Adds, Carries, start_of, chronicle_of, last_moment, sent}

-- the address, by its number, is preferred or deprecated at a node
abbrev pub Holds : ℕ → ℕ → Log → Type 0
Holds node key log = is_assigned (story_of (chronicle_of node log) key) ≡ true

-- it is tentative there
abbrev pub IsTrying : ℕ → ℕ → Log → Type 0
IsTrying node key log = is_tentative (story_of (chronicle_of node log) key) ≡ true

-- the link carries the frame of this number to a node, from a moment on for so many milliseconds at most
pub record Arrives (log : Log) (node number from within : ℕ) : Type 0 where
  pub at : ℕ
  pub before : Log
  pub carried : Past (Carries node at number ∷ before) log
  pub not_before : from ≤ at
  pub in_time : at ≤ from + within

-- each frame arrives within its time at each other node that was there when it was sent, but for those whose time isn't over
abbrev pub AllArrive : ℕ → Log → Type 0
AllArrive within log = (sender at : ℕ) (frame : List ℕ) (before : Log) → Past (Adds sender at (Sent frame) ∷ before) log → at + within < last_moment log
    → (node : ℕ) → node ≢ sender → is_some (start_of node before) ≡ true → Arrives log node (sent before) at within

-- a tentative address waits for so many milliseconds, or longer, as RetransTimer says where it is formed
abbrev pub AllWait : ℕ → Log → Type 0
AllWait least log = (node at key delay retrans : ℕ) (lifetimes : Option addresses.Lifetimes) (before : Log)
    → Past (Adds node at (Address key (addresses.Formed delay retrans lifetimes)) ∷ before) log → least ≤ retrans

-- A link is timely where each frame arrives so, and a tentative address waits for more than twice that time, as RetransTimer says where it is
-- formed.
pub record IsTimely (within : ℕ) (log : Log) : Type 0 where
  pub arrives : AllArrive within log
  pub waits : (node at key delay retrans : ℕ) (lifetimes : Option addresses.Lifetimes) (before : Log)
      → Past (Adds node at (Address key (addresses.Formed delay retrans lifetimes)) ∷ before) log → 2 * within < retrans

-- no address is preferred or deprecated at two nodes, at no place of the log
abbrev pub HasOneHolder : Log → Type 0
HasOneHolder log = (d : Log) → Past d log → (i j key : ℕ) → Holds i key d → Holds j key d → i ≡ j
