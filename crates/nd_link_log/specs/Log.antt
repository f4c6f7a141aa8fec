-- What happened on a link, the newest first: one log for all its nodes, of which the chronicle of each is a part. A link is where the frames of
-- one node can reach the others (RFC 4861, section 2.1).
use Rattle.std.specs.Prelude.{◌≡◌, ℕ, suc, Bool, true, false, ◌==◌, if◌then◌else◌, List, [], ◌∷◌, ◌++◌, map, Option, Some, None}
use Rattle.nd_table.specs.History.{Past}
use Rattle.nd_chronicle.specs.Start.{Start}
use Rattle.nd_chronicle.specs.Happening.{Chronicle, Happening, Sent}

-- why the link refuses an event
pub data Refusal : Type 0 where
  -- it comes before this moment, up to which time has passed
  TooLate : (last : ℕ) → Refusal
  -- no node has the number
  NoNode : Refusal
  -- no frame has the number
  NoFrame : Refusal
  -- the node has sent the frame itself
  Own : Refusal
  -- there are as many nodes as there may be
  Full : Refusal

pub data Entry : Type 0 where
  -- a node starts, and then come the rows of its beginning
  Begins : (node : ℕ) (start : Start) → Entry
  -- a row of the chronicle of a node
  Adds : (node at : ℕ) (what : Happening) → Entry
  -- the link carries a frame to a node
  Carries : (node at frame : ℕ) → Entry
  -- time has passed up to a moment, that of an event
  Reaches : (at : ℕ) → Entry
  -- the link refuses an event
  Refuses : (at : ℕ) (why : Refusal) → Entry

abbrev pub Log : Type 0
Log = List Entry

-- ---- nodes

-- how many have started, which is the number of the next one
abbrev pub nodes : Log → ℕ
nodes [] = 0
nodes (Begins node start ∷ log) = suc (nodes log)
nodes (_ ∷ log) = nodes log

-- how a node started, if it did
abbrev pub start_of : ℕ → Log → Option Start
start_of i [] = None
start_of i (Begins node start ∷ log) = if node == i then Some start else start_of i log
start_of i (_ ∷ log) = start_of i log

-- the chronicle of a node
abbrev pub chronicle_of : ℕ → Log → Chronicle
chronicle_of i [] = []
chronicle_of i (Adds node at what ∷ log) = if node == i then (at, what) ∷ chronicle_of i log else chronicle_of i log
chronicle_of i (_ ∷ log) = chronicle_of i log

-- rows of a node come, the newest first
abbrev pub adding : ℕ → Chronicle → Log → Log
adding node rows log = map (λ row. Adds node row.0 row.1) rows ++ log

-- ---- frames

abbrev pub is_sent : Happening → Bool
is_sent (Sent frame) = true
is_sent _ = false

-- how many were sent, which is the number of the next one
abbrev pub sent : Log → ℕ
sent [] = 0
sent (Adds node at what ∷ log) = if is_sent what then suc (sent log) else sent log
sent (_ ∷ log) = sent log

-- a node sent the frame of this number at a moment, in milliseconds
pub record IsFrame (log : Log) (number sender at : ℕ) (frame : List ℕ) : Type 0 where
  pub before : Log
  pub there : Past (Adds sender at (Sent frame) ∷ before) log
  pub number_is : sent before ≡ number

-- ---- time

-- up to which moment time has passed, in milliseconds: a link starts at 0, and an event that is too late leaves it
abbrev pub last_moment : Log → ℕ
last_moment [] = 0
last_moment (Begins node start ∷ log) = start.at
last_moment (Adds node at what ∷ log) = at
last_moment (Carries node at frame ∷ log) = at
last_moment (Reaches at ∷ log) = at
last_moment (Refuses at (TooLate last) ∷ log) = last_moment log
last_moment (Refuses at _ ∷ log) = at
