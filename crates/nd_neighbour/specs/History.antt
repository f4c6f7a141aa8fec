-- What happened to the neighbours, the newest first, and the part of it that one neighbour's story is.
use Rattle.std.specs.Prelude.{ℕ, Bool, List, Option, true, false, ◌==◌, if◌then◌else◌, [], ◌∷◌}
use Rattle.nd_neighbour.specs.declared.news.Flags.{Flags}

-- why a neighbour was forgotten
pub data Cause : Type 0 where
  -- its resolution, or its probing, went unanswered
  Failed : Cause
  -- it was stale and unused for too long
  Aged : Cause
  -- another one needed its place
  PushedOut : Cause
  -- it was asked for
  Removed : Cause
  Cleared : Cause

-- what happened to one neighbour: each is something that came or was done, and no state
pub data RowKind : Type 0 where
  -- a message gave its link-layer address, and may say whether it is a router
  Given : (mac : ℕ) (mark : Option Bool) → RowKind
  -- a Neighbor Advertisement for it came, at a ReachableTime
  Advertised : (flags : Flags) (mac : Option ℕ) (reachable : ℕ) → RowKind
  -- a message without its link-layer address said whether it is a router
  Marked : (router : Bool) → RowKind
  -- its resolution began with a first solicitation, at a RetransTimer, with room for so many packets
  Asked : (retrans room : ℕ) → RowKind
  -- a further multicast solicitation was sent
  Solicited : RowKind
  -- a packet for it was kept until its address is known
  Waits : (packet : List ℕ) → RowKind
  -- a caller waits until its address is known
  Wanted : RowKind
  -- a packet was sent to it, at a RetransTimer
  Used : (retrans : ℕ) → RowKind
  -- a unicast solicitation was sent
  Probed : RowKind
  -- an upper layer confirmed that it is reached, at a ReachableTime
  Confirmed : (reachable : ℕ) → RowKind
  Forgot : (cause : Cause) → RowKind

-- a moment, whom it happened to, and what it was
abbrev pub Row : Type 0
Row = ℕ × ℕ × RowKind

-- the story of one neighbour: moments and what happened, the newest first
abbrev pub Story : Type 0
Story = List (ℕ × RowKind)

abbrev pub is_end : RowKind → Bool
is_end (Forgot cause) = true
is_end _ = false

-- what happened to the neighbour since it was last forgotten
abbrev pub story : ℕ → List Row → Story
story key [] = []
story key ((at, k, kind) ∷ history) =
    if k == key then (if is_end kind then [] else (at, kind) ∷ story key history) else story key history
