-- What waits for an address (RFC 4861, section 7.2.2).
use Rattle.std.specs.Prelude.{ℕ, List, [], ◌∷◌, ◌++◌, length, nat_lt, if◌then◌else◌, slice_get, Option, None}
use Rattle.circular_buffer.specs.Buffer.{keep_last}

-- the greatest limit on the packets that wait (section 7.2.2 asks for at least one)
abbrev pub max_waiting : ℕ
max_waiting = 8

-- how many packets there is room for, and those that wait, the oldest first
pub record Waiting : Type 0 where
  pub room : ℕ
  pub packets : List (List ℕ)

-- one more waits, for which the oldest goes where there is no room
abbrev pub then_waits : ℕ → List (List ℕ) → List ℕ → List (List ℕ)
then_waits room waiting packet = keep_last room (waiting ++ packet ∷ [])

-- the one that goes for it
abbrev pub replaced : ℕ → List (List ℕ) → List ℕ → Option (List ℕ)
replaced room waiting packet = if nat_lt (length waiting) room then None else slice_get (waiting ++ packet ∷ []) 0
