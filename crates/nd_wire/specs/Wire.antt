-- What carries frames between nodes.
use Rattle.std.specs.Prelude.{◌≡◌, ◌-◌, ◌^◌, ℕ, suc, zero, min, List, Option, Some, None}
use Rattle.nd_lines.specs.Counts.{one_more}

-- each frame arrives at a node as it was sent to it; `arrives` says which bytes may arrive: first the node, then the frame, then the bytes
abbrev pub IsFaithfulTo : ℕ → (ℕ → List ℕ → List ℕ → Type 0) → Type 0
IsFaithfulTo node arrives = (frame bytes : List ℕ) → arrives node frame bytes → bytes ≡ frame

-- so it is at each node
abbrev pub IsFaithful : (ℕ → List ℕ → List ℕ → Type 0) → Type 0
IsFaithful arrives = (node : ℕ) → IsFaithfulTo node arrives

-- how many calls come before the one that fails, after one more call: none once it failed
abbrev pub after_call : Option ℕ → Option ℕ
after_call None = None
after_call (Some zero) = None
after_call (Some (suc calls)) = Some calls

-- how often a wire failed that fails at one call by itself: with the faults of the wire inside, and by how many calls
-- come before its own
abbrev pub all_faults : ℕ → Option ℕ → ℕ
all_faults inside (Some calls) = min inside (2 ^ 64 - 1)
all_faults inside None = one_more inside
