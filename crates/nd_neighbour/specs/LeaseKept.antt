-- Only what is kept, in the code's terms: up to when packets may be sent to a neighbour without a question, and what leaves that (RFC 4861, section 7.3.3; the
-- lease is this project's own).
use Rattle.std.specs.Prelude.{◌≡◌, ◌≤◌, ℕ, ◌+◌, max, nat_le, Bool, true, ◌&&◌, if◌then◌else◌, is_some, List, Option, Some, None}
use Rattle.nd_neighbour.specs.DueKept.{NoneBefore}
use Rattle.nd_neighbour.specs.EntryKept.{NeighbourEntry, Stage, Resolving, Known, known_mac}
use Rattle.nd_neighbour.specs.TableKept.{entry_in}
use Rattle.nd_neighbour.specs.UnreachabilityDetection.{stale_lifetime}

-- up to the end of the confirmation, or after a use up to what is due; without an address, and in STALE, no longer
abbrev pub leased_to : Stage → ℕ → ℕ
leased_to (Resolving retrans sent wanted waiting) due = 0
leased_to (Known mac confirmed since probing) due = max (if confirmed then since else 0) (if is_some probing then due else 0)

-- of a neighbour that may have no entry
abbrev pub leased_until : Option NeighbourEntry → ℕ
leased_until None = 0
leased_until (Some n) = leased_to n.stage n.due

-- the link-layer address of a neighbour that may have no entry
abbrev pub mac_at : Option NeighbourEntry → Option ℕ
mac_at None = None
mac_at (Some n) = known_mac n.stage

-- a neighbour that is REACHABLE up to this moment keeps its lease, and nothing is due for it earlier; without an address nothing makes it REACHABLE
abbrev pub outlasts_in : ℕ → Stage → ℕ → Bool
outlasts_in end (Resolving retrans sent wanted waiting) due = true
outlasts_in end (Known mac confirmed since probing) due = nat_le (leased_to (Known mac confirmed since probing) due) end && nat_le due (end + stale_lifetime)

-- the same of one that may have no entry
abbrev pub outlasts : ℕ → Option NeighbourEntry → Bool
outlasts end None = true
outlasts end (Some n) = outlasts_in end n.stage n.due

-- the link-layer addresses are the same
abbrev pub LeavesMacs : List NeighbourEntry → List NeighbourEntry → Type 0
LeavesMacs old new = (key : ℕ) → mac_at (entry_in key new) ≡ mac_at (entry_in key old)

-- The link-layer addresses are the same, no lease ends earlier, and nothing is due earlier.
pub record LeavesLeases (old new : List NeighbourEntry) : Type 0 where
  pub mac : LeavesMacs old new
  pub lease : (key : ℕ) → leased_until (entry_in key old) ≤ leased_until (entry_in key new)
  pub due : (now : ℕ) → NoneBefore old now → NoneBefore new now
