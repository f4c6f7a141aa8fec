-- The link-layer address of a neighbour is wanted by a caller that keeps its packets (RFC 4861, sections 7.2.2 and 7.3.3).
use Rattle.std.specs.Prelude.{ℕ, Bool, true, false, List, ◌∷◌, Option, Some, None}
use Rattle.nd_neighbour.specs.History.{Row, Asked, Wanted, Used}

-- what becomes of the wish: the address is known, or the caller waits, and the resolution may begin with it
pub data Wanting : Type 0 where
  IsKnown : (mac : ℕ) → Wanting
  Awaits : (solicit : Bool) → Wanting

-- for a neighbour that is present or not, with this address
abbrev pub wanting_by : Bool → Option ℕ → Wanting
wanting_by false known = Awaits true
wanting_by true None = Awaits false
wanting_by true (Some mac) = IsKnown mac

-- the address that is known then
abbrev pub mac_in : Wanting → Option ℕ
mac_in (IsKnown mac) = Some mac
mac_in (Awaits solicit) = None

-- what the wish adds: a use where an address is known, else the caller waits; the first one begins a resolution, with room for so many packets
abbrev pub then_wanted : Bool → Option ℕ → ℕ → ℕ → ℕ → ℕ → List Row → List Row
then_wanted false known now key retrans room history = (now, key, Wanted) ∷ (now, key, Asked retrans room) ∷ history
then_wanted true None now key retrans room history = (now, key, Wanted) ∷ history
then_wanted true (Some mac) now key retrans room history = (now, key, Used retrans) ∷ history
