-- What its story says of a neighbour: whether it is present, its link-layer address and its mark, its last
-- confirmation or disturbance, and its first use afterwards.
use Rattle.std.specs.Prelude.{Bool, true, false, [], ◌∷◌, ℕ, if◌then◌else◌, Option, Some, None, ◌&&◌, is_some, List}
use Rattle.nd_neighbour.specs.History.{Given, Asked, Story, Advertised, Marked, RowKind, Confirmed}
use Rattle.nd_neighbour.specs.LinkLayerAddress.{changes}
use Rattle.nd_neighbour.specs.ReachabilityConfirmation.{Evidence, Confirms, Disturbs}
use Rattle.nd_neighbour.specs.NeighborAdvertisement.{taken, conforms, advert_says}
use Rattle.nd_neighbour.specs.AddressResolution.{waiting_of, Resolution, resolution_due, resolution_of, wanted_in}
use Rattle.nd_neighbour.specs.UnreachabilityDetection.{Use, goes_on, reach_due}

-- there is an entry from the first row on that gives an address or begins a resolution
abbrev pub is_present : Story → Bool
is_present [] = false
is_present ((at, Given mac mark) ∷ s) = true
is_present ((at, Asked retrans room) ∷ s) = true
is_present ((at, _) ∷ s) = is_present s

-- the link-layer address: that of the last message that gave one and was the first to do so, no
-- advertisement, or one that overrides. Advertisements of an absent neighbour count for nothing.
abbrev pub mac_of : Story → Option ℕ
mac_of [] = None
mac_of ((at, Given mac mark) ∷ s) = Some mac
mac_of ((at, Advertised flags mac reachable) ∷ s) = if is_present s then taken flags.overrides mac (mac_of s) else None
mac_of ((at, _) ∷ s) = mac_of s

-- IsRouter: what the last message says that speaks of it, and else false
abbrev pub is_router : Story → Bool
is_router [] = false
is_router ((at, Given mac None) ∷ s) = is_router s
is_router ((at, Given mac (Some router)) ∷ s) = router
is_router ((at, Advertised flags mac reachable) ∷ s) =
    if is_present s && conforms flags.overrides mac (mac_of s) then flags.router else is_router s
is_router ((at, Marked router) ∷ s) = if is_present s then router else is_router s
is_router ((at, _) ∷ s) = is_router s

-- whether something that happens is a confirmation or a disturbance, of a neighbour that is present or not, with
-- this address and this last word
abbrev pub says : Bool → Option ℕ → Option Evidence → ℕ → RowKind → Option Evidence
says present known evidence at (Given mac mark) = if changes mac known then Some (Disturbs at) else None
says present known evidence at (Advertised flags mac reachable) = if present then advert_says flags mac reachable known evidence at else None
says present known evidence at (Confirmed reachable) = if is_some known then Some (Confirms at reachable) else None
says present known evidence at _ = None

-- the first where there is one, and else the second
abbrev pub or_else : {X : Type 0} → Option X → Option X → Option X
or_else None other = other
or_else (Some x) other = Some x

-- the last confirmation or disturbance
abbrev pub evidence_of : Story → Option Evidence
evidence_of [] = None
evidence_of ((at, kind) ∷ s) = or_else (says (is_present s) (mac_of s) (evidence_of s) at kind) (evidence_of s)

-- the first use since the last word from which on it isn't reachable, with the probes since then
abbrev pub use_of : Story → Option Use
use_of [] = None
use_of ((at, kind) ∷ s) =
    if is_some (says (is_present s) (mac_of s) (evidence_of s) at kind) then None else goes_on (evidence_of s) (use_of s) at kind

-- what waits for a neighbour whose address isn't known
abbrev pub waits_by : Option ℕ → List (List ℕ) → List (List ℕ)
waits_by None waiting = waiting
waits_by (Some mac) waiting = []

-- the same by the story
abbrev pub waits_of : Story → List (List ℕ)
waits_of s = if is_present s then waits_by (mac_of s) (waiting_of s) else []

-- a caller waits for its address, while it isn't known
abbrev pub awaited_by : Option ℕ → Bool → Bool
awaited_by None wanted = wanted
awaited_by (Some mac) wanted = false

-- the same by the story
abbrev pub is_awaited : Story → Bool
is_awaited s = is_present s && awaited_by (mac_of s) (wanted_in (resolution_of s))

-- the moment at which something is due: of the resolution without an address, of reachability with one
abbrev pub due_by : Option ℕ → Option Evidence → Option Use → Option Resolution → ℕ
due_by None evidence use' resolution = resolution_due resolution
due_by (Some mac) evidence use' resolution = reach_due evidence use'

-- the moment at which something is due for a neighbour that is present
abbrev pub due_of : Story → ℕ
due_of s = due_by (mac_of s) (evidence_of s) (use_of s) (resolution_of s)
