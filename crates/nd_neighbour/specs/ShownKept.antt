-- Only what is kept, in the code's terms: what an entry shows at a moment.
use Rattle.std.specs.Prelude.{ℕ, ◌-◌, nat_lt, if◌then◌else◌, Option, Some, None, ◌&&◌}
use Rattle.nd_neighbour.specs.declared.shown.Reachability.{Reachability}
use Rattle.nd_neighbour.specs.declared.shown.Reachability.TheVariants.{Stale, Delay, Probe, Incomplete, Reachable}
use Rattle.nd_neighbour.specs.declared.unreachability_detection.Probing.{Probing}
use Rattle.nd_neighbour.specs.EntryKept.{Stage, Resolving, Known, NeighbourEntry, known_mac}
use Rattle.nd_neighbour.specs.Shown.{Seen}

-- the same of what is kept: without a use STALE; DELAY before the first probe, and PROBE from then on
abbrev pub probing_state : Option Probing → ℕ → Reachability
probing_state None t = Stale
probing_state (Some probing) t = if nat_lt t probing.from then Delay else Probe

-- the state by what is kept
abbrev pub state_in : Stage → ℕ → Reachability
state_in (Resolving retrans sent wanted waiting) t = Incomplete
state_in (Known mac confirmed since probing) t = if confirmed && nat_lt t since then Reachable else probing_state probing t

-- how long the confirmation still holds
abbrev pub left_in : Stage → ℕ → Option ℕ
left_in (Resolving retrans sent wanted waiting) t = None
left_in (Known mac confirmed since probing) t = if confirmed && nat_lt t since then Some (since - t) else None

-- a neighbour at the moment
abbrev pub seen : ℕ → NeighbourEntry → Seen
seen t n = record { key = n.key; mac = known_mac n.stage; router = n.router; state = state_in n.stage t; left = left_in n.stage t }
