-- The resolution of a neighbour whose link-layer address isn't known (RFC 4861, section 7.2.2).
use Rattle.std.specs.Prelude.{ℕ, Bool, true, false, max, ◌-◌, ◌+◌, Option, Some, None, [], ◌∷◌, List, ◌++◌, ◌*◌}
use Rattle.circular_buffer.specs.Buffer.{keep_last}
use Rattle.nd_neighbour.specs.History.{Asked, Solicited, Story, Waits, Wanted}

-- MAX_MULTICAST_SOLICIT: how many solicitations a resolution sends, the first included (RFC 4861, section 10)
abbrev pub max_multicast_solicit : ℕ
max_multicast_solicit = 3

-- how many follow the first
abbrev pub max_more : ℕ
max_more = max_multicast_solicit - 1

-- a resolution: its moment, the RetransTimer in force then, for how many packets there is room, how many solicitations were sent after the first, and
-- whether a caller waits for its outcome
pub record Resolution : Type 0 where
  pub at : ℕ
  pub retrans : ℕ
  pub room : ℕ
  pub more : ℕ
  pub wanted : Bool

-- a further solicitation is sent
abbrev pub one_more : Option Resolution → Option Resolution
one_more None = None
one_more (Some r) = Some (record { at = r.at; retrans = r.retrans; room = r.room; more = r.more + 1; wanted = r.wanted })

-- a caller waits for its outcome
abbrev pub with_wish : Option Resolution → Option Resolution
with_wish None = None
with_wish (Some r) = Some (record { at = r.at; retrans = r.retrans; room = r.room; more = r.more; wanted = true })

-- the last resolution
abbrev pub resolution_of : Story → Option Resolution
resolution_of [] = None
resolution_of ((at, Asked retrans room) ∷ s) = Some (record { at = at; retrans = retrans; room = room; more = 0; wanted = false })
resolution_of ((at, Solicited) ∷ s) = one_more (resolution_of s)
resolution_of ((at, Wanted) ∷ s) = with_wish (resolution_of s)
resolution_of ((at, _) ∷ s) = resolution_of s

-- the packets that were to wait since the resolution began, the oldest first
abbrev pub packets_of : Story → List (List ℕ)
packets_of [] = []
packets_of ((at, Asked retrans room) ∷ s) = []
packets_of ((at, Waits packet) ∷ s) = packets_of s ++ packet ∷ []
packets_of ((at, _) ∷ s) = packets_of s

-- for how many packets the resolution has room: "The queue MUST hold at least one packet"
abbrev pub room_in : Option Resolution → ℕ
room_in None = 0
room_in (Some r) = max 1 r.room

-- the last of them wait
abbrev pub waiting_of : Story → List (List ℕ)
waiting_of s = keep_last (room_in (resolution_of s)) (packets_of s)

-- the RetransTimer of the resolution
abbrev pub retrans_in : Option Resolution → ℕ
retrans_in None = 0
retrans_in (Some r) = r.retrans

-- how many solicitations were sent after the first
abbrev pub more_in : Option Resolution → ℕ
more_in None = 0
more_in (Some r) = r.more

-- whether a caller waits for its outcome
abbrev pub wanted_in : Option Resolution → Bool
wanted_in None = false
wanted_in (Some r) = r.wanted

-- the second solicitation is due one RetransTimer after the first, the third after two, and the failure after three
abbrev pub resolution_due : Option Resolution → ℕ
resolution_due None = 0
resolution_due (Some r) = r.at + (r.more + 1) * r.retrans
