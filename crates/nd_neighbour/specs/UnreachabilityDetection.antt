-- The first use of a neighbour that is no longer reachable, and the probes that follow it (RFC 4861, section 7.3.3).
use Rattle.std.specs.Prelude.{ℕ, nat_le, if◌then◌else◌, Option, Some, None, ◌+◌, ◌*◌}
use Rattle.nd_neighbour.specs.declared.unreachability_detection.Probing.{Probing}
use Rattle.nd_neighbour.specs.History.{RowKind, Used, Probed}
use Rattle.nd_neighbour.specs.ReachabilityConfirmation.{Evidence, since, since_in}

-- DELAY_FIRST_PROBE_TIME: how long after the first use of a STALE neighbour its first probe is sent, in milliseconds
-- (RFC 4861, section 10)
abbrev pub delay_first_probe_time : ℕ
delay_first_probe_time = 5000

-- STALE_LIFETIME: how long a neighbour that is STALE and unused is kept, in milliseconds, a day. Our choice: RFC 4861,
-- section 5.3, leaves it open.
abbrev pub stale_lifetime : ℕ
stale_lifetime = 86400000

-- MAX_UNICAST_SOLICIT: how many probes are sent (RFC 4861, section 10)
abbrev pub max_unicast_solicit : ℕ
max_unicast_solicit = 3

-- a use: its moment, the RetransTimer in force then, and how many probes were sent since
pub record Use : Type 0 where
  pub at : ℕ
  pub retrans : ℕ
  pub probes : ℕ

-- the first use at a moment at which the neighbour is no longer reachable
abbrev pub begins_use : Option Evidence → ℕ → ℕ → Option Use
begins_use None at retrans = None
begins_use (Some evidence) at retrans = if nat_le (since evidence) at then Some (record { at = at; retrans = retrans; probes = 0 }) else None

-- the first use goes on, with one more probe where one is sent
abbrev pub goes_on : Option Evidence → Option Use → ℕ → RowKind → Option Use
goes_on evidence None at (Used retrans) = begins_use evidence at retrans
goes_on evidence None at _ = None
goes_on evidence (Some use') at Probed = Some (record { at = use'.at; retrans = use'.retrans; probes = use'.probes + 1 })
goes_on evidence (Some use') at _ = Some use'

-- the first probe is due DELAY_FIRST_PROBE_TIME after the use, each further one a RetransTimer later, and the failure
-- one after the third; without a use the entry goes a day after it became stale
abbrev pub reach_due : Option Evidence → Option Use → ℕ
reach_due evidence None = since_in evidence + stale_lifetime
reach_due evidence (Some use') = use'.at + delay_first_probe_time + use'.probes * use'.retrans

-- what is kept of the use: the moment of the first probe, the time between two, and how many were sent
abbrev pub probing_of : Option Use → Option Probing
probing_of None = None
probing_of (Some use') = Some (record { from = use'.at + delay_first_probe_time; retrans = use'.retrans; sent = use'.probes })
