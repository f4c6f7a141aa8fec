-- The parameters that are in force at a place of a chronicle (RFC 4861, section 6.3.2): all times in milliseconds.
use Rattle.std.specs.Prelude.{ℕ}
use Rattle.nd_params.specs.History.{hop_limit_of, mtu_of, base_of, retrans_of}
use Rattle.nd_params.specs.ReachableTime.{reachable_of, next_draw}
use Rattle.nd_chronicle.specs.Happening.{Chronicle}
use Rattle.nd_chronicle.specs.Histories.{parameter_history}

abbrev pub hop_limit : Chronicle → ℕ
hop_limit c = hop_limit_of (parameter_history c)

abbrev pub link_mtu : Chronicle → ℕ
link_mtu c = mtu_of (parameter_history c)

abbrev pub base_reachable_time : Chronicle → ℕ
base_reachable_time c = base_of (parameter_history c)

-- the last one that was drawn
abbrev pub reachable_time : Chronicle → ℕ
reachable_time c = reachable_of (parameter_history c)

abbrev pub retrans_timer : Chronicle → ℕ
retrans_timer c = retrans_of (parameter_history c)

-- when ReachableTime is drawn again
abbrev pub next_redraw : Chronicle → ℕ
next_redraw c = next_draw (parameter_history c)
