-- The Router Solicitations of a host, as they are kept (RFC 4861, section 6.3.7).
use Rattle.std.specs.Prelude.{◌≡◌, ℕ, ◌+◌, ◌*◌, ◌==◌, Bool, ◌&&◌, not, nat_lt, if◌then◌else◌, Option, Some, None}
use Rattle.std.specs.Option.{option_map}
use Rattle.nd_addr.specs.declared.role.Role.{Role}
use Rattle.nd_slaac.specs.Due.{Falls, Assigns}
use Rattle.nd_chronicle.specs.Start.{Start, link_local_key, is_host}
use Rattle.nd_chronicle.specs.Happening.{Chronicle}
use Rattle.nd_chronicle.specs.Histories.{parameter_history, address_history}
use Rattle.nd_chronicle.specs.Due.{max_rtr_solicitations, rtr_solicitation_interval, solicited_routers, heard_router, assigned_at}

-- when the link-local address was assigned, how many were sent, and whether a router was heard
pub record Solicitations : Type 0 where
  pub assigned : Option ℕ
  pub sent : ℕ
  pub heard : Bool

-- when the next one is due
abbrev pub next_solicitation : Role → Solicitations → Option ℕ
next_solicitation role s =
    if is_host role && nat_lt s.sent max_rtr_solicitations && not s.heard
    then option_map (λ at. at + s.sent * rtr_solicitation_interval) s.assigned
    else None

-- they are those of the chronicle
pub record Stands (start : Start) (s : Solicitations) (c : Chronicle) : Type 0 where
  pub assigned : s.assigned ≡ assigned_at (link_local_key start) (address_history c)
  pub sent : s.sent ≡ solicited_routers c
  pub heard : s.heard ≡ heard_router (parameter_history c)

-- what is due for one of the node's own addresses says when the link-local one is assigned
abbrev pub after_address : ℕ → ℕ → Falls → Solicitations → Solicitations
after_address link_local now (Assigns key) s = if key == link_local then record s { assigned = Some now } else s
after_address link_local now _ s = s
