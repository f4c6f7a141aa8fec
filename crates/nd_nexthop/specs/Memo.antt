-- The next hops that a choice remembers for destinations (RFC 4861, section 5.1, the Destination Cache).
use Rattle.std.specs.Prelude.{◌≡◌, ℕ, Bool, true, nat_le, List, [], Option, Some, None, Contains}
use Rattle.nd_addr.specs.Number.{addr_at}
use Rattle.nd_nexthop.specs.DefaultRouter.{DefaultRouter}
use Rattle.nd_nexthop.specs.declared.next_hop.Hop.{Hop}
use Rattle.nd_nexthop.specs.NextHop.{hop}
use Rattle.nd_nexthop.specs.NextHopKept.{hop_of}

-- the greatest limit on the destinations whose next hops are remembered (our choice)
abbrev pub max_remembered : ℕ
max_remembered = 256

-- How many destinations there is room for; these by their numbers, each with its next hop; and the last moment at which they are asked for, if there is
-- one.
pub record Memory : Type 0 where
  pub limit : ℕ
  pub hops : List (ℕ × Hop)
  pub until : Option ℕ

-- no destination is remembered
abbrev pub forgotten : Memory → Memory
forgotten m = record m { hops = [] }

-- they are asked for at the moment
abbrev pub is_asked : ℕ → Option ℕ → Bool
is_asked now None = true
is_asked now (Some until) = nat_le now until

-- a destination is remembered with the next hop that it has at a node that has these own addresses, these addresses on its link, these
-- default routers, and these kept redirects of each destination
abbrev pub IsHop : (List ℕ → Bool) → (List ℕ → Bool) → List DefaultRouter → (ℕ → Option ℕ) → ℕ × Hop → Type 0
IsHop own on_link routers kept e = hop_of e.1 ≡ hop own on_link routers (kept e.0) (addr_at e.0).0

-- each is
abbrev pub AreHops : (List ℕ → Bool) → (List ℕ → Bool) → List DefaultRouter → (ℕ → Option ℕ) → List (ℕ × Hop) → Type 0
AreHops own on_link routers kept hops = (e : ℕ × Hop) → Contains hops e → IsHop own on_link routers kept e
