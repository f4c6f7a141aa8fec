use Rattle.std.proofs.Common.{◌≡◌, ◌≤◌, take, length}
use Rattle.std.specs.Prelude.{map, vec_len, vec_capacity}
use Rattle.nd_addr.specs.Number.{number_of}
use Rattle.nd_routers.proofs.routers.addresses.Given as goal

-- the addresses of the entries so far
abbrev pub invariant-loop-entry : goal.invariant-loop-entry
invariant-loop-entry g l =
    (map (λ a. number_of a.0) l.addrs.items ≡ map (λ e. e.key) (take l.entry-index l.entries.items)) × (vec_len l.addrs ≡ l.entry-index) × (length l.entries.items ≤ vec_capacity l.addrs)
