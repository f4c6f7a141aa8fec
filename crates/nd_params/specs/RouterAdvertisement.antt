-- What a Router Advertisement says of the parameters of the link (RFC 4861, section 6.3.4): 0 says nothing, and the first MTU option counts.
use Rattle.std.specs.Prelude.{ℕ, ◌&&◌, ◌==◌, nat_le, if◌then◌else◌, List, [], ◌∷◌, Option, Some, None}
use Rattle.nd_addr.specs.Frame.{ethernet_mtu}
use Rattle.nd_addr.specs.Ip6.{least_mtu}
use Rattle.nd_decode.specs.Option.{Said, slla, tlla, prefix, redirected, mtu, rdnss, dnssl, other}

-- the first MTU option (RFC 4861, section 4.6.4)
abbrev pub first_mtu : List Said → Option ℕ
first_mtu [] = None
first_mtu (mtu n ∷ options) = Some n
first_mtu (slla _ ∷ options) = first_mtu options
first_mtu (tlla _ ∷ options) = first_mtu options
first_mtu (prefix _ ∷ options) = first_mtu options
first_mtu (redirected _ ∷ options) = first_mtu options
first_mtu (rdnss _ _ ∷ options) = first_mtu options
first_mtu (dnssl _ _ ∷ options) = first_mtu options
first_mtu (other _ _ ∷ options) = first_mtu options

-- a number that is announced, where 0 says nothing
abbrev pub nonzero_or : ℕ → ℕ → ℕ
nonzero_or told before = if told == 0 then before else told

-- an MTU that the link can have: at least that of IPv6 (RFC 8200, section 5), at most that of Ethernet (RFC 2464, section 2)
abbrev pub valid_mtu_or : Option ℕ → ℕ → ℕ
valid_mtu_or None before = before
valid_mtu_or (Some n) before = if nat_le least_mtu n && nat_le n ethernet_mtu then n else before
