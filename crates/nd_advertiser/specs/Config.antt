-- What a router may be configured to advertise of itself and of its link (RFC 4861, section 6.2.1; RFC 4191, section 2.2).
use Rattle.std.specs.Prelude.{ℕ, ◌*◌, Bool, true, false, ◌&&◌, ◌||◌, not, ◌==◌, nat_le, if◌then◌else◌, Option, Some, None, Result, Ok, Err}
use Rattle.nd_addr.specs.Frame.{ethernet_mtu}
use Rattle.nd_addr.specs.Ip6.{least_mtu}
use Rattle.nd_addr.specs.declared.preference.Preference.{Preference}
use Rattle.nd_addr.specs.declared.preference.Preference.TheVariants.{High, Medium, Low}
use Rattle.nd_decode.specs.declared.router_advertisement.RouterAdvertisement.{RouterAdvertisement}
use Rattle.nd_advertiser.specs.declared.config_fault.ConfigFault.{ConfigFault}
use Rattle.nd_advertiser.specs.declared.config_fault.ConfigFault.TheVariants as faults

-- the intervals between two advertisements and the router lifetime in seconds, the times of the fields in milliseconds, the MTU in
-- bytes, 0 if none is announced
pub record Settings : Type 0 where
  pub min_interval : ℕ
  pub max_interval : ℕ
  pub fields : RouterAdvertisement
  pub mtu : ℕ

-- MaxRtrAdvInterval at least and at most, and MinRtrAdvInterval at least, in seconds
abbrev pub least_max_interval : ℕ
least_max_interval = 4

abbrev pub greatest_max_interval : ℕ
greatest_max_interval = 1800

abbrev pub least_min_interval : ℕ
least_min_interval = 3

-- AdvDefaultLifetime at most, in seconds
abbrev pub greatest_lifetime : ℕ
greatest_lifetime = 9000

-- AdvReachableTime at most, in milliseconds: an hour
abbrev pub greatest_reachable_time : ℕ
greatest_reachable_time = 3600000

-- from the first to the last
abbrev pub is_from : ℕ → ℕ → ℕ → Bool
is_from first last n = nat_le first n && nat_le n last

-- MaxRtrAdvInterval is no less than 4 seconds and no greater than 1800 seconds
abbrev pub is_max_interval : ℕ → Bool
is_max_interval max = is_from least_max_interval greatest_max_interval max

-- MinRtrAdvInterval is no less than 3 seconds and no greater than .75 * MaxRtrAdvInterval
abbrev pub is_min_interval : ℕ → ℕ → Bool
is_min_interval min max = nat_le least_min_interval min && nat_le (4 * min) (3 * max)

-- AdvDefaultLifetime is either zero, or between MaxRtrAdvInterval and 9000 seconds
abbrev pub is_router_lifetime : ℕ → ℕ → Bool
is_router_lifetime max lifetime = (lifetime == 0) || is_from max greatest_lifetime lifetime

-- AdvReachableTime is no greater than 3,600,000 milliseconds
abbrev pub is_reachable_time : ℕ → Bool
is_reachable_time time = nat_le time greatest_reachable_time

-- AdvLinkMTU is zero, or an MTU that Ethernet can have (RFC 2464, section 2; RFC 8200, section 5)
abbrev pub is_mtu : ℕ → Bool
is_mtu mtu = (mtu == 0) || is_from least_mtu ethernet_mtu mtu

-- it is Medium
abbrev pub is_medium : Preference → Bool
is_medium High = false
is_medium Medium = true
is_medium Low = false

-- "If the Router Lifetime is zero, the preference value MUST be set to (00) by the sender" (RFC 4191, section 2.2), so to Medium
abbrev pub may_prefer : ℕ → Preference → Bool
may_prefer lifetime preference = not (lifetime == 0) || is_medium preference

-- the milliseconds of a second
abbrev pub milliseconds : ℕ → ℕ
milliseconds seconds = 1000 * seconds

-- the time until the next advertisement lies between MinRtrAdvInterval and MaxRtrAdvInterval, in milliseconds (sections 6.2.1 and 6.2.4)
abbrev pub interval_range : Settings → ℕ × ℕ
interval_range s = (milliseconds s.min_interval, milliseconds s.max_interval)

-- the first of these rules that the settings break
abbrev pub config_fault : Settings → Option ConfigFault
config_fault s =
    if is_max_interval s.max_interval then
    (if is_min_interval s.min_interval s.max_interval then
    (if is_router_lifetime s.max_interval s.fields.router_lifetime then
    (if is_reachable_time s.fields.reachable_time then
    (if is_mtu s.mtu then
    (if may_prefer s.fields.router_lifetime s.fields.preference then None else Some faults.Preference)
    else Some faults.Mtu)
    else Some faults.Reachable)
    else Some faults.Lifetime)
    else Some faults.Min)
    else Some faults.Max

-- a value without a fault, or its fault
abbrev pub unless : {X : Type 0} → Option ConfigFault → X → Result X ConfigFault
unless None x = Ok x
unless (Some fault) x = Err fault
