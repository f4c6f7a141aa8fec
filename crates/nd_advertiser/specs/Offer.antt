-- A prefix that a router advertises (RFC 4861, section 6.2.1, AdvPrefixList).
use Rattle.std.specs.Prelude.{◌||◌, nat_le, if◌then◌else◌, Option, Some, None}
use Rattle.nd_addr.specs.Kind.{multicast_prefix, link_local_prefix}
use Rattle.nd_addr.specs.Number.{holds}
use Rattle.nd_decode.specs.declared.prefix_info.PrefixInfo.{PrefixInfo}
use Rattle.nd_advertiser.specs.declared.config_fault.ConfigFault.{ConfigFault}
use Rattle.nd_advertiser.specs.declared.config_fault.ConfigFault.TheVariants as faults

-- AdvPreferredLifetime is no larger than AdvValidLifetime; the link-local prefix is not advertised (section 6.2.1), and no multicast one
abbrev pub offer_fault : PrefixInfo → Option ConfigFault
offer_fault info =
    if nat_le info.preferred_lifetime info.valid_lifetime then
    (if holds link_local_prefix info.prefix.address.0 || holds multicast_prefix info.prefix.address.0 then Some faults.Prefix else None)
    else Some faults.Preferred
