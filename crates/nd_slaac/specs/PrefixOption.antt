-- Which prefix options name an address, and which (RFC 4862, section 5.5.3; RFC 4291, section 2.5.1 and appendix A).
use Rattle.std.specs.Prelude.{ℕ, ◌==◌, nat_le, Bool, ◌&&◌, not, List, [], ◌∷◌}
use Rattle.nd_addr.specs.declared.mac.Mac.{Mac}
use Rattle.nd_addr.specs.Number.{number_of, holds}
use Rattle.nd_addr.specs.Kind.{multicast_prefix, link_local_prefix, link_local_subnet}
use Rattle.nd_addr.specs.InterfaceId.{address_from_mac}
use Rattle.nd_decode.specs.declared.prefix_info.PrefixInfo.{PrefixInfo}
use Rattle.nd_decode.specs.Option.{Said, prefix}
use Rattle.nd_slaac.specs.History.{Lifetimes}

-- how many bits of an address are its prefix, the identifier having the others (RFC 4291, section 2.5.1)
abbrev pub prefix_bits : ℕ
prefix_bits = 64

-- the option is taken: it has the autonomous flag, its prefix is neither multicast nor link-local, its preferred
-- lifetime isn't above the valid one, and with an identifier of 64 bits the prefix makes an address
unfoldable pub is_taken : PrefixInfo → Bool
is_taken info =
    info.autonomous && not (holds multicast_prefix info.prefix.address.0) && not (holds link_local_prefix info.prefix.address.0)
    && nat_le info.preferred_lifetime info.valid_lifetime && (info.prefix.length == prefix_bits)

-- the address that the option names: its prefix and the identifier that comes of the link-layer address
unfoldable pub named_by : Mac → PrefixInfo → ℕ
named_by mac info = number_of (address_from_mac info.prefix.address.0 mac.0)

-- the link-local address: fe80::/64 and that identifier (RFC 4862, section 5.3)
unfoldable pub link_local_of : Mac → ℕ
link_local_of mac = number_of (address_from_mac link_local_subnet.address.0 mac.0)

abbrev pub lifetimes_of : PrefixInfo → Lifetimes
lifetimes_of info = record { valid = info.valid_lifetime; preferred = info.preferred_lifetime }

-- the option forms an address where that isn't known: it is taken, and its valid lifetime isn't 0
abbrev pub is_forming : PrefixInfo → Bool
is_forming info = is_taken info && not (info.valid_lifetime == 0)

-- the prefix options of a message, in order
abbrev pub prefixes_in : List Said → List PrefixInfo
prefixes_in [] = []
prefixes_in (prefix info ∷ options) = info ∷ prefixes_in options
prefixes_in (_ ∷ options) = prefixes_in options
