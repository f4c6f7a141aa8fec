-- Which prefixes a Router Advertisement says are on the link (RFC 4861, section 6.3.4).
use Rattle.std.specs.Prelude.{ℕ, Bool, ◌&&◌, not, if◌then◌else◌, List, [], ◌∷◌, ◌++◌, Option, Some, None}
use Rattle.std.specs.Option.{option_to_list}
use Rattle.nd_addr.specs.Kind.{multicast_prefix, link_local_prefix}
use Rattle.nd_addr.specs.Number.{holds}
use Rattle.nd_addr.specs.Prefix.{PrefixValue}
use Rattle.nd_decode.specs.declared.prefix_info.PrefixInfo.{PrefixInfo}
use Rattle.nd_decode.specs.Option.{Said, slla, tlla, prefix, redirected, mtu, rdnss, dnssl, other}

-- the greatest limit on the prefixes (our choice)
abbrev pub max_prefixes : ℕ
max_prefixes = 64

-- an option says that its prefix is on the link: its flag L is set, and its address is neither link-local nor multicast
abbrev pub is_on_link : PrefixInfo → Bool
is_on_link p = p.on_link && not (holds link_local_prefix p.prefix.address.0) && not (holds multicast_prefix p.prefix.address.0)

-- the prefix, with its valid lifetime
abbrev pub on_link_of : Said → Option (PrefixValue × ℕ)
on_link_of (prefix p) = if is_on_link p then Some (p.prefix, p.valid_lifetime) else None
on_link_of (slla _) = None
on_link_of (tlla _) = None
on_link_of (redirected _) = None
on_link_of (mtu _) = None
on_link_of (rdnss _ _) = None
on_link_of (dnssl _ _) = None
on_link_of (other _ _) = None

-- those of all options, in their order
abbrev pub prefixes_in : List Said → List (PrefixValue × ℕ)
prefixes_in [] = []
prefixes_in (option ∷ options) = option_to_list (on_link_of option) ++ prefixes_in options
