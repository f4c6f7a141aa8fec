-- How a receiver reads the options of a message that it does not take for its word.
use Rattle.std.specs.Prelude.{ℕ, Bool, false, ◌&&◌, ◌||◌, not, nat_lt, if◌then◌else◌, List, [], ◌∷◌}
use Rattle.nd_decode.specs.declared.prefix_info.PrefixInfo.{PrefixInfo}
use Rattle.nd_decode.specs.declared.reading.Reading.{Reading}
use Rattle.nd_decode.specs.Option.{Said, slla, tlla, prefix, redirected, mtu, rdnss, dnssl, other}

-- as it is said
abbrev pub as_said : Reading
as_said = record { unformed = false; bounded = false }

-- by one reading, and then by another
abbrev pub both : Reading → Reading → Reading
both a b = record { unformed = a.unformed || b.unformed; bounded = a.bounded || b.bounded }

-- the longest lifetime that a bounded reading takes: a week (our choice), in seconds
abbrev pub most_lifetime : ℕ
most_lifetime = 604800

-- a lifetime in seconds: a longer one, and one without an end, is read as the longest
unfoldable pub lifetime_read : Bool → ℕ → ℕ
lifetime_read bounded seconds = if bounded && nat_lt most_lifetime seconds then most_lifetime else seconds

-- a Prefix Information (RFC 4861, section 4.6.2): no address is to be formed from it in a reading that forms none
abbrev pub info_read : Reading → PrefixInfo → PrefixInfo
info_read reading info = record info {
  autonomous = info.autonomous && not reading.unformed;
  valid_lifetime = lifetime_read reading.bounded info.valid_lifetime;
  preferred_lifetime = lifetime_read reading.bounded info.preferred_lifetime;
}

-- an option: the others are read as they are said
abbrev pub option_read : Reading → Said → Said
option_read reading (prefix info) = prefix (info_read reading info)
option_read reading (rdnss lifetime servers) = rdnss (lifetime_read reading.bounded lifetime) servers
option_read reading (dnssl lifetime names) = dnssl (lifetime_read reading.bounded lifetime) names
option_read reading (slla mac) = slla mac
option_read reading (tlla mac) = tlla mac
option_read reading (redirected packet) = redirected packet
option_read reading (mtu n) = mtu n
option_read reading (other kind rest) = other kind rest

-- all options
unfoldable pub options_read : Reading → List Said → List Said
options_read reading [] = []
options_read reading (option ∷ options) = option_read reading option ∷ options_read reading options
