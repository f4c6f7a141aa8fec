-- The one spelling that is written: all that is ignored is 0.
use Rattle.std.specs.Prelude.{ℕ, ◌+◌, ◌/◌, Bool, bit_or, if◌then◌else◌, List, [], ◌∷◌, ◌++◌, length}
use Rattle.std.specs.List.{flat_map}
use Rattle.byteorder.specs.Endian.{big_bytes}
use Rattle.nd_addr.specs.declared.addr.Addr.{Addr}
use Rattle.nd_addr.specs.declared.preference.Preference.{Preference}
use Rattle.nd_addr.specs.declared.preference.Preference.TheVariants.{High, Medium, Low}
use Rattle.nd_addr.specs.Checksum.{sum_to_write}
use Rattle.nd_decode.specs.declared.body.Body.{Body}
use Rattle.nd_decode.specs.declared.body.Body.TheVariants as bodies
use Rattle.nd_decode.specs.declared.prefix_info.PrefixInfo.{PrefixInfo}
use Rattle.nd_decode.specs.Option.{Said, slla, tlla, prefix, redirected, mtu, rdnss, dnssl, other}
use Rattle.nd_decode.specs.Message.{Parts}
use Rattle.nd_message.specs.Rdnss.{rdnss_piece}
use Rattle.nd_message.specs.Dnssl.{dnssl_piece}

-- a byte of two flags, at its highest bits
abbrev pub flags_of : Bool → Bool → ℕ
flags_of first second = bit_or (if first then 0x80 else 0) (if second then 0x40 else 0)

-- a byte of three flags, at its highest bits
abbrev pub three_flags_of : Bool → Bool → Bool → ℕ
three_flags_of first second third = bit_or (flags_of first second) (if third then 0x20 else 0)

-- the two bits of a preference, 01, 00 and 11; 10 is never written (RFC 4191, section 2.1)
abbrev pub preference_bits : Preference → ℕ
preference_bits High = 0x08
preference_bits Medium = 0
preference_bits Low = 0x18

-- the byte of flags of a Router Advertisement (RFC 4861, section 4.2; RFC 4191, section 2.2)
abbrev pub router_flags_of : Bool → Bool → Preference → ℕ
router_flags_of managed other_config preference = bit_or (flags_of managed other_config) (preference_bits preference)

-- a Prefix Information (RFC 4861, section 4.6.2)
abbrev pub prefix_piece : PrefixInfo → List ℕ
prefix_piece p =
    3 ∷ 4 ∷ p.prefix.length ∷ flags_of p.on_link p.autonomous ∷ big_bytes 4 p.valid_lifetime ++ big_bytes 4 p.preferred_lifetime
    ++ (0 ∷ 0 ∷ 0 ∷ 0 ∷ []) ++ p.prefix.address.0

-- an option that no row of the table has: its type, its length, and its bytes
abbrev pub other_piece : ℕ → List ℕ → List ℕ
other_piece kind rest = kind ∷ ((length rest + 2) / 8) ∷ rest

-- the table of options: type, length in units of 8 bytes, data (RFC 4861, section 4.6; RFC 8106, section 5)
abbrev pub piece_of : Said → List ℕ
piece_of (slla mac) = 1 ∷ 1 ∷ mac.0
piece_of (tlla mac) = 2 ∷ 1 ∷ mac.0
piece_of (prefix p) = prefix_piece p
piece_of (redirected packet) = 4 ∷ ((length packet + 8) / 8) ∷ 0 ∷ 0 ∷ 0 ∷ 0 ∷ 0 ∷ 0 ∷ packet
piece_of (mtu n) = 5 ∷ 1 ∷ 0 ∷ 0 ∷ big_bytes 4 n
piece_of (rdnss lifetime servers) = rdnss_piece lifetime servers
piece_of (dnssl lifetime names) = dnssl_piece lifetime names
piece_of (other kind rest) = other_piece kind rest

-- the table of messages: type, code, this number as the checksum, fields (RFC 4861, sections 4.1 to 4.5; RFC 4191, section 2.2)
abbrev pub fields_of : ℕ → Body → List ℕ
fields_of sum bodies.Rs = 133 ∷ 0 ∷ big_bytes 2 sum ++ (0 ∷ 0 ∷ 0 ∷ 0 ∷ [])
fields_of sum (bodies.Ra r) =
    134 ∷ 0 ∷ big_bytes 2 sum ++ (r.hop_limit ∷ router_flags_of r.managed r.other r.preference ∷ []) ++ big_bytes 2 r.router_lifetime
    ++ big_bytes 4 r.reachable_time ++ big_bytes 4 r.retrans_timer
fields_of sum (bodies.Ns n) = 135 ∷ 0 ∷ big_bytes 2 sum ++ (0 ∷ 0 ∷ 0 ∷ 0 ∷ []) ++ n.target.0
fields_of sum (bodies.Na n) = 136 ∷ 0 ∷ big_bytes 2 sum ++ (three_flags_of n.router n.solicited n.override_flag ∷ 0 ∷ 0 ∷ 0 ∷ []) ++ n.target.0
fields_of sum (bodies.Redirect r) = 137 ∷ 0 ∷ big_bytes 2 sum ++ (0 ∷ 0 ∷ 0 ∷ 0 ∷ []) ++ r.target.0 ++ r.destination.0

-- the message with this number as its checksum
unfoldable pub spelling : ℕ → Parts → List ℕ
spelling sum m = fields_of sum m.body ++ flat_map piece_of m.options

-- how many bytes are written of the message, whatever its checksum
abbrev pub written_length : Parts → ℕ
written_length m = length (spelling 0 m)

-- the message with its checksum, from a source to a destination (RFC 4443, section 2.3)
abbrev pub written_message : Addr → Addr → Parts → List ℕ
written_message source destination m = spelling (sum_to_write source.0 destination.0 (spelling 0 m)) m
