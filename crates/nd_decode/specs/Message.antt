-- Which bytes spell which message, and why the others do not (RFC 4861, section 4).
use Rattle.std.specs.Prelude.{◌≡◌, ◌≢◌, ℕ, ◌<◌, ◌≤◌, nat_eq, List, length, drop, slice_index, slice_range, if◌then◌else◌}
use Rattle.byteorder.specs.Endian.{big_number}
use Rattle.nd_addr.specs.declared.preference.Preference.{Preference}
use Rattle.nd_addr.specs.declared.preference.Preference.TheVariants.{High, Medium, Low}
use Rattle.nd_addr.specs.declared.why.Why.{Why}
use Rattle.nd_addr.specs.declared.why.Why.TheVariants.{Code, Length, OptionZero, OptionOver}
use Rattle.nd_decode.specs.declared.router_advertisement.RouterAdvertisement.{RouterAdvertisement}
use Rattle.nd_decode.specs.declared.neighbor_solicitation.NeighborSolicitation.{NeighborSolicitation}
use Rattle.nd_decode.specs.declared.neighbor_advertisement.NeighborAdvertisement.{NeighborAdvertisement}
use Rattle.nd_decode.specs.declared.redirect.Redirect.{Redirect}
use Rattle.nd_decode.specs.declared.body.Body.{Body}
use Rattle.nd_decode.specs.declared.body.Body.TheVariants as bodies
use Rattle.nd_decode.specs.declared.message_ref.MessageRef.{MessageRef}
use Rattle.nd_decode.specs.Option.{Said, is_set}
use Rattle.nd_decode.specs.Pieces.{options_left}
use Rattle.nd_decode.specs.Options.{SpellsOptions, BehindPieces, IsZeroOption, IsOverOption}

-- a message without where its options lie
pub record Parts : Type 0 where
  pub body : Body
  pub options : List Said

-- the same of a borrowed message
abbrev pub parts : MessageRef → Parts
parts m = record { body = m.body; options = options_left m.options }

-- The preference in a byte of flags, by two bits of it: 01 is High, 11 is Low, 00 is Medium (RFC 4191, section 2.1), and so is 10: "If the
-- Reserved (10) value is received, the receiver MUST treat the value as if it were (00)" (section 2.2).
abbrev pub preference_of : ℕ → Preference
preference_of flags = if is_set flags 0x08 then (if is_set flags 0x10 then Low else High) else Medium

-- the fields of a Router Advertisement at their places (RFC 4861, section 4.2; RFC 4191, section 2.2)
abbrev pub router_advertisement_of : List ℕ → RouterAdvertisement
router_advertisement_of bytes = record {
  hop_limit = slice_index bytes 4;
  managed = is_set (slice_index bytes 5) 0x80;
  other = is_set (slice_index bytes 5) 0x40;
  preference = preference_of (slice_index bytes 5);
  router_lifetime = big_number 2 (drop 6 bytes);
  reachable_time = big_number 4 (drop 8 bytes);
  retrans_timer = big_number 4 (drop 12 bytes);
}

-- the field of a Neighbor Solicitation at its place (RFC 4861, section 4.3)
abbrev pub neighbor_solicitation_of : List ℕ → NeighborSolicitation
neighbor_solicitation_of bytes = record { target = record { 0 = slice_range bytes 8 24 } }

-- the fields of a Neighbor Advertisement at their places (RFC 4861, section 4.4)
abbrev pub neighbor_advertisement_of : List ℕ → NeighborAdvertisement
neighbor_advertisement_of bytes = record {
  router = is_set (slice_index bytes 4) 0x80;
  solicited = is_set (slice_index bytes 4) 0x40;
  override_flag = is_set (slice_index bytes 4) 0x20;
  target = record { 0 = slice_range bytes 8 24 };
}

-- the fields of a Redirect at their places (RFC 4861, section 4.5)
abbrev pub redirect_of : List ℕ → Redirect
redirect_of bytes = record { target = record { 0 = slice_range bytes 8 24 }; destination = record { 0 = slice_range bytes 24 40 } }

-- the table of messages: the types, 133 to 137 (RFC 4861, sections 4.1 to 4.5)
pub record HasKnownKind (bytes : List ℕ) : Type 0 where
  pub some : 1 ≤ length bytes
  pub least : 133 ≤ slice_index bytes 0
  pub most : slice_index bytes 0 ≤ 137

-- the table of messages: the least length of each type, which is where its options begin
abbrev pub least_length : ℕ → ℕ
least_length kind =
    if nat_eq kind 133 then 8 else
    if nat_eq kind 134 then 16 else
    if nat_eq kind 137 then 40 else
    24

-- the table of messages: the type and the fields of each; more bytes may follow
abbrev pub HasBody : List ℕ → Body → Type 0
HasBody bytes bodies.Rs = slice_index bytes 0 ≡ 133
HasBody bytes (bodies.Ra r) = (slice_index bytes 0 ≡ 134) × (r ≡ router_advertisement_of bytes)
HasBody bytes (bodies.Ns n) = (slice_index bytes 0 ≡ 135) × (n ≡ neighbor_solicitation_of bytes)
HasBody bytes (bodies.Na n) = (slice_index bytes 0 ≡ 136) × (n ≡ neighbor_advertisement_of bytes)
HasBody bytes (bodies.Redirect r) = (slice_index bytes 0 ≡ 137) × (r ≡ redirect_of bytes)

-- the code is 0, and the bytes are long enough for the fields of their type
pub record HasFields (bytes : List ℕ) : Type 0 where
  pub code : slice_index bytes 1 ≡ 0
  pub long : least_length (slice_index bytes 0) ≤ length bytes

-- the bytes of the options
abbrev pub behind_fields : List ℕ → List ℕ
behind_fields bytes = drop (least_length (slice_index bytes 0)) bytes

-- The bytes spell the message. The checksum and all that is reserved are free.
pub record Spells (bytes : List ℕ) (message : Parts) : Type 0 where
  pub fields : HasFields bytes
  pub body : HasBody bytes message.body
  pub options : SpellsOptions (behind_fields bytes) message.options

-- The first reason that the bytes spell no message: a second byte that is there and is not 0, then the length, and then
-- the first option that is not whole. Where there is no second byte, the index gives 0.
abbrev pub IsRefused : List ℕ → Why → Type 0
IsRefused bytes Code = (2 ≤ length bytes) × (slice_index bytes 1 ≢ 0)
IsRefused bytes Length = (slice_index bytes 1 ≡ 0) × (length bytes < least_length (slice_index bytes 0))
IsRefused bytes OptionZero = HasFields bytes × BehindPieces (behind_fields bytes) IsZeroOption
IsRefused bytes OptionOver = HasFields bytes × BehindPieces (behind_fields bytes) IsOverOption
IsRefused bytes _ = ⊥
