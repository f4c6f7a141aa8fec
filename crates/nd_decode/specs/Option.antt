-- The table of options (RFC 4861, section 4.6; RFC 8106, section 5): what one piece of a message says.
use Rattle.std.specs.Prelude.{◌≡◌, ℕ, ◌*◌, ◌%◌, ◌≤◌, Bool, ◌&&◌, nat_eq, nat_le, bit_and, List, length, drop, slice_index, slice_range, Option, Some, None, if◌then◌else◌, not}
use Rattle.std.specs.List.{list_all}
use Rattle.byteorder.specs.Endian.{big_number}
use Rattle.nd_addr.specs.Prefix.{prefix_at}
use Rattle.nd_addr.specs.declared.addr.Addr.{Addr}
use Rattle.nd_addr.specs.declared.mac.Mac.{Mac}
use Rattle.nd_search_list.specs.Names.{SpellsNames, spells_names, names_in}
use Rattle.nd_decode.specs.declared.prefix_info.PrefixInfo.{PrefixInfo}
use Rattle.nd_decode.specs.Servers.{SpellsServers, servers_in, is_server}

-- an option without where its bytes lie
pub data Said : Type 0 where
  slla : Mac → Said
  tlla : Mac → Said
  prefix : PrefixInfo → Said
  redirected : List ℕ → Said
  mtu : ℕ → Said
  rdnss : ℕ → List Addr → Said
  dnssl : ℕ → List (List ℕ) → Said
  other : ℕ → List ℕ → Said

-- a whole option: 8k bytes, k being the second byte and at least 1 (RFC 4861, section 4.6)
pub record IsPiece (bytes : List ℕ) : Type 0 where
  pub some : 1 ≤ slice_index bytes 1
  pub whole : length bytes ≡ 8 * slice_index bytes 1

-- some bit of the mask is set
abbrev pub is_set : ℕ → ℕ → Bool
is_set bits mask = not (nat_eq (bit_and bits mask) 0)

-- the address of a Source or Target Link-Layer Address at its place (RFC 4861, section 4.6.1)
abbrev pub mac_of : List ℕ → Mac
mac_of piece = record { 0 = slice_range piece 2 8 }

-- the fields of a Prefix Information at their places (RFC 4861, section 4.6.2); the bits past the prefix are free
abbrev pub prefix_of : List ℕ → PrefixInfo
prefix_of piece = record {
  prefix = prefix_at (slice_index piece 2) (slice_range piece 16 32);
  on_link = is_set (slice_index piece 3) 0x80;
  autonomous = is_set (slice_index piece 3) 0x40;
  valid_lifetime = big_number 4 (drop 4 piece);
  preferred_lifetime = big_number 4 (drop 8 piece);
}

-- the number of four bytes behind two that are reserved: an MTU (RFC 4861, section 4.6.4), or a lifetime (RFC 8106,
-- sections 5.1 and 5.2)
abbrev pub number_in : List ℕ → ℕ
number_in piece = big_number 4 (drop 4 piece)

-- the piece is of this type and length
pub record IsRow (piece : List ℕ) (kind len : ℕ) : Type 0 where
  pub kind_is : slice_index piece 0 ≡ kind
  pub len_is : slice_index piece 1 ≡ len

-- a Recursive DNS Server: type 25, of an odd length of at least 3 (RFC 8106, section 5.1)
pub record IsServersRow (piece : List ℕ) : Type 0 where
  pub kind_is : slice_index piece 0 ≡ 25
  pub odd : slice_index piece 1 % 2 ≡ 1
  pub least : 3 ≤ slice_index piece 1

-- a DNS Search List: type 31, of a length of at least 2 (RFC 8106, section 5.2)
pub record IsNamesRow (piece : List ℕ) : Type 0 where
  pub kind_is : slice_index piece 0 ≡ 31
  pub least : 2 ≤ slice_index piece 1

-- The table of options: type, length, and what the piece says (RFC 4861, sections 4.6.1 to 4.6.4; RFC 8106, section 5). What
-- is reserved is free.
abbrev pub SaysKnown : List ℕ → Said → Type 0
SaysKnown piece (slla mac) = IsRow piece 1 1 × (mac ≡ mac_of piece)
SaysKnown piece (tlla mac) = IsRow piece 2 1 × (mac ≡ mac_of piece)
SaysKnown piece (prefix p) = IsRow piece 3 4 × (slice_index piece 2 ≤ 128) × (p ≡ prefix_of piece)
SaysKnown piece (redirected packet) = (slice_index piece 0 ≡ 4) × (packet ≡ drop 8 piece)
SaysKnown piece (mtu n) = IsRow piece 5 1 × (n ≡ number_in piece)
SaysKnown piece (rdnss lifetime servers) = IsServersRow piece × (lifetime ≡ number_in piece) × SpellsServers (drop 8 piece) servers
SaysKnown piece (dnssl lifetime names) = IsNamesRow piece × (lifetime ≡ number_in piece) × SpellsNames (drop 8 piece) names
SaysKnown piece (other kind rest) = ⊥

-- what a piece says: a row of the table, or, where no row says anything of it, its type and the bytes behind its length
abbrev pub Says : List ℕ → Said → Type 0
Says piece (other kind rest) = ((option : Said) → SaysKnown piece option → ⊥) × (kind ≡ slice_index piece 0) × (rest ≡ drop 2 piece)
Says piece option = SaysKnown piece option

-- an option, if it passes its test
abbrev pub given : Bool → Said → Option Said
given test option = if test then Some option else None

-- the row of the table that the type names, as a function
unfoldable pub known_of : List ℕ → Option Said
known_of piece =
    if nat_eq (slice_index piece 0) 1 then given (nat_eq (slice_index piece 1) 1) (slla (mac_of piece)) else
    if nat_eq (slice_index piece 0) 2 then given (nat_eq (slice_index piece 1) 1) (tlla (mac_of piece)) else
    if nat_eq (slice_index piece 0) 3 then given (nat_eq (slice_index piece 1) 4 && nat_le (slice_index piece 2) 128) (prefix (prefix_of piece)) else
    if nat_eq (slice_index piece 0) 4 then Some (redirected (drop 8 piece)) else
    if nat_eq (slice_index piece 0) 5 then given (nat_eq (slice_index piece 1) 1) (mtu (number_in piece)) else
    if nat_eq (slice_index piece 0) 25 then given (nat_eq (slice_index piece 1 % 2) 1 && nat_le 3 (slice_index piece 1) && list_all is_server (servers_in (drop 8 piece))) (rdnss (number_in piece) (servers_in (drop 8 piece))) else
    if nat_eq (slice_index piece 0) 31 then given (nat_le 2 (slice_index piece 1) && spells_names (drop 8 piece)) (dnssl (number_in piece) (names_in (drop 8 piece))) else
    None

-- what a piece says, as a function
unfoldable pub option_of : List ℕ → Said
option_of piece = or_other (known_of piece)
  where
    or_other : Option Said → Said
    or_other (Some option) = option
    or_other None = other (slice_index piece 0) (drop 2 piece)
