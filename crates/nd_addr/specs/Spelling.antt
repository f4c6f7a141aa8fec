-- The texts that spell an Ethernet address, and a prefix (RFC 4291, section 2.3).
use Rattle.std.specs.Prelude.{◌≡◌, ℕ, ◌+◌, ◌*◌, ◌<◌, ◌≤◌, List, ◌∷◌, ◌++◌, length, slice_index}
use Rattle.std.specs.Char.{digit_value}
use Rattle.std.specs.Fmt.{decimal}
use Rattle.nd_text.specs.Spelling.{SpellsAddress}
use Rattle.nd_addr.specs.Bytes.{AreBytes}
use Rattle.nd_addr.specs.Prefix.{PrefixValue, prefix_at}
use Rattle.nd_addr.specs.Text.{groups_of}

-- two hexadecimal digits in either case at a place, and their value
pub record IsPairAt (text : List ℕ) (place byte : ℕ) : Type 0 where
  pub high : digit_value (slice_index text place) < 16
  pub low : digit_value (slice_index text (place + 1)) < 16
  pub value : byte ≡ 16 * digit_value (slice_index text place) + digit_value (slice_index text (place + 1))

-- the text spells the six bytes of an Ethernet address: pairs of digits, parted by colons
pub record SpellsMac (text bytes : List ℕ) : Type 0 where
  pub len : length text ≡ 17
  pub six : length bytes ≡ 6
  pub pairs : (i : ℕ) → i < 6 → IsPairAt text (3 * i) (slice_index bytes i)
  pub colons : (i : ℕ) → i < 5 → slice_index text (3 * i + 2) ≡ 58

-- the text spells the prefix: an address, a slash, and a length in decimal digits with no leading zero; bits past the length are
-- made zero
pub record SpellsPrefix (text : List ℕ) (prefix : PrefixValue) : Type 0 where
  pub address_text : List ℕ
  pub address : List ℕ
  pub text_is : text ≡ address_text ++ 47 ∷ decimal prefix.length
  pub spelled : SpellsAddress address_text (groups_of address)
  pub bytes : AreBytes 16 address
  pub short : prefix.length ≤ 128
  pub prefix_is : prefix ≡ prefix_at prefix.length address
