-- The texts of an address (RFC 5952), of an Ethernet address and of a prefix.
use Rattle.std.specs.Prelude.{ℕ, List, [], ◌∷◌, ◌++◌, drop}
use Rattle.std.specs.Fmt.{decimal}
use Rattle.byteorder.specs.Endian.{big_number}
use Rattle.nd_text.specs.Digits.{byte_text}
use Rattle.nd_text.specs.Text.{groups_text}
use Rattle.nd_addr.specs.Prefix.{PrefixValue}

-- the group of 16 bits at a byte
abbrev pub group_at : List ℕ → ℕ → ℕ
group_at bytes i = big_number 2 (drop i bytes)

-- the eight groups of an address (RFC 4291, section 2.2)
abbrev pub groups_of : List ℕ → List ℕ
groups_of bytes =
    group_at bytes 0 ∷ group_at bytes 2 ∷ group_at bytes 4 ∷ group_at bytes 6 ∷ group_at bytes 8 ∷ group_at bytes 10 ∷ group_at bytes 12 ∷ group_at bytes 14 ∷ []

-- the text of an address: that of its groups
unfoldable pub address_text : List ℕ → List ℕ
address_text bytes = groups_text (groups_of bytes)

-- the text of an Ethernet address: its bytes as two digits each, parted by colons
abbrev pub mac_text : List ℕ → List ℕ
mac_text [] = []
mac_text (b ∷ []) = byte_text b
mac_text (b ∷ c ∷ bytes) = byte_text b ++ (58 ∷ mac_text (c ∷ bytes))

-- the text of a prefix: its address, a slash and its length (RFC 4291, section 2.3)
abbrev pub prefix_text : PrefixValue → List ℕ
prefix_text p = address_text p.address.0 ++ (47 ∷ decimal p.length)
