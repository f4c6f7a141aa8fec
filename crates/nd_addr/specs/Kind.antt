-- Kinds of address, and the addresses that are made of others (RFC 4291).
use Rattle.std.specs.Prelude.{ℕ, List, [], ◌∷◌, ◌++◌, slice_index, replicate}
use Rattle.nd_addr.specs.Prefix.{PrefixValue}

-- ff00::/8 (RFC 4291, section 2.7)
abbrev pub multicast_prefix : PrefixValue
multicast_prefix = record { address = record { 0 = 0xff ∷ replicate 15 0 }; length = 8 }

-- fe80:: (RFC 4291, section 2.5.6)
abbrev pub link_local_address : List ℕ
link_local_address = 0xfe ∷ 0x80 ∷ replicate 14 0

-- fe80::/10, which all link-local addresses are in (RFC 4291, section 2.5.6)
abbrev pub link_local_prefix : PrefixValue
link_local_prefix = record { address = record { 0 = link_local_address }; length = 10 }

-- fe80::/64, the subnet that they have on each link (RFC 4291, section 2.5.6: 54 zero bits)
abbrev pub link_local_subnet : PrefixValue
link_local_subnet = record { address = record { 0 = link_local_address }; length = 64 }

-- :: (RFC 4291, section 2.5.2)
abbrev pub unspecified_address : List ℕ
unspecified_address = replicate 16 0

-- ::1 (RFC 4291, section 2.5.3)
abbrev pub loopback_address : List ℕ
loopback_address = replicate 15 0 ++ 1 ∷ []

-- ff02::1, all nodes of the link (RFC 4291, section 2.7.1)
abbrev pub all_nodes_address : List ℕ
all_nodes_address = 0xff ∷ 2 ∷ replicate 13 0 ++ 1 ∷ []

-- ff02::2, all routers of the link (RFC 4291, section 2.7.1)
abbrev pub all_routers_address : List ℕ
all_routers_address = 0xff ∷ 2 ∷ replicate 13 0 ++ 2 ∷ []

-- ff02::1:ff00:0/104, and the low 24 bits of the address (RFC 4291, section 2.7.1)
abbrev pub solicited_node_of : List ℕ → List ℕ
solicited_node_of address =
    0xff ∷ 2 ∷ 0 ∷ 0 ∷ 0 ∷ 0 ∷ 0 ∷ 0 ∷ 0 ∷ 0 ∷ 0 ∷ 1 ∷ 0xff ∷ slice_index address 13 ∷ slice_index address 14 ∷ slice_index address 15 ∷ []

-- 33:33, and the last four bytes of a multicast address (RFC 2464, section 7)
abbrev pub multicast_mac_of : List ℕ → List ℕ
multicast_mac_of address = 0x33 ∷ 0x33 ∷ slice_index address 12 ∷ slice_index address 13 ∷ slice_index address 14 ∷ slice_index address 15 ∷ []
