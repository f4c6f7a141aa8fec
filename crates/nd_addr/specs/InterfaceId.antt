-- The interface identifier of an Ethernet address (RFC 4291, appendix A; RFC 2464, section 4).
use Rattle.std.specs.Prelude.{ℕ, List, [], ◌∷◌, ◌++◌, take, slice_index, bit_xor}

-- the 64 bits of a prefix, and the modified EUI-64 of an Ethernet address (RFC 4291, appendix A): ff fe in its middle, and
-- the universal bit of its first byte inverted
abbrev pub address_from_mac : List ℕ → List ℕ → List ℕ
address_from_mac prefix mac =
    take 8 prefix ++ bit_xor (slice_index mac 0) 2 ∷ slice_index mac 1 ∷ slice_index mac 2 ∷ 0xff ∷ 0xfe ∷ slice_index mac 3 ∷ slice_index mac 4 ∷ slice_index mac 5 ∷ []
