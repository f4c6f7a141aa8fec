-- An address as a number and the address of a number, and the bits that two addresses have in common (RFC 4291, sections 2 and 2.3).
use Rattle.std.specs.Prelude.{◌≡◌, ℕ, ◌+◌, ◌-◌, ◌*◌, ◌/◌, ◌^◌, Bool, nat_eq, List, [], ◌∷◌, length}
use Rattle.byteorder.specs.Endian.{big_bytes}
use Rattle.nd_addr.specs.declared.addr.Addr.{Addr}
use Rattle.nd_addr.specs.declared.mac.Mac.{Mac}
use Rattle.nd_addr.specs.Prefix.{PrefixValue}

-- the number that bytes are, the first being the highest: of an address one below 2^128
abbrev pub number_of : List ℕ → ℕ
number_of [] = 0
number_of (byte ∷ bytes) = byte * 2 ^ (8 * length bytes) + number_of bytes

-- the address of a number below 2^128
abbrev pub addr_at : ℕ → Addr
addr_at number = record { 0 = big_bytes 16 number }

-- the Ethernet address of a number below 2^48
abbrev pub mac_at : ℕ → Mac
mac_at number = record { 0 = big_bytes 6 number }

-- two addresses are alike in their first bits: their numbers divided by 2^(128 - bits) are equal
abbrev pub AreAlike : ℕ → List ℕ → List ℕ → Type 0
AreAlike bits a b = number_of a / 2 ^ (128 - bits) ≡ number_of b / 2 ^ (128 - bits)

-- the prefix holds the address
abbrev pub Holds : PrefixValue → List ℕ → Type 0
Holds prefix address = AreAlike prefix.length address prefix.address.0

-- the same as a test
abbrev pub holds : PrefixValue → List ℕ → Bool
holds prefix address = nat_eq (number_of address / 2 ^ (128 - prefix.length)) (number_of prefix.address.0 / 2 ^ (128 - prefix.length))
