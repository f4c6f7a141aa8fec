-- Prefixes: the first bits of an address (RFC 4291, section 2.3).
use Rattle.std.specs.Prelude.{◌≡◌, ℕ, ◌*◌, ◌-◌, ◌/◌, ◌^◌, ◌≤◌, List, [], ◌∷◌, min}
use Rattle.nd_addr.specs.Bytes.{AreBytes}
use Rattle.nd_addr.specs.declared.addr.Addr.{Addr}

-- an address and how many of its bits count
pub record PrefixValue : Type 0 where
  pub address : Addr
  pub length : ℕ

-- the first bits of a byte, zeros in place of the others
abbrev pub kept_bits : ℕ → ℕ → ℕ
kept_bits bits byte = byte / 2 ^ (8 - bits) * 2 ^ (8 - bits)

-- the first bits of some bytes, zeros in place of the others
abbrev pub masked : ℕ → List ℕ → List ℕ
masked bits [] = []
masked bits (byte ∷ bytes) = kept_bits (min bits 8) byte ∷ masked (bits - 8) bytes

-- a length of at most 128 bits, and bytes with only zeros past it
pub record IsPrefix (address : List ℕ) (bits : ℕ) : Type 0 where
  pub short : bits ≤ 128
  pub address_is : AreBytes 16 address
  pub zeros : masked bits address ≡ address

-- the prefix of so many bits of an address
abbrev pub prefix_at : ℕ → List ℕ → PrefixValue
prefix_at bits address = record { address = record { 0 = masked bits address }; length = bits }
