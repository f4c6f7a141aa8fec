-- The ICMPv6 checksum (RFC 4443, section 2.3; RFC 8200, section 8.1) with no carries: a plain sum of numbers, and
-- its rest by 65535.
use Rattle.std.specs.Prelude.{◌≡◌, ℕ, ◌+◌, ◌-◌, ◌*◌, ◌%◌, ◌<◌, List, [], ◌∷◌, ◌++◌, length, take, drop, nat_lt, if◌then◌else◌}
use Rattle.byteorder.specs.Endian.{big_bytes}
use Rattle.nd_addr.specs.Ip6.{next_header_icmpv6}

-- the plain sum of the 16-bit words of some bytes, an odd end padded by a zero byte
abbrev pub word_sum : List ℕ → ℕ
word_sum [] = 0
word_sum (a ∷ []) = 256 * a
word_sum (a ∷ b ∷ bytes) = 256 * a + b + word_sum bytes

-- what precedes a message for its sum: both addresses, its length, and the next header of ICMPv6
abbrev pub pseudo_header : List ℕ → List ℕ → ℕ → List ℕ
pseudo_header source destination len = source ++ destination ++ big_bytes 4 len ++ 0 ∷ 0 ∷ 0 ∷ next_header_icmpv6 ∷ []

-- the plain sum of all words of the pseudo-header and the message
unfoldable pub total : List ℕ → List ℕ → List ℕ → ℕ
total source destination message = word_sum (pseudo_header source destination (length message) ++ message)

-- The same rest by 65535. A carry that is brought back in keeps it, and so does one that is left in the sum.
abbrev pub HasRestOf : ℕ → ℕ → Type 0
HasRestOf sum plain = sum % 65535 ≡ plain % 65535

-- a good checksum: the total is positive and a multiple of 65535
abbrev pub IsGoodSum : List ℕ → List ℕ → List ℕ → Type 0
IsGoodSum source destination message =
    (0 < total source destination message) × (total source destination message % 65535 ≡ 0)

-- a message with these two bytes in its checksum field, if it has one
unfoldable pub with_sum : List ℕ → List ℕ → List ℕ
with_sum field message = if nat_lt (length message) 4 then message else take 2 message ++ field ++ drop 4 message

-- the checksum to be written: what the total lacks to a multiple of 65535
abbrev pub sum_to_write : List ℕ → List ℕ → List ℕ → ℕ
sum_to_write source destination message =
    (65535 - total source destination (with_sum (0 ∷ 0 ∷ []) message) % 65535) % 65535
