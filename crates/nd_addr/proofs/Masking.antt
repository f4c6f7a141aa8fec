-- The first bits of some bytes, byte by byte.
use Rattle.std.proofs.Common.{◌≡◌, ℕ, zero, suc, ◌*◌, ◌-◌, ◌/◌, ◌^◌, ◌≤◌, List, [], ◌∷◌, length, min, refl, sym, ap, ◌∙◌, arith}
use Rattle.std.proofs.lemmas.Nat.{shl-shr, shr_split}
use Rattle.nd_addr.specs.Bytes.{IsBytes}
use Rattle.nd_addr.specs.Prefix.{kept_bits, masked, IsPrefix}

pub length-masked : (bits : ℕ) (bytes : List ℕ) → length (masked bits bytes) ≡ length bytes
length-masked bits [] = refl
length-masked bits (b ∷ bytes) = omega (arith, length-masked (bits - 8) bytes)

-- what is kept is kept
kept_bits-again : (bits byte : ℕ) → kept_bits bits (kept_bits bits byte) ≡ kept_bits bits byte
kept_bits-again bits byte = ap (λ (n : ℕ). n * 2 ^ (8 - bits)) (shl-shr (byte / 2 ^ (8 - bits)) (8 - bits))

kept_bits_le : (bits byte : ℕ) → kept_bits bits byte ≤ byte
kept_bits_le bits byte = omega (arith, shr_split byte (8 - bits))

pub IsBytes-masked : (bits : ℕ) (bytes : List ℕ) → IsBytes bytes → IsBytes (masked bits bytes)
IsBytes-masked bits [] small i = small i
IsBytes-masked bits (b ∷ bytes) small zero = omega (arith, kept_bits_le (min bits 8) b, small 0)
IsBytes-masked bits (b ∷ bytes) small (suc i) = IsBytes-masked (bits - 8) bytes (λ k. small (suc k)) i

masked-again : (bits : ℕ) (bytes : List ℕ) → masked bits (masked bits bytes) ≡ masked bits bytes
masked-again bits [] = refl
masked-again bits (b ∷ bytes) = rw (kept_bits-again (min bits 8) b, masked-again (bits - 8) bytes) refl

-- masked bytes make a prefix
pub masked_is_prefix : (bits : ℕ) (address kept : List ℕ) → bits ≤ 128 → length address ≡ 16 → kept ≡ masked bits address → IsBytes kept → IsPrefix kept bits
masked_is_prefix bits address kept short len e small = record {
  short = short;
  address_is = record { len_is = ap length e ∙ length-masked bits address ∙ len; each = small };
  zeros = ap (masked bits) e ∙ masked-again bits address ∙ sym e;
}
