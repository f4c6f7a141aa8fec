-- An address is determined by its word.
use Rattle.std.proofs.Common.{◌≡◌, ℕ, List, ap}
use Rattle.nd_text.specs.Spelling.{SpellsAddress}
use Rattle.nd_text.proofs.AddressTexts.{address_read}
use Rattle.nd_addr.specs.declared.addr.Addr.{Addr}
use Rattle.nd_addr.specs.Bytes.{AreBytes}
use Rattle.nd_addr.specs.Text.{groups_of}
use Rattle.nd_addr.proofs.PrefixTexts.{groups_injective}
use Rattle.ndpctl_run.specs.Address.{IsAddressWord}

pub by_groups : (a b : Addr) → AreBytes 16 a.0 → AreBytes 16 b.0 → groups_of a.0 ≡ groups_of b.0 → a ≡ b
by_groups a b of_a of_b same = ap (λ (bytes : List ℕ). let address : Addr = record { 0 = bytes } in address) (groups_injective a.0 b.0 of_a of_b same)

pub same_groups : (word a b : List ℕ) → SpellsAddress word a → SpellsAddress word b → a ≡ b
same_groups word a b p q = let first = address_read word a p in let second = address_read word b q in cc

pub one_address : (word : List ℕ) (a b : Addr) → IsAddressWord word a → IsAddressWord word b → a ≡ b
one_address word a b p q = by_groups a b p.bytes q.bytes (same_groups word (groups_of a.0) (groups_of b.0) p.spelled q.spelled)
