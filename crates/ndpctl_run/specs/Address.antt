-- The words that stand for addresses.
use Rattle.std.specs.Prelude.{ℕ, List}
use Rattle.nd_text.specs.Spelling.{SpellsAddress}
use Rattle.nd_addr.specs.declared.addr.Addr.{Addr}
use Rattle.nd_addr.specs.Bytes.{AreBytes}
use Rattle.nd_addr.specs.Text.{groups_of}

-- the word spells the address, by its eight groups (RFC 4291, section 2.2)
pub record IsAddressWord (word : List ℕ) (address : Addr) : Type 0 where
  pub spelled : SpellsAddress word (groups_of address.0)
  pub bytes : AreBytes 16 address.0
