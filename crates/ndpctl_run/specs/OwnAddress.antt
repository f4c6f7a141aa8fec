-- The words that stand for an address that a node is given by hand (RFC 4862, section 5.4; the texts are this project's own).
use Rattle.std.specs.Prelude.{◌≡◌, ℕ, ◌^◌, List, [], ◌∷◌, true}
use Rattle.nd_slaac.specs.ByHand.{AddressByHand, may_be_own}
use Rattle.ndpctl_run.specs.Address.{IsAddressWord}
use Rattle.ndpctl_run.specs.Number.{IsNumberOr}
use Rattle.ndpctl_run.specs.Words.{words_of}

-- each lifetime where the words leave it open, in seconds: 0xffffffff, one without an end (RFC 4861, section 4.6.2)
abbrev pub endless_lifetime : ℕ
endless_lifetime = 4294967295

-- each word spells its value
abbrev pub SpellOwnAddress : List (List ℕ) → AddressByHand → Type 0
SpellOwnAddress (address ∷ valid ∷ preferred ∷ []) own =
    IsAddressWord address own.address × IsNumberOr endless_lifetime (2 ^ 32) valid own.lifetimes.valid
    × IsNumberOr endless_lifetime (2 ^ 32) preferred own.lifetimes.preferred
SpellOwnAddress _ own = ⊥

-- the text spells the address and its lifetimes, word by word, and an interface may have it
pub record AreOwnAddressWords (text : List ℕ) (own : AddressByHand) : Type 0 where
  pub spelled : SpellOwnAddress (words_of text) own
  pub right : may_be_own own ≡ true
