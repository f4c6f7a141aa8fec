-- The words that stand for a prefix that a router is to advertise (RFC 4861, section 6.2.1; the texts are this project's own).
use Rattle.std.specs.Prelude.{◌≡◌, ℕ, ◌^◌, List, [], ◌∷◌, None, codes}
use Rattle.nd_text.specs.Flags.{flags_text}
use Rattle.nd_addr.specs.Spelling.{SpellsPrefix}
use Rattle.nd_decode.specs.declared.prefix_info.PrefixInfo.{PrefixInfo}
use Rattle.nd_advertiser.specs.Offer.{offer_fault}
use Rattle.ndpctl_run.specs.Number.{IsNumberOr}
use Rattle.ndpctl_run.specs.Words.{words_of}

-- AdvValidLifetime where the words leave it open, in seconds: 30 days
abbrev pub default_valid_lifetime : ℕ
default_valid_lifetime = 2592000

-- AdvPreferredLifetime where they do, in seconds: 7 days
abbrev pub default_preferred_lifetime : ℕ
default_preferred_lifetime = 604800

-- each word spells its value
abbrev pub SpellOffer : List (List ℕ) → PrefixInfo → Type 0
SpellOffer (prefix ∷ valid ∷ preferred ∷ flags ∷ []) info =
    SpellsPrefix prefix info.prefix × IsNumberOr default_valid_lifetime (2 ^ 32) valid info.valid_lifetime
    × IsNumberOr default_preferred_lifetime (2 ^ 32) preferred info.preferred_lifetime
    × (flags ≡ flags_text info.on_link info.autonomous (codes "l") (codes "a"))
SpellOffer _ info = ⊥

-- the text spells the offer, word by word, and it breaks no rule
pub record IsOffer (text : List ℕ) (info : PrefixInfo) : Type 0 where
  pub spelled : SpellOffer (words_of text) info
  pub right : offer_fault info ≡ None
