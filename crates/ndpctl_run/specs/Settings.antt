-- The words that stand for what a router is to advertise of itself and of its link (RFC 4861, section 6.2.1; RFC 4191, section 2.2; the texts
-- are this project's own).
use Rattle.std.specs.Prelude.{◌≡◌, ℕ, ◌*◌, ◌^◌, List, [], ◌∷◌, None}
use Rattle.nd_decode.specs.RouterFlags.{router_flags_text}
use Rattle.nd_advertiser.specs.Config.{Settings, config_fault}
use Rattle.ndpctl_run.specs.Number.{IsNumberWord, IsNumberOr}
use Rattle.ndpctl_run.specs.Words.{words_of}

-- MaxRtrAdvInterval where the words leave it open, in seconds
abbrev pub default_max_interval : ℕ
default_max_interval = 600

-- AdvDefaultLifetime where they do, in seconds: three times MaxRtrAdvInterval
abbrev pub default_lifetime : ℕ → ℕ
default_lifetime max = 3 * max

-- each word spells its value
abbrev pub SpellSettings : List (List ℕ) → Settings → Type 0
SpellSettings (min ∷ max ∷ lifetime ∷ hop_limit ∷ flags ∷ reachable ∷ retrans ∷ mtu ∷ []) s =
    IsNumberWord (2 ^ 16) min s.min_interval × IsNumberOr default_max_interval (2 ^ 16) max s.max_interval
    × IsNumberOr (default_lifetime s.max_interval) (2 ^ 16) lifetime s.fields.router_lifetime × IsNumberWord (2 ^ 8) hop_limit s.fields.hop_limit
    × (flags ≡ router_flags_text s.fields.managed s.fields.other s.fields.preference)
    × IsNumberWord (2 ^ 32) reachable s.fields.reachable_time × IsNumberWord (2 ^ 32) retrans s.fields.retrans_timer × IsNumberWord (2 ^ 32) mtu s.mtu
SpellSettings _ s = ⊥

-- the text spells the settings, word by word, and they break no rule
pub record AreSettings (text : List ℕ) (settings : Settings) : Type 0 where
  pub spelled : SpellSettings (words_of text) settings
  pub right : config_fault settings ≡ None
