-- What an advertisement says (RFC 4861, section 6.2.3), and the last one (section 6.2.5).
use Rattle.std.specs.Prelude.{ℕ, ◌+◌, ◌*◌, ◌==◌, if◌then◌else◌, List, [], ◌∷◌, ◌++◌, map, Option, option_map}
use Rattle.nd_addr.specs.declared.mac.Mac.{Mac}
use Rattle.nd_addr.specs.declared.preference.Preference.TheVariants.{Medium}
use Rattle.nd_decode.specs.declared.router_advertisement.RouterAdvertisement.{RouterAdvertisement}
use Rattle.nd_decode.specs.declared.body.Body.TheVariants.{Ra}
use Rattle.nd_decode.specs.declared.prefix_info.PrefixInfo.{PrefixInfo}
use Rattle.nd_decode.specs.Option.{Said, slla, prefix, mtu}
use Rattle.nd_decode.specs.Message.{Parts}
use Rattle.nd_advertiser.specs.Config.{Settings}
use Rattle.nd_advertiser.specs.History.{Row}
use Rattle.nd_advertiser.specs.Advertising.{advertised_by}
use Rattle.nd_advertiser.specs.Offers.{offers_of}

-- an MTU option where AdvLinkMTU isn't 0 (RFC 4861, section 6.2.3)
abbrev pub mtu_options : ℕ → List Said
mtu_options n = if n == 0 then [] else mtu n ∷ []

-- "Source Link-Layer Address option: link-layer address of the sending interface", the MTU option, and "Prefix Information options: one
-- Prefix Information option for each prefix listed in AdvPrefixList", which come in their order
abbrev pub options_of : Mac → ℕ → List PrefixInfo → List Said
options_of mac n offers = slla mac ∷ mtu_options n ++ map prefix offers

-- the message with the fields of the settings, and these options
abbrev pub contents : Mac → List PrefixInfo → Settings → Parts
contents mac offers s = record { body = Ra s.fields; options = options_of mac s.mtu offers }

-- "set the Router Lifetime field to zero": it is no longer a default router, and so "the preference value MUST be set to (00)" (RFC 4191,
-- section 2.2)
abbrev pub without_lifetime : RouterAdvertisement → RouterAdvertisement
without_lifetime fields = record fields { router_lifetime = 0; preference = Medium }

-- the last one
abbrev pub last_contents : Mac → List PrefixInfo → Settings → Parts
last_contents mac offers s = record { body = Ra (without_lifetime s.fields); options = options_of mac s.mtu offers }

-- what an advertisement says, and the last one, by what happened
abbrev pub contents_of : Mac → List Row → Option Parts
contents_of mac history = option_map (contents mac (offers_of history)) (advertised_by history)

abbrev pub last_contents_of : Mac → List Row → Option Parts
last_contents_of mac history = option_map (last_contents mac (offers_of history)) (advertised_by history)

-- the bytes of the options at most: the first two, and so many prefixes
abbrev pub options_length : ℕ → ℕ
options_length offers = 8 + 8 + 32 * offers

-- the bytes of a message at most, with so many prefixes: the fields, and the options
abbrev pub contents_length : ℕ → ℕ
contents_length offers = 16 + options_length offers
