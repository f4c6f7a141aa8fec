-- What each call makes of what an interface is advertising.
use Rattle.std.specs.Prelude.{ℕ, ◌+◌, min, Bool, false, ◌&&◌, not, ◌==◌, is_some, is_none, List, [], ◌∷◌, map, Option, Some, None, if◌then◌else◌}
use Rattle.nd_addr.specs.Prefix.{PrefixValue}
use Rattle.nd_addr.specs.Same.{same_prefix}
use Rattle.nd_decode.specs.declared.prefix_info.PrefixInfo.{PrefixInfo}
use Rattle.nd_advertiser.specs.Config.{Settings}
use Rattle.nd_advertiser.specs.Advertising.{answer_date, first_date, interval_after, max_initial_rtr_advertisements, next_date}
use Rattle.nd_advertiser.specs.Table.{Advertising}

-- it is to advertise
abbrev pub begun : ℕ → Settings → Option Advertising → Option Advertising
begun at settings None = Some (record { began = Some at; settings = Some settings; sent = 0; planned = None; answer = None })
begun at settings (Some a) = Some (record { began = a.began; settings = Some settings; sent = a.sent; planned = a.planned; answer = a.answer })

-- a solicitation is planned for
abbrev pub planned_for : Option ℕ → ℕ → ℕ → Option Advertising → Option Advertising
planned_for last at delay None = None
planned_for last at delay (Some a) =
    Some (record { began = a.began; settings = a.settings; sent = a.sent; planned = a.planned; answer = if is_some a.answer then a.answer else Some (answer_date last at delay) })

-- an advertisement is sent
abbrev pub advertised : ℕ → ℕ → Option Advertising → Option Advertising
advertised at interval None = None
advertised at interval (Some a) =
    Some (record { began = a.began; settings = a.settings; sent = min max_initial_rtr_advertisements (a.sent + 1); planned = Some (at + interval_after a.sent interval); answer = None })

abbrev pub has_sent : Option Advertising → Bool
has_sent None = false
has_sent (Some a) = not (a.sent == 0)

-- the settings
abbrev pub settings_in : Option Advertising → Option Settings
settings_in None = None
settings_in (Some a) = a.settings

-- a solicitation has to be planned for
abbrev pub wants_draw : Option Advertising → Bool
wants_draw None = false
wants_draw (Some a) = not (a.sent == 0) && is_none a.answer

-- the date of the next advertisement
abbrev pub next : Option ℕ → Option ℕ → Option Advertising → Option ℕ
next assigned last None = None
next assigned last (Some a) = next_date (first_date a.began assigned last) a.planned a.answer

-- the prefixes of the offers
abbrev pub prefixes_in : List PrefixInfo → List PrefixValue
prefixes_in offers = map (λ info. info.prefix) offers

-- a prefix is offered
abbrev pub with_offer : PrefixInfo → List PrefixInfo → List PrefixInfo
with_offer info [] = info ∷ []
with_offer info (o ∷ os) = if same_prefix info.prefix o.prefix then info ∷ os else o ∷ with_offer info os
