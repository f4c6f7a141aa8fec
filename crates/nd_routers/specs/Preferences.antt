-- How the routers of a list are preferred (RFC 4191, section 2.2).
use Rattle.std.specs.Prelude.{ℕ, Bool, not, ◌==◌, if◌then◌else◌, List, [], ◌∷◌, ◌++◌, map, filter}
use Rattle.nd_addr.specs.declared.preference.Preference.{Preference}
use Rattle.nd_addr.specs.declared.preference.Preference.TheVariants.{Medium}
use Rattle.nd_table.specs.declared.lasting.Lasting.{Lasting}
use Rattle.nd_routers.specs.declared.preferred.Preferred.{Preferred}
use Rattle.nd_routers.specs.History.{RouterRow, preference_of}

-- the routers of the list with their preferences, by what happened
abbrev pub preferences_of : List RouterRow → List (Lasting ℕ) → List Preferred
preferences_of history es = map (λ e. record { router = e.key; preference = preference_of e.key history }) es

-- how a router among these is preferred, or Medium
abbrev pub preference_among : ℕ → List Preferred → Preference
preference_among key [] = Medium
preference_among key (p ∷ ps) = if p.router == key then p.preference else preference_among key ps

-- those without this router
abbrev pub without_preference : ℕ → List Preferred → List Preferred
without_preference key ps = filter (λ p. not (p.router == key)) ps

-- with this preference, where it is the router
abbrev pub preferred_anew : ℕ → Preference → Preferred → Preferred
preferred_anew key preference p = record { router = p.router; preference = if p.router == key then preference else p.preference }

-- the router, which is among them or not, has this preference from now on
abbrev pub with_preference : Bool → ℕ → Preference → List Preferred → List Preferred
with_preference listed key preference ps =
    if listed then map (preferred_anew key preference) ps else ps ++ record { router = key; preference = preference } ∷ []
