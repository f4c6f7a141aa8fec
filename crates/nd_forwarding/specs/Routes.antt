-- The static routes of a router, and the longest one to an address.
use Rattle.std.specs.Prelude.{◌≡◌, false, ℕ, ◌<◌, ◌≤◌, nat_lt, Bool, true, ◌||◌, if◌then◌else◌, List, [], ◌∷◌, ◌++◌, length, Option, Some, None, is_some, option_map, option_to_list}
use Rattle.std.specs.Map.{lookup}
use Rattle.nd_addr.specs.Number.{holds}
use Rattle.nd_addr.specs.Prefix.{PrefixValue}
use Rattle.nd_addr.specs.Same.{same_prefix}
use Rattle.nd_forwarding.specs.declared.route.Route.{Route}
use Rattle.nd_forwarding.specs.History.{Row, RoutePut, RedirectMade}

-- the greatest limit on the routes (our choice)
abbrev pub max_routes : ℕ
max_routes = 64

-- the route that was put last for a prefix
abbrev pub route_of : PrefixValue → List Row → Option Route
route_of p [] = None
route_of p (RoutePut prefix route ∷ history) = if same_prefix prefix p then Some route else route_of p history
route_of p (RedirectMade at ∷ history) = route_of p history

-- the prefixes that have routes, in the order in which each was first put
abbrev pub prefixes : List Row → List PrefixValue
prefixes [] = []
prefixes (RoutePut prefix route ∷ history) =
    if is_some (route_of prefix history) then prefixes history else prefixes history ++ prefix ∷ []
prefixes (RedirectMade at ∷ history) = prefixes history

-- these prefixes with their routes
abbrev pub with_routes : List PrefixValue → List Row → List (PrefixValue × Route)
with_routes [] history = []
with_routes (p ∷ ps) history = option_to_list (option_map (λ route. (p, route)) (route_of p history)) ++ with_routes ps history

-- the routes, in the order of their prefixes
abbrev pub routes : List Row → List (PrefixValue × Route)
routes history = with_routes (prefixes history) history

-- the prefix is among those of the routes
abbrev pub has_route : PrefixValue → List (PrefixValue × Route) → Bool
has_route p es = is_some (lookup (same_prefix p) es)

-- one more route can be put: it replaces one, or there are fewer than the limit
abbrev pub fits : ℕ → PrefixValue → List (PrefixValue × Route) → Bool
fits limit p es = has_route p es || nat_lt (length es) limit

-- of a route and another one, if there is one, that with the longer prefix
abbrev pub longer : PrefixValue × Route → Option (PrefixValue × Route) → PrefixValue × Route
longer e None = e
longer e (Some f) = if nat_lt e.0.length f.0.length then f else e

-- of the routes whose prefixes hold the address, that with the longest prefix
abbrev pub longest : List ℕ → List (PrefixValue × Route) → Option (PrefixValue × Route)
longest address [] = None
longest address (e ∷ es) = if holds e.0 address then Some (longer e (longest address es)) else longest address es

-- where it leads
abbrev pub route_to : List ℕ → List (PrefixValue × Route) → Option Route
route_to address es = option_map (λ e. e.1) (longest address es)

-- none of the routes holds the address
abbrev pub NoneHolds : List ℕ → List (PrefixValue × Route) → Type 0
NoneHolds address [] = Unit {0}
NoneHolds address (e ∷ es) = (holds e.0 address ≡ false) × NoneHolds address es

-- those that hold it have fewer bits than so many
abbrev pub AllShorter : List ℕ → ℕ → List (PrefixValue × Route) → Type 0
AllShorter address bits [] = Unit {0}
AllShorter address bits (e ∷ es) = (holds e.0 address ≡ true → e.0.length < bits) × AllShorter address bits es

-- those that hold it have no more bits than so many
abbrev pub NoneLonger : List ℕ → ℕ → List (PrefixValue × Route) → Type 0
NoneLonger address bits [] = Unit {0}
NoneLonger address bits (e ∷ es) = (holds e.0 address ≡ true → e.0.length ≤ bits) × NoneLonger address bits es
