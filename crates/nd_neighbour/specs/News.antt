-- What a message says of a neighbour adds to what happened, and what it brings.
use Rattle.std.specs.Prelude.{ℕ, Bool, true, false, List, ◌∷◌, if◌then◌else◌, [], is_some, ◌&&◌, not, Option, Some, None}
use Rattle.std.specs.Option.{option_map}
use Rattle.nd_addr.specs.Number.{number_of}
use Rattle.nd_addr.specs.declared.mac.Mac.{Mac}
use Rattle.nd_neighbour.specs.declared.news.News.{News}
use Rattle.nd_neighbour.specs.declared.news.News.TheVariants as news
use Rattle.nd_neighbour.specs.declared.news.Times.{Times}
use Rattle.nd_neighbour.specs.History.{RowKind, Given, Advertised, Marked, Story}
use Rattle.nd_neighbour.specs.Story.{mac_of, waits_of, is_router}

-- whom the news are of
abbrev pub news_key : News → ℕ
news_key (news.Given addr mac mark) = number_of addr.0
news_key (news.Advert addr flags mac) = number_of addr.0
news_key (news.Marked addr router) = number_of addr.0

-- what they add
abbrev pub news_row : News → Times → RowKind
news_row (news.Given addr mac mark) times = Given (number_of mac.0) mark
news_row (news.Advert addr flags mac) times = Advertised flags (option_map (λ m. number_of m.0) mac) times.reachable
news_row (news.Marked addr router) times = Marked router

-- the link-layer address that they give
abbrev pub mac_given : News → Option Mac
mac_given (news.Given addr mac mark) = Some mac
mac_given (news.Advert addr flags mac) = mac
mac_given (news.Marked addr router) = None

-- only an address that is given makes a neighbour enter
abbrev pub lets_enter : News → Bool
lets_enter (news.Given addr mac mark) = true
lets_enter (news.Advert addr flags mac) = false
lets_enter (news.Marked addr router) = false

-- what a row releases: where an address is known after it, all that waited
abbrev pub released_by : ℕ → RowKind → Story → List (List ℕ)
released_by at kind s = if is_some (mac_of ((at, kind) ∷ s)) then waits_of s else []

-- the row takes the mark of a router away
abbrev pub ends_router : ℕ → RowKind → Story → Bool
ends_router at kind s = is_router s && not (is_router ((at, kind) ∷ s))
