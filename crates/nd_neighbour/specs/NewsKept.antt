-- Only what is kept, in the code's terms: what news make of the entries, and what they release.
use Rattle.std.specs.Prelude.{ℕ, ◌+◌, Bool, false, if◌then◌else◌, List, ◌∷◌, [], is_some, length, ◌&&◌, not, ◌≡◌, Option, Some, None}
use Rattle.nd_table.specs.HistoryKept.{GainsRowsMakingPlace}
use Rattle.nd_neighbour.specs.declared.news.News.{News}
use Rattle.nd_neighbour.specs.declared.news.Times.{Times}
use Rattle.nd_neighbour.specs.History.{RowKind, Row, story}
use Rattle.nd_neighbour.specs.EntryKept.{NeighbourEntry, is_wanted, known_mac, released}
use Rattle.nd_neighbour.specs.TableKept.{Stands}
use Rattle.nd_neighbour.specs.Removal.{waiting_at}
use Rattle.nd_neighbour.specs.Place.{Prepares}
use Rattle.nd_neighbour.specs.Story.{is_awaited}
use Rattle.nd_neighbour.specs.News.{news_key, news_row, lets_enter, released_by, ends_router}

-- for each history that old stands for, new stands for it with the row of the news, and with what makes room before
abbrev pub GainsNews : ℕ → ℕ → News → Times → List NeighbourEntry → List NeighbourEntry → Type 0
GainsNews limit now n times old new =
    GainsRowsMakingPlace Stands old new (Prepares limit now (lets_enter n) (news_key n)) (λ history made. (now, news_key n, news_row n times) ∷ made)

-- what is returned for news is what the history says
pub record Tells (now key : ℕ) (kind : RowKind) (old : List NeighbourEntry) (packets : List (List ℕ)) (turned awaited : Bool) : Type 0 where
  pub released : (history : List Row) → Stands old history → packets ≡ released_by now kind (story key history)
  pub awaited_is : (history : List Row) → Stands old history → awaited ≡ is_awaited (story key history)
  pub turned_is : (history : List Row) → Stands old history → turned ≡ ends_router now kind (story key history)

-- what the news release, by what is kept
abbrev pub told_released : (NeighbourEntry → NeighbourEntry) → Option NeighbourEntry → List (List ℕ)
told_released change None = []
told_released change (Some n) = released n (change n)

-- whether the link-layer address was known before
abbrev pub was_known : Option NeighbourEntry → Bool
was_known None = false
was_known (Some n) = is_some (known_mac n.stage)

-- whether a caller waited for it
abbrev pub was_wanted : Option NeighbourEntry → Bool
was_wanted None = false
was_wanted (Some n) = is_wanted n.stage

-- how many rows tell that its address is known: one for each packet that waits, and one for the caller
abbrev pub told_at : Option NeighbourEntry → ℕ
told_at found = length (waiting_at found) + (if was_wanted found then 1 else 0)

-- and whether they take the mark of a router away
abbrev pub told_turned : (NeighbourEntry → NeighbourEntry) → Option NeighbourEntry → Bool
told_turned change None = false
told_turned change (Some n) = n.router && not (change n).router
