-- A neighbour gives way to one that speaks (RFC 6583, section 7): it fails, and that is reported with the packets that waited for it.
use Rattle.std.specs.Prelude.{◌≡◌, ℕ, Bool, true, ◌&&◌, ◌||◌, is_some, MatchBool, List, [], ◌∷◌, ◌++◌, map, Option, Some, None}
use Rattle.nd_neighbour.specs.declared.news.News.{News}
use Rattle.nd_neighbour.specs.EntryKept.{NeighbourEntry}
use Rattle.nd_neighbour.specs.GivingWay.{GivesWay, IsFullOfSpeakers}
use Rattle.nd_neighbour.specs.GivingWayKept.{asked_longest}
use Rattle.nd_neighbour.specs.History.{Row, RowKind, Forgot, Failed, story}
use Rattle.nd_neighbour.specs.News.{lets_enter, news_key}
use Rattle.nd_neighbour.specs.Place.{pushing}
use Rattle.nd_neighbour.specs.RoomKept.{has_room}
use Rattle.nd_neighbour.specs.Story.{waits_of}
use Rattle.nd_neighbour.specs.TableKept.{Stands}
use Rattle.nd_routers.specs.History as routers
use Rattle.nd_routers.specs.RoutersKept as router_table
use Rattle.nd_nexthop.specs.History as redirects
use Rattle.nd_nexthop.specs.Choice as choice
use Rattle.nd_chronicle.specs.Happening.{Happening, Lost, Neighbour, Unreachable}
use Rattle.nd_chronicle.specs.Histories.{then_neighbour}
use Rattle.nd_chronicle.specs.Message as message
use Rattle.nd_out.specs.declared.out.Out.{Out}
use Rattle.nd_steps.specs.NeighbourCache.{PreparesFor, released_rows}
use Rattle.nd_steps.specs.Outputs.{at_moment, happenings}

-- ---- room

-- there is room for the neighbour that enters with the news, or where `speakers` are let in one that gives way to it
abbrev pub HasPlaceOrWay : Bool → ℕ → ℕ → Option News → List NeighbourEntry → Type 0
HasPlaceOrWay speakers limit now None entries = Unit {0}
HasPlaceOrWay speakers limit now (Some news) entries =
    lets_enter news ≡ true → (has_room limit now (news_key news) None entries || (speakers && is_some (asked_longest entries))) ≡ true

-- there is none where the news let it enter, and the table is full of neighbours that speak
abbrev pub PlacedByWay : ℕ → ℕ → News → List Row → Bool → Type 0
PlacedByWay limit now news history place =
    MatchBool place (lets_enter news ≡ true → IsFullOfSpeakers limit now (news_key news) history → ⊥)
    ((lets_enter news ≡ true) × IsFullOfSpeakers limit now (news_key news) history)

-- ---- the one that gives way

-- by the history
abbrev pub WayBy : Bool → ℕ → ℕ → Option (ℕ × RowKind) → List Row → Option ℕ → Type 0
WayBy speakers limit now None history gone = gone ≡ None
WayBy speakers limit now (Some said) history gone = MatchBool (message.lets_enter said.1 && speakers) (GivesWay limit now said.0 history gone) (gone ≡ None)

-- what is reported of it
abbrev pub told_of_way : Option ℕ → List Row → List Happening
told_of_way None history = []
told_of_way (Some gone) history = Neighbour gone (Forgot Failed) ∷ map (λ packet. Lost Unreachable packet) (waits_of (story gone history))

-- for each history that the neighbours stood for, they stand for it without the one that gives way, which is reported
pub record MakesWay {A : Type 0} (speakers : Bool) (limit now : ℕ) (said : Option (ℕ × RowKind)) (old new : List NeighbourEntry) (before after : List (ℕ × Out A)) (gone : Option ℕ) : Type 0 where
  pub each : (history : List Row) → Stands old history
      → WayBy speakers limit now said history gone × Stands new (pushing now gone history)
      × (happenings after ≡ happenings before ++ at_moment now (told_of_way gone history))

-- For each history that the neighbours stood for, they stand for it with what is said, with what makes room before, and without the one that gives way, if one
-- does; that one, the packets that are released, and the address for which a caller waited, are reported.
pub record HearsGiver {A : Type 0} (speakers : Bool) (limit now : ℕ) (said : Option (ℕ × RowKind)) (old new : List NeighbourEntry) (before after : List (ℕ × Out A)) (gone : Option ℕ) : Type 0 where
  pub each : (history : List Row) → Stands old history
      → WayBy speakers limit now said history gone
      × ((made : List Row) × PreparesFor limit now said (pushing now gone history) made × Stands new (then_neighbour now said made))
      × (happenings after ≡ happenings before ++ at_moment now (told_of_way gone history ++ released_rows now said (pushing now gone history)))

-- ---- what its failure brings, where it is a router or the target of a redirect (RFC 4861, sections 6.3.6 and 7.3.3)

abbrev pub with_router_gone : ℕ → Option ℕ → List routers.RouterRow → List routers.RouterRow
with_router_gone at None history = history
with_router_gone at (Some gone) history = routers.Failed at gone ∷ history

abbrev pub with_target_gone : ℕ → Option ℕ → List redirects.RedirectRow → List redirects.RedirectRow
with_target_gone at None history = history
with_target_gone at (Some gone) history = redirects.TargetGone at gone ∷ history

-- for each history that they stood for, they stand for it with the failure
pub record NotesWay (gone : Option ℕ) (old_routers new_routers : router_table.Table) (old_choice new_choice : choice.Table) : Type 0 where
  pub routers : (at : ℕ) (history : List routers.RouterRow) → router_table.Stands old_routers history → router_table.Stands new_routers (with_router_gone at gone history)
  pub redirects : (at : ℕ) (history : List redirects.RedirectRow) → choice.Stands old_choice history → choice.Stands new_choice (with_target_gone at gone history)
