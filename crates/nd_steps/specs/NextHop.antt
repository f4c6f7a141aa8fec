-- The default routers, by what a node keeps, as the choice among them sees them (RFC 4861, section 6.3.6; RFC 4191,
-- section 3.2).
use Rattle.std.specs.Prelude.{ℕ, Bool, false, is_some, List, map, Option, Some, None}
use Rattle.nd_neighbour.specs.EntryKept.{NeighbourEntry, known_mac}
use Rattle.nd_neighbour.specs.TableKept.{entry_in}
use Rattle.nd_routers.specs.RouterFailures.{place_among}
use Rattle.nd_routers.specs.Preferences.{preference_among}
use Rattle.nd_nexthop.specs.DefaultRouter.{DefaultRouter}
use Rattle.nd_routers.specs.RoutersKept as routers

-- a neighbour in any state other than INCOMPLETE
abbrev pub is_resolved : Option NeighbourEntry → Bool
is_resolved None = false
is_resolved (Some n) = is_some (known_mac n.stage)

abbrev pub candidate_in : List NeighbourEntry → routers.Table → ℕ → DefaultRouter
candidate_in entries table key = record {
  key = key;
  usable = is_resolved (entry_in key entries);
  preference = preference_among key table.preferences;
  failed = place_among key table.failed;
}

abbrev pub candidates_in : List NeighbourEntry → routers.Table → List DefaultRouter
candidates_in entries table = map (λ key. candidate_in entries table key) (routers.keys table.entries)
