-- What a table of routes is to the history that it stands for.
use Rattle.std.specs.Prelude.{◌≡◌, ℕ, List, Option}
use Rattle.nd_addr.specs.Prefix.{PrefixValue}
use Rattle.nd_table.specs.HistoryKept as growing
use Rattle.nd_forwarding.specs.declared.route.Route.{Route}
use Rattle.nd_forwarding.specs.History.{Row}
use Rattle.nd_forwarding.specs.Redirect.{last_redirect}
use Rattle.nd_forwarding.specs.Routes.{routes}

-- how many routes there is room for, the routes, and when the last Redirect was made
pub record Table : Type 0 where
  pub limit : ℕ
  pub entries : List (PrefixValue × Route)
  pub redirected : Option ℕ

pub record Stands (table : Table) (history : List Row) : Type 0 where
  pub entries_are : table.entries ≡ routes history
  pub redirected_is : table.redirected ≡ last_redirect history

-- the table gains a row
abbrev pub GainsRow : Table → Table → Row → Type 0
GainsRow = growing.GainsRow Stands
