-- What an advertiser is to what happened to it.
use Rattle.std.specs.Prelude.{◌≡◌, ℕ, min, List, Option, Some, None, if◌then◌else◌}
use Rattle.nd_table.specs.HistoryKept as growing
use Rattle.nd_decode.specs.declared.prefix_info.PrefixInfo.{PrefixInfo}
use Rattle.nd_advertiser.specs.Config.{Settings}
use Rattle.nd_advertiser.specs.History.{Row}
use Rattle.nd_advertiser.specs.Advertising.{is_on, settings_of, began_of, assigned_of, sent_of, last_of, planned_of, answer_of, max_initial_rtr_advertisements}
use Rattle.nd_advertiser.specs.Offers.{offers_of}

-- of an advertising interface: when it became one, its settings, how many advertisements were sent, counted up to the first three, and the
-- dates of the next one and of an answer
pub record Advertising : Type 0 where
  pub began : Option ℕ
  pub settings : Option Settings
  pub sent : ℕ
  pub planned : Option ℕ
  pub answer : Option ℕ

-- when the address was assigned, when the last advertisement was sent, what it is advertising, how many prefixes it has room to offer, and those
-- that it offers
pub record Table : Type 0 where
  pub assigned : Option ℕ
  pub last : Option ℕ
  pub advertising : Option Advertising
  pub limit : ℕ
  pub offers : List PrefixInfo

-- what it is advertising, by what happened
abbrev pub advertising_of : List Row → Option Advertising
advertising_of history =
    if is_on history then Some (record {
      began = began_of history;
      settings = settings_of history;
      sent = min max_initial_rtr_advertisements (sent_of history);
      planned = planned_of history;
      answer = answer_of history;
    }) else None

pub record Stands (table : Table) (history : List Row) : Type 0 where
  pub assigned : table.assigned ≡ assigned_of history
  pub last : table.last ≡ last_of history
  pub advertising : table.advertising ≡ advertising_of history
  pub offers : table.offers ≡ offers_of history

-- the advertiser gains a row
abbrev pub GainsRow : Table → Table → Row → Type 0
GainsRow = growing.GainsRow Stands
