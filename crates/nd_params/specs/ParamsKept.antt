-- Only what is kept, in the code's terms: the numbers of the parameters, and what they are to what was heard.
use Rattle.std.specs.Prelude.{◌≡◌, ℕ, Bool, List}
use Rattle.nd_table.specs.HistoryKept as growing
use Rattle.nd_params.specs.History.{Row, hop_limit_of, mtu_of, base_of, retrans_of, managed_of, other_of}
use Rattle.nd_params.specs.ReachableTime.{reachable_of, last_draw}

-- the numbers that are kept: times in milliseconds
pub record Values : Type 0 where
  pub hop_limit : ℕ
  pub mtu : ℕ
  pub base_reachable_time : ℕ
  pub reachable_time : ℕ
  pub retrans_timer : ℕ
  pub managed : Bool
  pub other : Bool
  pub drawn_at : ℕ

-- the values are those that the history gives
pub record Stands (values : Values) (history : List Row) : Type 0 where
  pub hop_limit : values.hop_limit ≡ hop_limit_of history
  pub mtu : values.mtu ≡ mtu_of history
  pub base_reachable_time : values.base_reachable_time ≡ base_of history
  pub reachable_time : values.reachable_time ≡ reachable_of history
  pub retrans_timer : values.retrans_timer ≡ retrans_of history
  pub managed : values.managed ≡ managed_of history
  pub other : values.other ≡ other_of history
  pub drawn_at : values.drawn_at ≡ last_draw history

-- the parameters gain rows
abbrev pub GainsRows : Values → Values → (List Row → List Row) → Type 0
GainsRows = growing.GainsRows Stands
