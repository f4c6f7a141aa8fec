-- Whether there is room for a neighbour that may enter, and after a use of it for a second one.
use Rattle.std.specs.Prelude.{ℕ, true, List, Option, MatchOption}
use Rattle.nd_neighbour.specs.History.{Row, story}
use Rattle.nd_neighbour.specs.Story.{is_present, mac_of}
use Rattle.nd_neighbour.specs.Place.{Prepares, WouldBeFull}
use Rattle.nd_neighbour.specs.Sending.{then_packet}

-- the first one wouldn't be full, and the second one neither after the history of a packet for the first
pub record HasRoom (limit now key : ℕ) (second : Option ℕ) (history : List Row) : Type 0 where
  pub first : WouldBeFull limit now key history → ⊥
  pub both : MatchOption second (Unit {0}) (λ next. (retrans room : ℕ) (packet : List ℕ) (made : List Row) → Prepares limit now true key history made → WouldBeFull limit now next (then_packet (is_present (story key history)) (mac_of (story key history)) now key retrans room packet made) → ⊥)
