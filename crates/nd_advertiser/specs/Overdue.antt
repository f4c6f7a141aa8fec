-- That no advertisement is due in the past, and none in the moment of the last one.
use Rattle.std.specs.Prelude.{◌≡◌, ℕ, ◌+◌, ◌<◌, List, MatchOption, Option}
use Rattle.nd_table.specs.DueKept.{NotBefore}
use Rattle.nd_advertiser.specs.History.{Row, Advertises, Assigned, Solicited, Sent, Ceased, Offered}
use Rattle.nd_advertiser.specs.Advertising.{last_of, next_of}

-- the row is of the moment, if it has one, and an advertisement leaves some time until the next one
abbrev pub IsOf : ℕ → Row → Type 0
IsOf now (Advertises at settings) = at ≡ now
IsOf now (Assigned at) = at ≡ now
IsOf now (Solicited at delay) = at ≡ now
IsOf now (Sent at interval) = (at ≡ now) × (0 < interval)
IsOf now (Ceased at) = at ≡ now
IsOf now (Offered info) = Unit {0}

-- a moment, if there is one, is after another one, if there is that
abbrev pub IsAfter : Option ℕ → Option ℕ → Type 0
IsAfter last next = MatchOption last (Unit {0}) (λ at. NotBefore (at + 1) next)

-- the next advertisement comes after the last one
abbrev pub IsSpaced : List Row → Type 0
IsSpaced history = IsAfter (last_of history) (next_of history)
