-- The settings of a chronicle stay in their range where each that an event gives is.
use Rattle.std.proofs.Common.{◌≡◌, ℕ, true, ◌∷◌}
use Rattle.nd_advertiser.specs.Advertising.{advertised_by}
use Rattle.nd_slaac.specs.Due as addresses_due
use Rattle.nd_chronicle.specs.Start.{Start}
use Rattle.nd_chronicle.specs.Happening.{Chronicle, Happening, Configured}
use Rattle.nd_chronicle.specs.Histories.{advertising_history}
use Rattle.nd_chronicle.specs.Event.{Event, EventAdds}
use Rattle.nd_chronicle.specs.Due.{What, RouterEnds, AddressFalls, NeighbourFalls, RoutersSolicited, RouterAdvertises, Redraws, comes}
use Rattle.nd_chronicle.proofs.Keeping.{is_plain, neighbour_keeps, advertising_keeps, event_keeps}
use Rattle.nd_existence.specs.Intervals.{AreTimed, LeavesTime}

-- a row that gives no settings leaves them
quiet : (at : ℕ) (what : Happening) (c : Chronicle) → is_plain what ≡ true → AreTimed c → AreTimed ((at, what) ∷ c)
quiet at (Configured settings) c is t = absurd (let never : ⊥ = cc in never)
quiet at _ c is t = t

pub event_timed : (start : Start) (at : ℕ) (c : Chronicle) (event : Event) (d : Chronicle) → LeavesTime event → EventAdds start at event c d → AreTimed c → AreTimed d
event_timed start at c event d fits h t = event_keeps start at AreTimed (quiet at)
    (λ key delay lifetimes e k. k) (λ key lifetimes e k. k) (λ source destination message e none k. k) (λ source destination target message e targets k. k)
    c AreTimed (λ e k. k) (λ refusal. t) (λ key lifetimes e k. k) (λ key e k. k) event d (λ settings is. (fits settings is, t)) h t

-- and so does what is due
pub comes_timed : (start : Start) (at : ℕ) (what : What) (c : Chronicle) → AreTimed c → AreTimed (comes start at what c)
comes_timed start at (RouterEnds key) c t = t
comes_timed start at (AddressFalls (addresses_due.Ends key)) c t = t
comes_timed start at (AddressFalls (addresses_due.Solicits key)) c t = t
comes_timed start at (AddressFalls (addresses_due.Assigns key)) c t = t
comes_timed start at (NeighbourFalls falls) c t = neighbour_keeps start at AreTimed (quiet at) falls c t
comes_timed start at RoutersSolicited c t = t
comes_timed start at RouterAdvertises c t = advertising_keeps start at AreTimed (quiet at) (advertised_by (advertising_history start c)) c t
comes_timed start at Redraws c t = t
