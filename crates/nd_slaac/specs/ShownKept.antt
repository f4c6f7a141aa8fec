-- Only what is kept, in the code's terms: what an address shows at a moment.
use Rattle.std.specs.Prelude.{ℕ}
use Rattle.nd_table.specs.Ends.{time_left}
use Rattle.nd_slaac.specs.declared.state.State.{State}
use Rattle.nd_slaac.specs.AddressKept.{Address, state_in}
use Rattle.nd_slaac.specs.Shown.{Seen}

-- the same of what is kept
abbrev pub state_at : ℕ → Address → State
state_at t a = state_in a.stage a.preferred_end t

abbrev pub seen : ℕ → Address → Seen
seen t a = record { key = a.key; state = state_at t a; preferred_left = time_left t a.preferred_end; valid_left = time_left t a.valid_end; by_hand = a.by_hand }
