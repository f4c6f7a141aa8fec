-- One of the node's own addresses, as C sees it (RFC 4862, section 2).
use Rattle.std.specs.Prelude.{ℕ, replicate}
use Rattle.nd_slaac.specs.declared.shown.ShownAddress.{ShownAddress}
use Rattle.nd_slaac.specs.declared.state.State.{State}
use Rattle.nd_slaac.specs.declared.state.State.TheVariants as states
use Rattle.nd_c_types.specs.Numbers.{flag_number, left_number}
use Rattle.nd_c_types.specs.declared.address.AddressRow.{AddressRow}

-- enum nd_state
abbrev pub state_number : State → ℕ
state_number states.Tentative = 1
state_number states.Preferred = 2
state_number states.Deprecated = 3
state_number states.Duplicate = 4

abbrev pub address_row : ShownAddress → AddressRow
address_row a = record {
  preferred_left = left_number a.preferred_left;
  valid_left = left_number a.valid_left;
  address = a.addr.0;
  state = state_number a.state;
  by_hand = flag_number a.by_hand;
  reserved = replicate 3 0;
}
