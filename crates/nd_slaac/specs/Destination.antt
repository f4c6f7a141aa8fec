-- Whether a packet goes to one of the node's own addresses, or to the solicited-node address of one (RFC 4291, section 2.8).
use Rattle.std.specs.Prelude.{◌≡◌, ◌⊎◌, ℕ, Bool, true, false, ◌&&◌, ◌||◌, ◌==◌, bytes_eq, slice_index, List, Option, Some, None}
use Rattle.nd_addr.specs.declared.addr.Addr.{Addr}
use Rattle.nd_addr.specs.Bytes.{AreBytes}
use Rattle.nd_addr.specs.Kind.{solicited_node_of}
use Rattle.nd_addr.specs.Number.{addr_at, number_of}
use Rattle.nd_slaac.specs.declared.destination.Counted.{Counted}
use Rattle.nd_slaac.specs.declared.destination.Counted.TheVariants.{Own, Assigned}
use Rattle.nd_slaac.specs.declared.stage.Stage.{Stage}
use Rattle.nd_slaac.specs.declared.stage.Stage.TheVariants.{Detecting, Failed, Passed}
use Rattle.nd_slaac.specs.AddressKept.{Address}
use Rattle.nd_slaac.specs.History.{Row, Story, story}
use Rattle.nd_slaac.specs.State.{is_tentative, is_assigned}

-- which own addresses count: a duplicate never does
abbrev pub counts : Counted → Story → Bool
counts Own s = is_tentative s || is_assigned s
counts Assigned s = is_assigned s

-- one of the node's own addresses that counts is the destination, or has it as its solicited-node address
pub record IsTo (counted : Counted) (history : List Row) (destination : Addr) : Type 0 where
  pub address : Addr
  pub bytes : AreBytes 16 address.0
  pub counting : counts counted (story (number_of address.0) history) ≡ true
  pub to : (destination.0 ≡ address.0) ⊎ (destination.0 ≡ solicited_node_of address.0)

-- the same of what is kept
abbrev pub counts_in : Counted → Stage → Bool
counts_in Own (Detecting sent retrans due) = true
counts_in Own Failed = false
counts_in Own Passed = true
counts_in Assigned (Detecting sent retrans due) = false
counts_in Assigned Failed = false
counts_in Assigned Passed = true

abbrev pub counted_in : Counted → Option Address → Bool
counted_in counted None = false
counted_in counted (Some a) = counts_in counted a.stage

-- the destination is the address, or its solicited-node address
abbrev pub is_meant : Addr → Addr → Bool
is_meant destination address = bytes_eq destination.0 address.0 || bytes_eq destination.0 (solicited_node_of address.0)

-- the destination is the solicited-node address of one that counts
abbrev pub is_asked : Counted → Addr → Address → Bool
is_asked counted destination a = counts_in counted a.stage && (number_of (addr_at a.key).0 == a.key && bytes_eq destination.0 (solicited_node_of (addr_at a.key).0))

-- two addresses have the same last three bytes
abbrev pub end_alike : List ℕ → List ℕ → Bool
end_alike a b = slice_index a 13 == slice_index b 13 && (slice_index a 14 == slice_index b 14 && slice_index a 15 == slice_index b 15)

-- what is kept is the number of an address
abbrev pub is_to : Counted → Addr → Address → Bool
is_to counted destination a = counts_in counted a.stage && (number_of (addr_at a.key).0 == a.key && is_meant destination (addr_at a.key))
