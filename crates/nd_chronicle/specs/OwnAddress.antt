-- The own addresses at a place of a chronicle (RFC 4862, section 5.4).
use Rattle.std.specs.Prelude.{ℕ, Bool, ◌||◌, if◌then◌else◌, List, Option, Some, None}
use Rattle.nd_addr.specs.Number.{number_of}
use Rattle.nd_slaac.specs.History.{Story, story}
use Rattle.nd_slaac.specs.State as states
use Rattle.nd_chronicle.specs.Start.{Start, link_local_key}
use Rattle.nd_chronicle.specs.Happening.{Chronicle, Disabled, Refusal, Tentative}
use Rattle.nd_chronicle.specs.Histories.{address_history}

-- what happened to the address since it last ended
abbrev pub story_of : Chronicle → ℕ → Story
story_of c key = story key (address_history c)

abbrev pub is_tentative : Chronicle → List ℕ → Bool
is_tentative c address = states.is_tentative (story_of c (number_of address))

-- preferred or deprecated
abbrev pub is_assigned : Chronicle → List ℕ → Bool
is_assigned c address = states.is_assigned (story_of c (number_of address))

-- one of the node's own addresses: a duplicate is none
abbrev pub is_own : Chronicle → List ℕ → Bool
is_own c address = is_tentative c address || is_assigned c address

-- "IP operation on the interface SHOULD be disabled" where the link-local address is a duplicate (RFC 4862, section 5.4.5): it sends no packets
abbrev pub is_disabled : Start → Chronicle → Bool
is_disabled start c = states.is_duplicate (story_of c (link_local_key start))

-- its link-local address is assigned
abbrev pub is_up : Start → Chronicle → Bool
is_up start c = states.is_assigned (story_of c (link_local_key start))

-- why a node does nothing that needs its link-local address, the first that holds: the address is a duplicate, or isn't assigned yet
abbrev pub refusal_unless_up : Start → Chronicle → Option Refusal
refusal_unless_up start c = if is_disabled start c then Some Disabled else if is_up start c then None else Some Tentative
