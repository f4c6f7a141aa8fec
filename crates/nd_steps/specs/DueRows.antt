-- What is reported of what is due: what is sent, and what happened, the oldest first.
use Rattle.std.specs.Prelude.{ℕ, List, [], ◌∷◌, map, Option}
use Rattle.std.specs.Option.{option_map, option_to_list}
use Rattle.nd_addr.specs.declared.addr.Addr.{Addr}
use Rattle.nd_addr.specs.declared.mac.Mac.{Mac}
use Rattle.nd_addr.specs.Number.{addr_at, mac_at}
use Rattle.nd_advertiser.specs.Calls.{settings_in}
use Rattle.nd_advertiser.specs.Contents.{contents}
use Rattle.nd_compose.specs.Frames.{detection_frame, resolution_frame, probe_frame, router_advertisement_frame, router_solicitation_frame}
use Rattle.nd_chronicle.specs.Happening.{Happening, Address, Neighbour, LeftRouter, Sent, Lost, Unreachable}
use Rattle.nd_chronicle.specs.Due.{What, RouterEnds, AddressFalls, NeighbourFalls, RoutersSolicited, RouterAdvertises, Redraws}
use Rattle.nd_slaac.specs.History as address_rows
use Rattle.nd_slaac.specs.Due as addresses
use Rattle.nd_neighbour.specs.History as neighbour_rows
use Rattle.nd_neighbour.specs.Due as neighbours
use Rattle.nd_steps.specs.declared.router_tables.RouterTables.{RouterTables}

-- the frame of what an interface with these addresses advertises, if it does
abbrev pub frame_in : {A : Type 0} → Mac → Addr → RouterTables A → Option (List ℕ)
frame_in mac own tables = option_map (router_advertisement_frame mac own) (option_map (contents mac tables.advertiser.offers) (settings_in tables.advertiser.advertising))

-- a Router Advertisement that is due, if one is
abbrev pub advertised_by : Option (List ℕ) → List Happening
advertised_by advertisement = map (λ frame. Sent frame) (option_to_list advertisement)

-- of a node with a link-layer address and a link-local one
module _ (mac : Mac) (own : Addr) where
  abbrev pub told_of_address : addresses.Falls → Happening
  told_of_address (addresses.Ends key) = Address key address_rows.Ended
  told_of_address (addresses.Solicits key) = Sent (detection_frame mac (addr_at key))
  told_of_address (addresses.Assigns key) = Address key address_rows.Assigned

  abbrev pub told_of_neighbour : neighbours.Falls → List Happening
  told_of_neighbour (neighbours.Multicasts key) = Sent (resolution_frame mac own (addr_at key)) ∷ []
  told_of_neighbour (neighbours.Unicasts key to) = Sent (probe_frame mac own (mac_at to) (addr_at key)) ∷ []
  told_of_neighbour (neighbours.Fails key packets) = Neighbour key (neighbour_rows.Forgot neighbour_rows.Failed) ∷ map (λ packet. Lost Unreachable packet) packets
  told_of_neighbour (neighbours.Ages key) = []

  -- with what is sent where a Router Advertisement is due
  abbrev pub told_of : List Happening → What → List Happening
  told_of advertised (RouterEnds key) = LeftRouter key ∷ []
  told_of advertised (AddressFalls falls) = told_of_address falls ∷ []
  told_of advertised (NeighbourFalls falls) = told_of_neighbour falls
  told_of advertised RoutersSolicited = Sent (router_solicitation_frame mac own) ∷ []
  told_of advertised RouterAdvertises = advertised
  told_of advertised Redraws = []
