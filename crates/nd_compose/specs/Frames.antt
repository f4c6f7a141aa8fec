-- The frames that a node sends of its own, by their bytes, and the addresses between which they go.
use Rattle.std.specs.Prelude.{ℕ, Bool, true, false, List, [], ◌∷◌, replicate}
use Rattle.nd_addr.specs.declared.addr.Addr.{Addr}
use Rattle.nd_addr.specs.declared.mac.Mac.{Mac}
use Rattle.nd_addr.specs.Kind.{unspecified_address, all_nodes_address, all_routers_address, solicited_node_of, multicast_mac_of}
use Rattle.nd_decode.specs.Message.{Parts}
use Rattle.nd_decode.specs.Option.{slla, tlla}
use Rattle.nd_decode.specs.declared.body.Body.TheVariants as bodies
use Rattle.nd_message.specs.Frame.{message_frame}

-- how many bytes the longest of these messages has: a target, and one link-layer address (RFC 4861, sections 4.3 and 4.4)
abbrev pub longest_message : ℕ
longest_message = 32

abbrev pub unspecified : Addr
unspecified = record { 0 = unspecified_address }

abbrev pub all_nodes : Addr
all_nodes = record { 0 = all_nodes_address }

abbrev pub all_routers : Addr
all_routers = record { 0 = all_routers_address }

abbrev pub solicited_node : Addr → Addr
solicited_node address = record { 0 = solicited_node_of address.0 }

-- the Ethernet address of a multicast destination (RFC 2464, section 7)
abbrev pub multicast_mac : Addr → Mac
multicast_mac destination = record { 0 = multicast_mac_of destination.0 }

-- the placeholder for an Ethernet destination that is still open: a frame that waits is addressed when it is sent
abbrev pub open_mac : Mac
open_mac = record { 0 = replicate 6 0 }

-- the frame of a message to a multicast destination
abbrev pub multicast_frame : Mac → Addr → Addr → Parts → List ℕ
multicast_frame mac source destination message = message_frame (multicast_mac destination) mac source destination message

-- a solicitation of duplicate address detection: from ::, to the solicited-node address, without options (RFC 4862, section 5.4.2)
abbrev pub detection_frame : Mac → Addr → List ℕ
detection_frame mac address =
    multicast_frame mac unspecified (solicited_node address) (record { body = bodies.Ns (record { target = address }); options = [] })

-- a Neighbor Solicitation with the link-layer address of its sender (RFC 4861, section 4.3)
abbrev pub solicitation : Mac → Addr → Parts
solicitation mac target = record { body = bodies.Ns (record { target = target }); options = slla mac ∷ [] }

-- a multicast solicitation of a neighbour: to its solicited-node address (RFC 4861, section 7.2.2)
abbrev pub resolution_frame : Mac → Addr → Addr → List ℕ
resolution_frame mac source target = multicast_frame mac source (solicited_node target) (solicitation mac target)

-- a unicast solicitation of a neighbour: to the neighbour itself (RFC 4861, section 7.3.3)
abbrev pub probe_frame : Mac → Addr → Mac → Addr → List ℕ
probe_frame mac source to target = message_frame to mac source target (solicitation mac target)

-- a Router Solicitation with the link-layer address of its sender, to all routers (RFC 4861, section 6.3.7)
abbrev pub router_solicitation_frame : Mac → Addr → List ℕ
router_solicitation_frame mac source =
    multicast_frame mac source all_routers (record { body = bodies.Rs; options = slla mac ∷ [] })

-- a Neighbor Advertisement with the link-layer address of its target, which is to override one that is known (RFC 4861, section 7.2.4)
abbrev pub advertisement : Bool → Bool → Mac → Addr → Parts
advertisement router solicited mac target = record {
  body = bodies.Na (record { router = router; solicited = solicited; override_flag = true; target = target });
  options = tlla mac ∷ [];
}

-- "If the source of the solicitation is the unspecified address, the node MUST set the Solicited flag to zero and multicast the
-- advertisement to the all-nodes address."
abbrev pub defence_frame : Bool → Mac → Addr → List ℕ
defence_frame router mac target = multicast_frame mac target all_nodes (advertisement router false mac target)

-- "Otherwise, the node MUST set the Solicited flag to one and unicast the advertisement to the Source Address of the solicitation."
abbrev pub answer_frame : Bool → Mac → Addr → Addr → List ℕ
answer_frame router mac target asker = message_frame open_mac mac target asker (advertisement router true mac target)

-- a Router Advertisement to all nodes (section 6.2.4)
abbrev pub router_advertisement_frame : Mac → Addr → Parts → List ℕ
router_advertisement_frame mac source message = multicast_frame mac source all_nodes message
