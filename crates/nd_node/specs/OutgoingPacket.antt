-- A packet that is to be sent (RFC 4861, section 5.2).
use Rattle.std.specs.Prelude.{◌≡◌, ℕ, Bool, true, List, ◌∷◌, ◌≤◌}
use Rattle.rand_core.specs.Stream.{Stream}
use Rattle.nd_addr.specs.Ip6.{PacketParts}
use Rattle.nd_nexthop.specs.NextHop.{NextHop}
use Rattle.nd_chronicle.specs.Start.{Start}
use Rattle.nd_chronicle.specs.Happening.{Chronicle, Passed, last_moment}
use Rattle.nd_chronicle.specs.Event.{HopAdds, PacketAdds}
use Rattle.nd_chronicle.specs.Answer.{Answer, answer_after}
use Rattle.nd_chronicle.specs.Packet.{GoesIfPlaced}
use Rattle.nd_out.specs.declared.out.Out.{Out}
use Rattle.nd_steps.specs.Outputs.{Tells}
use Rattle.nd_node.specs.declared.node.Node.{Node}
use Rattle.nd_node.specs.NodeKept.{Stands}

-- From each chronicle of earlier moments that the node stood for, the call leads to one in which the packet goes to the neighbour, if there
-- is room for that, that is reported, and its sender is answered.
pub record AddsToNeighbour {R A : Type 0} (stream : R → Stream) (old new : Node R A) (before after : List (ℕ × Out A)) (now key : ℕ) (packet : List ℕ) (answer : Answer) : Type 0 where
  pub each : (start : Start) (c : Chronicle) → Stands stream start old c → last_moment start.at c ≤ now
      → (d : Chronicle) × GoesIfPlaced start now key packet ((now, Passed) ∷ c) d × Stands stream start new d × Tells c d before after
      × ((sends : Bool) → answer ≡ answer_after d sends)

-- From each chronicle of earlier moments that the node stood for, the call leads to one with what the packet adds whose next hop this is,
-- that is reported, and it is answered.
pub record AddsPacket {R A : Type 0} (stream : R → Stream) (old new : Node R A) (before after : List (ℕ × Out A)) (now : ℕ) (next : NextHop) (packet : PacketParts) (answer : Answer) : Type 0 where
  pub each : (start : Start) (c : Chronicle) → Stands stream start old c → last_moment start.at c ≤ now
      → (d : Chronicle) × PacketAdds start now next packet ((now, Passed) ∷ c) d × Stands stream start new d × Tells c d before after × (answer ≡ answer_after d true)

-- The same to the next hop that it has.
pub record AddsByHop {R A : Type 0} (stream : R → Stream) (old new : Node R A) (before after : List (ℕ × Out A)) (now : ℕ) (packet : PacketParts) (answer : Answer) : Type 0 where
  pub each : (start : Start) (c : Chronicle) → Stands stream start old c → last_moment start.at c ≤ now
      → (d : Chronicle) × HopAdds start now packet ((now, Passed) ∷ c) d × Stands stream start new d × Tells c d before after × (answer ≡ answer_after d true)
