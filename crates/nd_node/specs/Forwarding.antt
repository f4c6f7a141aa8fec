-- A packet that a router sends on or loses (RFC 8200, section 3; RFC 4861, section 8.2).
use Rattle.std.specs.Prelude.{◌≡◌, ℕ, Bool, false, List, ◌∷◌, ◌≤◌, Option}
use Rattle.rand_core.specs.Stream.{Stream}
use Rattle.nd_addr.specs.Ip6.{PacketParts}
use Rattle.nd_addr.specs.declared.addr.Addr.{Addr}
use Rattle.nd_chronicle.specs.Start.{Start}
use Rattle.nd_chronicle.specs.Happening.{Chronicle, Loss, Lost, Passed, last_moment}
use Rattle.nd_chronicle.specs.OwnAddress.{is_own}
use Rattle.nd_chronicle.specs.Answer.{Answer, answer_after}
use Rattle.nd_chronicle.specs.Forwarding.{ForwardAdds, SendsOn, frame_as_it_came, redirect_to}
use Rattle.nd_out.specs.declared.out.Out.{Out}
use Rattle.nd_steps.specs.Outputs.{Tells}
use Rattle.nd_node.specs.declared.node.Node.{Node}
use Rattle.nd_node.specs.NodeKept.{Stands}

-- From each chronicle of earlier moments that the node stood for, the call leads to one with what a packet adds that is in transit, of
-- these bytes, that is reported, and its frame is answered.
pub record AddsForwarded {R A : Type 0} (stream : R → Stream) (old new : Node R A) (before after : List (ℕ × Out A)) (now : ℕ) (packet : PacketParts) (bytes : List ℕ) (answer : Answer) : Type 0 where
  pub each : (start : Start) (c : Chronicle) → Stands stream start old c → last_moment start.at c ≤ now
      → (d : Chronicle) × ForwardAdds start now packet bytes ((now, Passed) ∷ c) d × Stands stream start new d × Tells c d before after × (answer ≡ answer_after d false)

-- to one in which the packet is lost as received
pub record AddsLostInTransit {R A : Type 0} (stream : R → Stream) (old new : Node R A) (before after : List (ℕ × Out A)) (now : ℕ) (why : Loss) (packet : PacketParts) : Type 0 where
  pub each : (start : Start) (c : Chronicle) → Stands stream start old c → last_moment start.at c ≤ now
      → Stands stream start new ((now, Lost why (frame_as_it_came start now packet)) ∷ (now, Passed) ∷ c)
      × Tells c ((now, Lost why (frame_as_it_came start now packet)) ∷ (now, Passed) ∷ c) before after

-- to one in which it is sent on to a neighbour, with a Redirect of this target before it, if there is one
pub record AddsSentOn {R A : Type 0} (stream : R → Stream) (old new : Node R A) (before after : List (ℕ × Out A)) (now key : ℕ) (target : Option Addr) (packet : PacketParts) (bytes : List ℕ) (answer : Answer) : Type 0 where
  pub each : (start : Start) (c : Chronicle) → Stands stream start old c → last_moment start.at c ≤ now
      → (d : Chronicle) × SendsOn start now target packet bytes key ((now, Passed) ∷ c) d × Stands stream start new d × Tells c d before after × (answer ≡ answer_after d false)

-- the same with or without a destination among the node's own addresses, which decides on the Redirect with the source and the routes
pub record AddsOnward {R A : Type 0} (stream : R → Stream) (old new : Node R A) (before after : List (ℕ × Out A)) (now key : ℕ) (own : Bool) (packet : PacketParts) (bytes : List ℕ) (answer : Answer) : Type 0 where
  pub each : (start : Start) (c : Chronicle) → Stands stream start old c → last_moment start.at c ≤ now → is_own c packet.header.destination.0 ≡ own
      → (d : Chronicle) × SendsOn start now (redirect_to start now packet c) packet bytes key ((now, Passed) ∷ c) d
      × Stands stream start new d × Tells c d before after × (answer ≡ answer_after d false)
