-- A packet to a neighbour (RFC 4861, sections 7.2.2 and 7.3.3).
use Rattle.std.specs.Prelude.{ℕ, List}
use Rattle.nd_chronicle.specs.Start.{Start}
use Rattle.nd_chronicle.specs.Happening.{Chronicle}
use Rattle.nd_chronicle.specs.NeighborSolicitation.{Replies}
use Rattle.nd_chronicle.specs.Packet.{Goes}

-- the packet goes to the neighbour at the moment
abbrev pub PacketGoes : ℕ → ℕ → List ℕ → Start → Chronicle → Chronicle → Type 0
PacketGoes now key packet start c d = Goes start c now key packet d

-- and so does an answer to a neighbour that asked
abbrev pub ReplyGoes : ℕ → ℕ → List ℕ → Start → Chronicle → Chronicle → Type 0
ReplyGoes now key packet start c d = Replies start now key packet c d
