-- Time that passes at a node.
use Rattle.std.specs.Prelude.{◌≡◌, ◌≤◌, ℕ, List, Option, Some, IsSomeAnd, if◌then◌else◌}
use Rattle.rand_core.specs.Stream.{Stream}
use Rattle.nd_advertiser.specs.Contents.{contents_length}
use Rattle.nd_compose.specs.Frames.{longest_message}
use Rattle.nd_compose.specs.Room.{HasRoomFor}
use Rattle.nd_compose.specs.declared.frame_room.FrameRoom.{FrameRoom}
use Rattle.nd_chronicle.specs.Start.{Start, is_host}
use Rattle.nd_chronicle.specs.Happening.{Chronicle, last_moment}
use Rattle.nd_chronicle.specs.Due.{What, Due, comes}
use Rattle.nd_chronicle.specs.History.{Walk}
use Rattle.nd_steps.specs.Outputs.{Tells}
use Rattle.nd_node.specs.declared.node.Node.{Node}
use Rattle.nd_node.specs.Node.{NextDue}
use Rattle.nd_node.specs.NodeKept.{Stands}
use Rattle.nd_out.specs.declared.out.Out.{Out}

-- The call leads from each chronicle that the node stood for to one of those that the relation gives, and reports it.
pub record Leads {R A : Type 0} (stream : R → Stream) (old new : Node R A) (before after : List (ℕ × Out A)) (To : Start → Chronicle → Chronicle → Type 0) : Type 0 where
  pub each : (start : Start) (c : Chronicle) → Stands stream start old c → (d : Chronicle) × To start c d × Stands stream start new d × Tells c d before after

-- what is due first at the moment comes
abbrev pub Comes : ℕ → Start → Chronicle → Chronicle → Type 0
Comes now start c d = (what : What) × Due start c now (Some what) × (d ≡ comes start now what c)

-- the milliseconds up to the moment pass, its own included
abbrev pub Passes : ℕ → Start → Chronicle → Chronicle → Type 0
Passes now start c d = Walk start c (last_moment start.at c) now d

-- what is left to walk from the one is what is left to walk from the other
abbrev pub Onward : ℕ → Start → Chronicle → Chronicle → Type 0
Onward now start c d = (e : Chronicle) → Walk start d (last_moment start.at d) now e → Walk start c (last_moment start.at c) now e

-- The first thing that is due up to the moment comes, and from there the milliseconds up to it go on.
pub record Advances (now : ℕ) (start : Start) (c d : Chronicle) : Type 0 where
  pub at : ℕ
  pub first : NextDue start c at
  pub due : at ≤ now
  pub between : Chronicle
  pub comes : Comes at start c between
  pub onward : Onward now start between d

-- how long a message that is due can be, in bytes: a router's advertisement with all that it has room to offer (RFC 4861, section 6.2.3), or a
-- short one
abbrev pub longest_due : {R A : Type 0} → Node R A → ℕ
longest_due node = if is_host node.role then longest_message else contents_length node.router.advertiser.limit

-- room for it is there
abbrev pub IsInHand : {R A : Type 0} → Node R A → Option (FrameRoom A) → Type 0
IsInHand node room = IsSomeAnd room (λ r. HasRoomFor r (longest_due node))
