-- How much room for a frame there is.
use Rattle.std.specs.Prelude.{ℕ, ◌+◌, ◌≤◌, vec_capacity}
use Rattle.nd_addr.specs.Frame.{headers_length}
use Rattle.nd_compose.specs.declared.frame_room.FrameRoom.{FrameRoom}

-- there is room for the frame of a message of so many bytes
abbrev pub HasRoomFor : {A : Type 0} → FrameRoom A → ℕ → Type 0
HasRoomFor room length = headers_length + length ≤ vec_capacity room.bytes
