-- The line that is written of a frame, and the room that it is written to.
use Rattle.std.specs.Prelude.{◌≡◌, ℕ, List, [], ◌∷◌, ◌++◌, ◌<◌, ◌≤◌, length, drop, ◌==◌, if◌then◌else◌}
use Rattle.nd_addr.specs.declared.role.Role.TheVariants.{Host, Router}
use Rattle.nd_validity.specs.Hearing.{Outcome, hearing_of, hearing_in_some_role}
use Rattle.ndpctl_check.specs.Telling.{told}

-- what a frame is to the role with a number: 0 is a host and 1 a router; by any other number, to the role that takes its message, as `check` has it
abbrev pub heard_by : ℕ → List ℕ → Outcome
heard_by role frame =
    if role == 0 then hearing_of frame Host else
    if role == 1 then hearing_of frame Router else
    hearing_in_some_role frame

-- what the frame is, and a line feed
abbrev pub line_of : ℕ → List ℕ → List ℕ
line_of role frame = told (heard_by role frame) ++ 10 ∷ []

-- The line is written at the front of the room, and what is behind it stays as it was. If the room is too short, nothing is written.
pub record Writes (line room_old room_new : List ℕ) : Type 0 where
  pub fits : length line ≤ length room_old → room_new ≡ line ++ drop (length line) room_old
  pub short : length room_old < length line → room_new ≡ room_old
