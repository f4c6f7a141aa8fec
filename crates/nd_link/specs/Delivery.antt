-- Which node and which frame a delivery names, or the first reason why it is refused.
use Rattle.std.specs.Prelude.{◌≡◌, ◌≢◌, ℕ, ◌<◌, ◌≤◌, List, length, slice_get, Result, Ok, Err, Some}
use Rattle.nd_link.specs.declared.sent_frame.SentFrame.{SentFrame}
use Rattle.nd_link.specs.declared.refusal.Refusal.{Refusal}
use Rattle.nd_link.specs.declared.refusal.Refusal.TheVariants.{NoNode, NoFrame, Own}

-- the frame is there
pub record IsKept {A : Type 0} (kept : List (SentFrame A)) (number : ℕ) : Type 0 where
  pub sent : SentFrame A
  pub is : slice_get kept number ≡ Some sent

-- both are there, and the node isn't the frame's sender
pub record Goes {A : Type 0} (nodes : ℕ) (kept : List (SentFrame A)) (to number : ℕ) (way : ℕ × ℕ) : Type 0 where
  pub place : way.0 ≡ to
  pub there : to < nodes
  pub number_is : way.1 ≡ number
  pub frame : IsKept kept number
  pub other : frame.sent.sender ≢ to

abbrev pub IsWay : {A : Type 0} → ℕ → List (SentFrame A) → ℕ → ℕ → Result (ℕ × ℕ) Refusal → Type 0
IsWay nodes kept to number (Ok way) = Goes nodes kept to number way
IsWay nodes kept to number (Err NoNode) = nodes ≤ to
IsWay nodes kept to number (Err NoFrame) = (to < nodes) × (length kept ≤ number)
IsWay nodes kept to number (Err Own) = (to < nodes) × (frame : IsKept kept number) × (frame.sent.sender ≡ to)
IsWay nodes kept to number (Err _) = ⊥
