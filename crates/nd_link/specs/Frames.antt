-- The frames that were sent on a link, with their senders: the place of each is its number.
use Rattle.std.specs.Prelude.{◌≡◌, ℕ, List, [], ◌∷◌, ◌++◌, map, slice_get, Some}
use Rattle.nd_steps.specs.Outputs.{frame_sent}
use Rattle.nd_link_log.specs.Log.{Log, Adds}
use Rattle.nd_link.specs.declared.sent_frame.SentFrame.{SentFrame}

-- frames of one sender
abbrev pub of_sender : ℕ → List (List ℕ) → List (ℕ × List ℕ)
of_sender sender frames = map (λ frame. (sender, frame)) frames

-- the oldest first
abbrev pub frames : Log → List (ℕ × List ℕ)
frames [] = []
frames (Adds node at what ∷ log) = frames log ++ of_sender node (frame_sent what)
frames (_ ∷ log) = frames log

-- the same of what a link keeps of them
abbrev pub kept_frame : {A : Type 0} → SentFrame A → ℕ × List ℕ
kept_frame kept = (kept.sender, kept.frame.items)

abbrev pub kept_frames : {A : Type 0} → List (SentFrame A) → List (ℕ × List ℕ)
kept_frames kept = map kept_frame kept

-- what arrives at a node of the frame at a place, by what may arrive there of a frame
pub record Arrived {A : Type 0} (arrives : ℕ → List ℕ → List ℕ → Type 0) (to : ℕ) (kept : List (SentFrame A)) (place : ℕ) (bytes : List ℕ) : Type 0 where
  pub sent : SentFrame A
  pub is : slice_get kept place ≡ Some sent
  pub arrived : arrives to sent.frame.items bytes
