-- What the node reports: the rows that it returns, and what they say.
use Rattle.std.specs.Prelude.{◌≡◌, ℕ, List, [], ◌∷◌, ◌++◌, map}
use Rattle.std.specs.List.{flat_map}
use Rattle.nd_chronicle.specs.Happening.{Chronicle, Happening, Sent}
use Rattle.nd_chronicle.specs.Told.{items, items_at}
use Rattle.nd_out.specs.declared.out.Out.{Out}
use Rattle.nd_out.specs.Out.{happening}

-- all of that moment
abbrev pub at_moment : ℕ → List Happening → List (ℕ × Happening)
at_moment at happenings = map (λ h. (at, h)) happenings

-- what happened, by what is output
abbrev pub happenings : {A : Type 0} → List (ℕ × Out A) → List (ℕ × Happening)
happenings outs = map (λ o. (o.0, happening o.1)) outs

-- reports came behind those that there were
abbrev pub Grows : {A : Type 0} → List (ℕ × Out A) → List (ℕ × Out A) → Type 0
Grows old new = (newer : List (ℕ × Happening)) × (happenings new ≡ happenings old ++ newer)

-- a frame is among what happened
abbrev pub HasFrame : List (ℕ × Happening) → Type 0
HasFrame rows = (before after : List (ℕ × Happening)) × (at : ℕ) × (frame : List ℕ) × (rows ≡ before ++ (at, Sent frame) ∷ after)

-- reports came behind those that there were, and a frame is among them
abbrev pub SendsFrame : {A : Type 0} → List (ℕ × Out A) → List (ℕ × Out A) → Type 0
SendsFrame old new = (newer : List (ℕ × Happening)) × (happenings new ≡ happenings old ++ newer) × HasFrame newer

-- What is reported more is what is reported of the one more than of the other.
pub record Tells {A : Type 0} (c d : Chronicle) (old new : List (ℕ × Out A)) : Type 0 where
  pub newer : List (ℕ × Happening)
  pub told : items d ≡ items c ++ flat_map items_at newer
  pub outs : happenings new ≡ happenings old ++ newer

-- the frame that was sent, if one was
abbrev pub frame_sent : Happening → List (List ℕ)
frame_sent (Sent frame) = frame ∷ []
frame_sent _ = []

-- the frames that were sent among what happened
abbrev pub frames_in : List (ℕ × Happening) → List (List ℕ)
frames_in rows = flat_map (λ row. frame_sent row.1) rows

-- the frames that a node sent, the oldest first
abbrev pub sent_in : Chronicle → List (List ℕ)
sent_in [] = []
sent_in (row ∷ c) = sent_in c ++ frame_sent row.1
