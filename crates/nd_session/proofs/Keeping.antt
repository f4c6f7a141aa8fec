-- What keeps a session ready: room that is in reserve stays, and a frame stays among the reports until it is taken.
use Rattle.std.proofs.Common.{◌≡◌, ◌≤◌, ℕ, List, [], ◌∷◌, ◌++◌, append-nil, append_assoc, drop, reverse, Option, Some, Ok, Err, arith, refl, sym, ◌∙◌, ap, subst, inl, inr, ⊎_elim}
use Rattle.std.specs.Prelude.{◌⊎◌, IfOk, IsSomeAnd, OnErr, Result, is_none, slice_get, true, false}
use Rattle.std.proofs.lemmas.List.{map-append, reverse-reverse}
use Rattle.nd_compose.specs.Room.{HasRoomFor}
use Rattle.nd_compose.specs.declared.frame_room.FrameRoom.{FrameRoom}
use Rattle.nd_chronicle.specs.Happening.{Happening, Sent}
use Rattle.nd_out.specs.declared.out.Out.{Out}
use Rattle.nd_out.specs.Out.{happening}
use Rattle.nd_steps.specs.Outputs.{Grows, HasFrame, SendsFrame, happenings}
use Rattle.std.specs.declared.alloc.AllocError.{AllocError}
use Rattle.rand_core.specs.Stream.{Stream}
use Rattle.nd_chronicle.specs.Event as events
use Rattle.nd_chronicle.specs.Happening.{Chronicle, last_moment}
use Rattle.nd_chronicle.specs.Start.{Start}
use Rattle.nd_node.proofs.Growing.{grows_none, has_frame_before, has_frame_behind}
use Rattle.nd_node.proofs.Steps.{walk_last}
use Rattle.nd_node.specs.declared.answer.Answer.{Answer}
use Rattle.nd_node.specs.Answer.{answer_of}
use Rattle.nd_node.specs.EventKept.{AddsEvent}
use Rattle.nd_node.specs.Frame.{Stays}
use Rattle.nd_node.specs.NodeKept.{Stands}
use Rattle.nd_node.specs.declared.node.Node.{Node}
use Rattle.nd_addr.specs.declared.addr.Addr.{Addr}
use Rattle.nd_node.specs.declared.resolve.Resolution.{Resolution}
use Rattle.nd_node.specs.declared.resolve.Resolution.TheVariants as resolutions
use Rattle.nd_node.specs.Resolve.{answer_by, answer_told, with_answer}
use Rattle.nd_node.specs.Time.{IsInHand, Leads, Passes, longest_due}

-- ---- the reports

module _ {A : Type 0} (x y : List (ℕ × Out A)) where
  frame_stays : Grows x y → HasFrame (happenings x) → HasFrame (happenings y)
  frame_stays (n, e) has = subst HasFrame (sym e) (has_frame_before (happenings x) n has)

  frame_came : SendsFrame x y → HasFrame (happenings y)
  frame_came (n, e, has) = subst HasFrame (sym e) (has_frame_behind (happenings x) n has)

-- ---- readiness

module _ {R A : Type 0} (old new : Node R A) (room : Option (FrameRoom A)) where
  pub still_in_hand : longest_due new ≡ longest_due old → IsInHand old room → IsInHand new room
  still_in_hand longest there = subst (λ (n : ℕ). IsSomeAnd room (λ r. HasRoomFor r n)) (sym longest) there

  pub still_ready : (x y : List (ℕ × Out A)) → Grows x y → longest_due new ≡ longest_due old → IsInHand old room ⊎ HasFrame (happenings x) → IsInHand new room ⊎ HasFrame (happenings y)
  still_ready x y grows longest ready = ⊎_elim (λ there. inl (still_in_hand longest there)) (λ has. inr (frame_stays x y grows has)) ready

  pub ready_after : (left : Option (FrameRoom A)) (x y : List (ℕ × Out A)) → (left ≡ room) ⊎ SendsFrame x y → Grows x y → longest_due new ≡ longest_due old
      → IsInHand old room ⊎ HasFrame (happenings x) → IsInHand new left ⊎ HasFrame (happenings y)
  ready_after left x y kept grows longest ready =
      ⊎_elim (λ same. subst (λ (r : Option (FrameRoom A)). IsInHand new r ⊎ HasFrame (happenings y)) (sym same) (still_ready x y grows longest ready)) (λ sent. inr (frame_came x y sent)) kept

-- the room of a node of one start is the same, whatever happened
longest_is : {R A : Type 0} (stream : R → Stream) (start : Start) (node later : Node R A) (c d : Chronicle) → Stands stream start node c → Stands stream start later d → longest_due later ≡ longest_due node
longest_is stream start node later c d s t = rw (t.role, s.role, t.router.offer_limit, s.router.offer_limit) refl

-- an event keeps a session ready
pub event_ready : {R A : Type 0} (stream : R → Stream) (old mid new : Node R A) (x y z : List (ℕ × Out A)) (now : ℕ) (event : events.Event) (r : Result Answer AllocError) (room : Option (FrameRoom A))
    → old.last ≤ now → Leads stream old mid x y (Passes now)
    → IfOk r (λ a. AddsEvent stream mid new y z now event (answer_of a)) → OnErr r (Stays stream mid new) → OnErr r (z ≡ y)
    → (start : Start) (c : Chronicle) → Stands stream start old c → IsInHand mid room ⊎ HasFrame (happenings y) → IsInHand new room ⊎ HasFrame (happenings z)
event_ready stream old mid new x y z now event (Ok a) room le settled added stays told start c s ready =
    let l = settled.each start c s in
    let t = added.each start l.0 l.2 (walk_last start c l.0 (last_moment start.at c) now l.1 (omega (arith, le, s.last))) in
    still_ready mid new room y z (t.3.newer, t.3.outs) (longest_is stream start mid new l.0 t.0 l.2 t.2) ready
event_ready stream old mid new x y z now event (Err e) room le settled added stays told start c s ready =
    let l = settled.each start c s in
    still_ready mid new room y z (grows_none y z z told) (longest_is stream start mid new l.0 l.0 l.2 (stays.each start l.0 l.2)) ready

-- ---- a question about a path

-- one that adds nothing
pub nothing_ready : {R A : Type 0} (stream : R → Stream) (old mid new : Node R A) (x y z : List (ℕ × Out A)) (now : ℕ) (room : Option (FrameRoom A)) → Leads stream old mid x y (Passes now) → Stays stream mid new → z ≡ y
    → (start : Start) (c : Chronicle) → Stands stream start old c → IsInHand mid room ⊎ HasFrame (happenings y) → IsInHand new room ⊎ HasFrame (happenings z)
nothing_ready stream old mid new x y z now room settled stays told start c s ready =
    let l = settled.each start c s in
    still_ready mid new room y z (grows_none y z z told) (longest_is stream start mid new l.0 l.0 l.2 (stays.each start l.0 l.2)) ready

-- a frame is before the last row, if that is none
frame_before : (xs : List (ℕ × Happening)) (row : ℕ × Happening) → ((frame : List ℕ) → row.1 ≡ Sent frame → ⊥) → HasFrame (xs ++ row ∷ []) → HasFrame xs
frame_before [] row other ([], after, at, frame, is) = absurd (other frame (let same : row ≡ (at, Sent frame) = cc in ap (λ (r : ℕ × Happening). r.1) same))
frame_before [] row other (b ∷ before, after, at, frame, is) = (before, after, at, frame, ap (drop 1) is)
frame_before (x ∷ xs) row other ([], after, at, frame, is) = ([], xs, at, frame, let same : x ≡ (at, Sent frame) = cc in ap (λ (r : ℕ × Happening). r ∷ xs) same)
frame_before (x ∷ xs) row other (b ∷ before, after, at, frame, is) =
    let (first, rest, m, f, e) = frame_before xs row other (before, after, at, frame, ap (drop 1) is) in (x ∷ first, rest, m, f, ap (λ (l : List (ℕ × Happening)). x ∷ l) e)

no_answer : (A : Type 0) (destination : Addr) (resolution : Resolution) (frame : List ℕ) → happening (answer_told {A = A} destination resolution) ≡ Sent frame → ⊥
no_answer A destination (resolutions.Path way) frame e = let no : ⊥ = cc in no
no_answer A destination (resolutions.Refused refusal) frame e = let no : ⊥ = cc in no

-- its answer is no frame
pub path_ready : {R A : Type 0} (stream : R → Stream) (old mid new : Node R A) (x y z : List (ℕ × Out A)) (now : ℕ) (destination : Addr) (resolution : Resolution) (room : Option (FrameRoom A)) → old.last ≤ now
    → Leads stream old mid x y (Passes now) → AddsEvent stream mid new y (with_answer z now destination resolution) now (events.Resolves destination) (answer_by resolution)
    → (start : Start) (c : Chronicle) → Stands stream start old c → IsInHand mid room ⊎ HasFrame (happenings y) → IsInHand new room ⊎ HasFrame (happenings z)
path_ready {R} {A} stream old mid new x y z now destination resolution room le settled added start c s ready =
    let l = settled.each start c s in
    let t = added.each start l.0 l.2 (walk_last start c l.0 (last_moment start.at c) now l.1 (omega (arith, le, s.last))) in
    let told : ℕ × Out A = (now, answer_told destination resolution) in
    let f : ℕ × Out A → ℕ × Happening = λ o. (o.0, happening o.1) in
    ⊎_elim (λ there. inl (still_in_hand mid new room (longest_is stream start mid new l.0 t.0 l.2 t.2) there))
    (λ has. inr (frame_before (happenings z) (now, happening (answer_told {A = A} destination resolution)) (no_answer A destination resolution)
    (subst HasFrame (map-append f z (told ∷ [])) (frame_stays y (with_answer z now destination resolution) (t.3.newer, t.3.outs) has))))
    ready

-- ---- what is taken

no_frame : HasFrame [] → ⊥
no_frame ([], after, at, frame, is) = let no : ⊥ = cc in no
no_frame (b ∷ before, after, at, frame, is) = let no : ⊥ = cc in no

-- where nothing is left, no frame is
pub in_hand_at_nothing : {A : Type 0} {P : Type 0} (outs : List (ℕ × Out A)) → outs ≡ [] → P ⊎ HasFrame (happenings outs) → P
in_hand_at_nothing outs is ready = ⊎_elim (λ p. p) (λ has. absurd (no_frame (subst (λ (q : List (ℕ × Out _)). HasFrame (happenings q)) is has))) ready

abbrev first_of : List (ℕ × Happening) → Happening
first_of [] = Sent []
first_of (row ∷ rows) = row.1

-- a frame that isn't the oldest report is left when that is taken
pub frame_left : {A : Type 0} (outs : List (ℕ × Out A)) (at : ℕ) (report : Out A) → Some (at, report) ≡ slice_get outs 0 → ((frame : List ℕ) → happening report ≡ Sent frame → ⊥)
    → HasFrame (happenings outs) → HasFrame (happenings (drop 1 outs))
frame_left [] at report is other has = has
frame_left (q ∷ outs) at report is other ([], after, m, frame, told) =
    absurd (other frame (ap happening (same_report (sym is)) ∙ ap first_of told))
  where
    same_report : Some q ≡ Some (at, report) → report ≡ q.1
    same_report e = let same : (at, report) ≡ q = cc in ap (λ (r : ℕ × Out _). r.1) same
frame_left (q ∷ outs) at report is other (b ∷ before, after, m, frame, told) = (before, after, m, frame, ap (drop 1) told)
