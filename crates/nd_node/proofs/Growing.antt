-- Reports that come behind others, and a frame among them.
use Rattle.std.proofs.Common.{◌≡◌, ℕ, List, [], ◌∷◌, ◌++◌, append-nil, append_assoc, Option, Some, None, refl, sym, ◌∙◌, ap, inl, inr, ⊎_elim}
use Rattle.std.specs.Prelude.{◌⊎◌, IfSome, Result, Ok, Err, OnErr}
use Rattle.nd_chronicle.specs.Happening.{Happening, Sent}
use Rattle.nd_out.specs.declared.out.Out.{Out}
use Rattle.nd_steps.specs.Outputs.{Grows, HasFrame, SendsFrame, happenings}

pub has_frame_behind : (first later : List (ℕ × Happening)) → HasFrame later → HasFrame (first ++ later)
has_frame_behind first later (before, after, at, frame, is) =
    (first ++ before, after, at, frame, ap (λ l. first ++ l) is ∙ sym (append_assoc first before ((at, Sent frame) ∷ after)))

pub has_frame_before : (first later : List (ℕ × Happening)) → HasFrame first → HasFrame (first ++ later)
has_frame_before first later (before, after, at, frame, is) =
    (before, after ++ later, at, frame, ap (λ l. l ++ later) is ∙ append_assoc before ((at, Sent frame) ∷ after) later)

pub on_err_of : {X E P : Type 0} (r : Result X E) → P → OnErr r P
on_err_of (Ok x) p = tt
on_err_of (Err e) p = p

-- the room comes back, or a frame was written into it
pub room_after : {X S : Type 0} (result old : Option X) (room : X) → old ≡ Some room → IfSome result (λ rest. rest ≡ room) → (result ≡ None → S) → (result ≡ old) ⊎ S
room_after None old room is same sends = inr (sends refl)
room_after (Some rest) old room is same sends = inl (ap Some same ∙ sym is)

module _ {A : Type 0} (x y z : List (ℕ × Out A)) where
  -- nothing came
  pub grows_none : y ≡ x → Grows x y
  grows_none is = ([], ap happenings is ∙ sym (append-nil (happenings x)))

  pub grows_on : Grows x y → Grows y z → Grows x z
  grows_on (n, e) (m, f) = (n ++ m, f ∙ (ap (λ l. l ++ m) e ∙ append_assoc (happenings x) n m))

  sends_before : SendsFrame x y → Grows y z → SendsFrame x z
  sends_before (n, e, has) (m, f) = (n ++ m, f ∙ (ap (λ l. l ++ m) e ∙ append_assoc (happenings x) n m), has_frame_before n m has)

  sends_behind : Grows x y → SendsFrame y z → SendsFrame x z
  sends_behind (n, e) (m, f, has) = (n ++ m, f ∙ (ap (λ l. l ++ m) e ∙ append_assoc (happenings x) n m), has_frame_behind n m has)

  -- the room is as it was, or a frame came
  pub room_on : {X : Type 0} (a b c : X) → (b ≡ a) ⊎ SendsFrame x y → Grows x y → (c ≡ b) ⊎ SendsFrame y z → Grows y z → (c ≡ a) ⊎ SendsFrame x z
  room_on a b c first g second h =
      ⊎_elim (λ same. ⊎_elim (λ again. inl (again ∙ same)) (λ sent. inr (sends_behind g sent)) second) (λ sent. inr (sends_before sent h)) first
