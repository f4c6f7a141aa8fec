-- The frames of a log, by their numbers.
use Rattle.std.proofs.Common.{◌≡◌, inl, inr, ℕ, zero, suc, ◌<◌, List, [], ◌∷◌, ◌++◌, length, append-nil, Some, refl, sym, ◌∙◌, ap, subst, arith, ⊎_elim}
use Rattle.std.specs.Prelude.{slice_get}
use Rattle.std.proofs.lemmas.Bool.{cases_lt}
use Rattle.std.proofs.lemmas.Option.{slice_get_within}
use Rattle.nd_chronicle.specs.Happening.{Sent}
use Rattle.nd_link_log.specs.Log.{Entry, Log, Begins, Adds, Carries, Reaches, Refuses, IsFrame, sent}
use Rattle.nd_link.specs.declared.sent_frame.SentFrame.{SentFrame}
use Rattle.nd_link.specs.Frames.{frames, kept_frame, kept_frames}
use Rattle.nd_link.proofs.Lists.{push_length, push_others, push_own, same_element}

-- there are as many as were sent
pub count_frames : (log : Log) → length (frames log) ≡ sent log
count_frames [] = refl
count_frames (Adds node at (Sent frame) ∷ log) = push_length (frames log) (node, frame) ∙ ap suc (count_frames log)
count_frames (Adds node at what ∷ log) = ap length (append-nil (frames log)) ∙ count_frames log
count_frames (Begins node start ∷ log) = count_frames log
count_frames (Carries node at number ∷ log) = count_frames log
count_frames (Reaches at ∷ log) = count_frames log
count_frames (Refuses at why ∷ log) = count_frames log

-- a frame at a place, with the moment at which it was sent
pub record Named (log : Log) (number sender : ℕ) (frame : List ℕ) : Type 0 where
  pub at : ℕ
  pub is_frame : IsFrame log number sender at frame

further : (entry : Entry) (log : Log) (number sender : ℕ) (frame : List ℕ) → Named log number sender frame → Named (entry ∷ log) number sender frame
further entry log number sender frame n = record { at = n.at; is_frame = record { before = n.is_frame.before; there = inr n.is_frame.there; number_is = n.is_frame.number_is } }

-- each place is that of a frame of its number
pub named : (log : Log) (number sender : ℕ) (frame : List ℕ) → slice_get (frames log) number ≡ Some (sender, frame) → Named log number sender frame
named [] number sender frame e = absurd (let no : ⊥ = cc in no)
named (Adds node at (Sent f) ∷ log) number sender frame e = ⊎_elim
    (λ less. further (Adds node at (Sent f)) log number sender frame (named log number sender frame (sym (push_others (frames log) number (node, f) less) ∙ e)))
    (λ more.
    let lt : number < suc (length (frames log)) = subst (λ (k : ℕ). number < k) (push_length (frames log) (node, f)) (slice_get_within (frames log ++ (node, f) ∷ []) number (sender, frame) e) in
    let here : length (frames log) ≡ number = omega (arith, more, lt) in
    let own : slice_get (frames log ++ (node, f) ∷ []) number ≡ Some (node, f) = subst (λ (k : ℕ). slice_get (frames log ++ (node, f) ∷ []) k ≡ Some (node, f)) here (push_own (frames log) (node, f)) in
    let both : (node, f) ≡ (sender, frame) = same_element (slice_get (frames log ++ (node, f) ∷ []) number) (node, f) (sender, frame) own e in
    subst (λ (x : ℕ × List ℕ). Named (Adds node at (Sent f) ∷ log) number x.0 x.1) both
    (record { at = at; is_frame = record { before = log; there = inl refl; number_is = sym (count_frames log) ∙ here } }))
    (cases_lt number (length (frames log)))
named (Adds node at what ∷ log) number sender frame e =
    further (Adds node at what) log number sender frame (named log number sender frame (ap (λ l. slice_get l number) (sym (append-nil (frames log))) ∙ e))
named (Begins node start ∷ log) number sender frame e = further (Begins node start) log number sender frame (named log number sender frame e)
named (Carries node at k ∷ log) number sender frame e = further (Carries node at k) log number sender frame (named log number sender frame e)
named (Reaches at ∷ log) number sender frame e = further (Reaches at) log number sender frame (named log number sender frame e)
named (Refuses at why ∷ log) number sender frame e = further (Refuses at why) log number sender frame (named log number sender frame e)

-- what is kept at a place
pub kept_at : {A : Type 0} (kept : List (SentFrame A)) (place : ℕ) (sent : SentFrame A) → slice_get kept place ≡ Some sent → slice_get (kept_frames kept) place ≡ Some (kept_frame sent)
kept_at [] place sent e = absurd (let no : ⊥ = cc in no)
kept_at (k ∷ kept) zero sent e = let same : k ≡ sent = cc in ap (λ x. Some (kept_frame x)) same
kept_at (k ∷ kept) (suc place) sent e = kept_at kept place sent e

pub kept_length : {A : Type 0} (kept : List (SentFrame A)) → length (kept_frames kept) ≡ length kept
kept_length [] = refl
kept_length (k ∷ kept) = ap suc (kept_length kept)
