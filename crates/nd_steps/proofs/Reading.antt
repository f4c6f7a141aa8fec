-- The text of a chronicle and the frames that were sent are read off what is reported of it.
use Rattle.std.proofs.Common.{◌≡◌, ℕ, List, [], ◌∷◌, ◌++◌, map, refl, sym, ◌∙◌, ap}
use Rattle.std.proofs.lemmas.Grind.{flat_map-append}
use Rattle.std.specs.List.{flat_map}
use Rattle.nd_chronicle.specs.Happening.{Chronicle, Happening, Heard, Lost, Sent}
use Rattle.nd_chronicle.specs.Told.{Told, Frame, Words, told_of, items_at, items, line_at, line_of, lines_of, text}
use Rattle.nd_out.specs.declared.out.Out.{Out}
use Rattle.nd_steps.specs.Outputs.{frame_sent, frames_in, sent_in, Tells}

-- whatever is read off each item, where that is what is read of each row
module _ {B : Type 0} (read : ℕ × Told → List B) (of_row : ℕ × Happening → List B) (row_is : (at : ℕ) (what : Happening) → of_row (at, what) ≡ flat_map read (items_at (at, what))) where
  of_rows : (rows : List (ℕ × Happening)) → flat_map of_row rows ≡ flat_map read (flat_map items_at rows)
  of_rows [] = refl
  of_rows (row ∷ rows) =
      ap (λ (l : List B). l ++ flat_map of_row rows) (row_is row.0 row.1) ∙ (ap (λ (l : List B). flat_map read (items_at row) ++ l) (of_rows rows)
      ∙ sym (flat_map-append read (items_at row) (flat_map items_at rows)))

  module _ (whole : Chronicle → List B) (none : whole [] ≡ []) (more : (row : ℕ × Happening) (c : Chronicle) → whole (row ∷ c) ≡ whole c ++ of_row row) where
    of_chronicle : (c : Chronicle) → whole c ≡ flat_map read (items c)
    of_chronicle [] = none
    of_chronicle (row ∷ c) =
        more row c ∙ (ap (λ (l : List B). l ++ of_row row) (of_chronicle c) ∙ (ap (λ (l : List B). flat_map read (items c) ++ l) (row_is row.0 row.1)
        ∙ sym (flat_map-append read (items c) (items_at row))))

    of_newer : {A : Type 0} (c d : Chronicle) (x y : List (ℕ × Out A)) (t : Tells c d x y) → whole d ≡ whole c ++ flat_map of_row t.newer
    of_newer c d x y t =
        of_chronicle d ∙ (ap (flat_map read) t.told ∙ (flat_map-append read (items c) (flat_map items_at t.newer)
        ∙ (ap (λ (l : List B). l ++ flat_map read (flat_map items_at t.newer)) (sym (of_chronicle c)) ∙ ap (λ (l : List B). whole c ++ l) (sym (of_rows t.newer)))))

-- ---- the text

words_lines : (at : ℕ) (texts : List (List ℕ)) → flat_map (line_at at) texts ≡ flat_map line_of (map (λ t. (at, t)) (map (λ t. Words t) texts))
words_lines at [] = refl
words_lines at (t ∷ texts) = ap (λ (l : List ℕ). line_at at t ++ l) (words_lines at texts)

row_lines : (at : ℕ) (what : Happening) → lines_of (at, what) ≡ flat_map line_of (items_at (at, what))
row_lines at (Sent frame) = refl
row_lines at (Heard source destination message) = refl
row_lines at (Lost why packet) = refl
row_lines at what = words_lines at (told_of what)

-- what is reported is reported at the end of the text
pub Tells-text : {A : Type 0} (c d : Chronicle) (x y : List (ℕ × Out A)) (t : Tells c d x y) → text d ≡ text c ++ flat_map lines_of t.newer
Tells-text c d x y t = of_newer line_of lines_of row_lines text refl (λ row c. refl) c d x y t

-- ---- the frames that were sent

abbrev frame_of : Told → List (List ℕ)
frame_of (Frame frame) = frame ∷ []
frame_of _ = []

abbrev frame_at : ℕ × Told → List (List ℕ)
frame_at item = frame_of item.1

words_send : (at : ℕ) (texts : List (List ℕ)) → [] ≡ flat_map frame_at (map (λ t. (at, t)) (map (λ t. Words t) texts))
words_send at [] = refl
words_send at (t ∷ texts) = words_send at texts

row_frames : (at : ℕ) (what : Happening) → frame_sent what ≡ flat_map frame_at (items_at (at, what))
row_frames at (Sent frame) = refl
row_frames at (Heard source destination message) = refl
row_frames at (Lost why packet) = refl
row_frames at what = words_send at (told_of what)

-- what is reported holds the frames that were sent, and no other
pub Tells-frames : {A : Type 0} (c d : Chronicle) (x y : List (ℕ × Out A)) (t : Tells c d x y) → sent_in d ≡ sent_in c ++ frames_in t.newer
Tells-frames c d x y t = of_newer frame_at (λ row. frame_sent row.1) row_frames sent_in refl (λ row c. refl) c d x y t
