-- What is reported of a link: its text, and what of it is of one node.
use Rattle.std.proofs.Common.{◌≡◌, ℕ, Bool, true, false, List, [], ◌∷◌, ◌++◌, map, append-nil, refl, sym, ◌∙◌, ap}
use Rattle.std.specs.Prelude.{◌==◌, if◌then◌else◌}
use Rattle.std.specs.List.{flat_map}
use Rattle.std.proofs.lemmas.Grind.{flat_map-append}
use Rattle.nd_chronicle.specs.Happening.{Happening, Heard, Lost, Sent}
use Rattle.nd_chronicle.specs.Told.{Told, Words, items, items_at, node_line, told_of}
use Rattle.nd_link_log.specs.Log.{Entry, Log, Begins, Adds, Carries, Reaches, Refuses, chronicle_of}
use Rattle.nd_link_log.specs.Told.{Report, AtNode, AtLink, at_node, items_among, lines_of, node_reports, report_line, reports, reports_of, text}

-- ---- the text

words_lines : (node at : ℕ) (texts : List (List ℕ)) → flat_map (node_line node at) texts ≡ flat_map report_line (map (at_node node) (map (λ t. (at, t)) (map (λ t. Words t) texts)))
words_lines node at [] = refl
words_lines node at (t ∷ texts) = ap (λ l. node_line node at t ++ l) (words_lines node at texts)

row_lines : (node at : ℕ) (what : Happening) → lines_of (Adds node at what) ≡ flat_map report_line (node_reports node (at, what))
row_lines node at (Sent frame) = refl
row_lines node at (Heard source destination message) = refl
row_lines node at (Lost why packet) = refl
row_lines node at what = words_lines node at (told_of what)

pub entry_lines : (entry : Entry) → lines_of entry ≡ flat_map report_line (reports_of entry)
entry_lines (Adds node at what) = row_lines node at what
entry_lines (Refuses at why) = sym (append-nil (lines_of (Refuses at why)))
entry_lines (Begins node start) = refl
entry_lines (Carries node at frame) = refl
entry_lines (Reaches at) = refl

-- it is the lines of the reports
pub text_of_reports : (log : Log) → text log ≡ flat_map report_line (reports log)
text_of_reports [] = refl
text_of_reports (entry ∷ log) =
    ap (λ l. l ++ lines_of entry) (text_of_reports log)
    ∙ (ap (λ l. flat_map report_line (reports log) ++ l) (entry_lines entry) ∙ sym (flat_map-append report_line (reports log) (reports_of entry)))

-- ---- the items of one node

among_both : (i : ℕ) (xs ys : List Report) → items_among i (xs ++ ys) ≡ items_among i xs ++ items_among i ys
among_both i [] ys = refl
among_both i (AtNode node at what ∷ xs) ys = by (node == i) (among_both i xs ys)
  where
    by : (own : Bool) → items_among i (xs ++ ys) ≡ items_among i xs ++ items_among i ys
        → (if own then (at, what) ∷ items_among i (xs ++ ys) else items_among i (xs ++ ys)) ≡ (if own then (at, what) ∷ items_among i xs else items_among i xs) ++ items_among i ys
    by true rest = ap (λ (l : List (ℕ × Told)). (at, what) ∷ l) rest
    by false rest = rest
among_both i (AtLink at why ∷ xs) ys = among_both i xs ys

among_own : (own : Bool) (i node : ℕ) (told : List (ℕ × Told)) → (node == i) ≡ own → items_among i (map (at_node node) told) ≡ (if own then told else [])
among_own true i node [] is = refl
among_own false i node [] is = refl
among_own true i node (item ∷ told) is =
    ap (λ (own : Bool). if own then item ∷ items_among i (map (at_node node) told) else items_among i (map (at_node node) told)) is ∙ ap (λ (l : List (ℕ × Told)). item ∷ l) (among_own true i node told is)
among_own false i node (item ∷ told) is =
    ap (λ (own : Bool). if own then item ∷ items_among i (map (at_node node) told) else items_among i (map (at_node node) told)) is ∙ among_own false i node told is

-- they are those of its chronicle
pub items_of_node : (i : ℕ) (log : Log) → items_among i (reports log) ≡ items (chronicle_of i log)
items_of_node i [] = refl
items_of_node i (Adds node at what ∷ log) =
    among_both i (reports log) (node_reports node (at, what))
    ∙ (ap (λ (l : List (ℕ × Told)). l ++ items_among i (node_reports node (at, what))) (items_of_node i log)
    ∙ (ap (λ (l : List (ℕ × Told)). items (chronicle_of i log) ++ l) (among_own (node == i) i node (items_at (at, what)) refl) ∙ by (node == i)))
  where
    by : (own : Bool) → items (chronicle_of i log) ++ (if own then items_at (at, what) else []) ≡ items (if own then (at, what) ∷ chronicle_of i log else chronicle_of i log)
    by true = refl
    by false = append-nil (items (chronicle_of i log))
items_of_node i (Begins node start ∷ log) = ap (items_among i) (append-nil (reports log)) ∙ items_of_node i log
items_of_node i (Carries node at frame ∷ log) = ap (items_among i) (append-nil (reports log)) ∙ items_of_node i log
items_of_node i (Reaches at ∷ log) = ap (items_among i) (append-nil (reports log)) ∙ items_of_node i log
items_of_node i (Refuses at why ∷ log) = among_both i (reports log) (AtLink at why ∷ []) ∙ (append-nil (items_among i (reports log)) ∙ items_of_node i log)
