-- What a node reports is what the link reports of its rows, and holds the frames that it sent.
use Rattle.std.proofs.Common.{◌≡◌, ℕ, List, [], ◌∷◌, ◌++◌, map, append-nil, append_assoc, refl, sym, ◌∙◌, ap}
use Rattle.std.proofs.lemmas.List.{append_cancel_left, map-append}
use Rattle.std.proofs.lemmas.Grind.{flat_map-append}
use Rattle.std.specs.List.{flat_map}
use Rattle.nd_chronicle.specs.Happening.{Chronicle, Happening}
use Rattle.nd_chronicle.specs.Told.{items_at, items, node_lines}
use Rattle.nd_out.specs.declared.out.Out.{Out}
use Rattle.nd_steps.specs.Outputs as effects
use Rattle.nd_steps.specs.Outputs.{frame_sent, frames_in, happenings, sent_in}
use Rattle.nd_steps.proofs.Reading.{Tells-frames}
use Rattle.nd_link_log.specs.Log.{Log, Adds, Refuses, adding}
use Rattle.nd_link_log.specs.Told.{at_node, node_reports, report_line, reports, text}
use Rattle.nd_link_log.proofs.Reports.{entry_lines, text_of_reports}
use Rattle.nd_link.specs.Frames.{frames, of_sender}
use Rattle.nd_link.specs.declared.told.Told.{Told as LinkTold}
use Rattle.nd_link.specs.declared.told.Told.TheVariants.{Node, Refused}
use Rattle.nd_link.specs.Told.{Tells, TellsReports, refusal_of, told_lines, told_reports, told_text}

-- ---- rows on top of a chronicle

items_on : (rows c : Chronicle) → items (rows ++ c) ≡ items c ++ items rows
items_on [] c = sym (append-nil (items c))
items_on (row ∷ rows) c = ap (λ l. l ++ items_at row) (items_on rows c) ∙ append_assoc (items c) (items rows) (items_at row)

sent_on : (rows c : Chronicle) → sent_in (rows ++ c) ≡ sent_in c ++ sent_in rows
sent_on [] c = sym (append-nil (sent_in c))
sent_on (row ∷ rows) c = ap (λ l. l ++ frame_sent row.1) (sent_on rows c) ∙ append_assoc (sent_in c) (sent_in rows) (frame_sent row.1)

module _ {A : Type 0} (c rows : Chronicle) (outs : List (ℕ × Out A)) (t : effects.Tells c (rows ++ c) [] outs) where
  rows_told : items rows ≡ flat_map items_at (happenings outs)
  rows_told = append_cancel_left (items c) (items rows) (flat_map items_at (happenings outs)) (sym (items_on rows c) ∙ t.told ∙ ap (λ l. items c ++ flat_map items_at l) (sym t.outs))

  rows_sent : sent_in rows ≡ frames_in (happenings outs)
  rows_sent = append_cancel_left (sent_in c) (sent_in rows) (frames_in (happenings outs)) (sym (sent_on rows c) ∙ Tells-frames c (rows ++ c) [] outs t ∙ ap (λ l. sent_in c ++ frames_in l) (sym t.outs))

-- ---- the reports

reports_with : (node : ℕ) (rows : Chronicle) (log : Log) → reports (adding node rows log) ≡ reports log ++ map (at_node node) (items rows)
reports_with node [] log = sym (append-nil (reports log))
reports_with node (row ∷ rows) log =
    ap (λ l. l ++ node_reports node row) (reports_with node rows log)
    ∙ (append_assoc (reports log) (map (at_node node) (items rows)) (node_reports node row)
    ∙ ap (λ l. reports log ++ l) (sym (map-append (at_node node) (items rows) (items_at row))))

reports_told : (node : ℕ) (told : List (ℕ × Happening)) → map (at_node node) (flat_map items_at told) ≡ flat_map (node_reports node) told
reports_told node [] = refl
reports_told node (row ∷ told) = map-append (at_node node) (items_at row) (flat_map items_at told) ∙ ap (λ l. node_reports node row ++ l) (reports_told node told)

-- what a node reports with its rows is what the link reports of them
pub reports_of_rows : {A : Type 0} (node : ℕ) (c rows : Chronicle) (outs : List (ℕ × Out A)) (log : Log) → effects.Tells c (rows ++ c) [] outs
    → reports (adding node rows log) ≡ reports log ++ flat_map (node_reports node) (happenings outs)
reports_of_rows node c rows outs log t =
    reports_with node rows log ∙ ap (λ l. reports log ++ l) (ap (map (at_node node)) (rows_told c rows outs t) ∙ reports_told node (happenings outs))

-- ---- the frames

frames_with : (node : ℕ) (rows : Chronicle) (log : Log) → frames (adding node rows log) ≡ frames log ++ of_sender node (sent_in rows)
frames_with node [] log = sym (append-nil (frames log))
frames_with node (row ∷ rows) log =
    ap (λ l. l ++ of_sender node (frame_sent row.1)) (frames_with node rows log)
    ∙ (append_assoc (frames log) (of_sender node (sent_in rows)) (of_sender node (frame_sent row.1))
    ∙ ap (λ l. frames log ++ l) (sym (map-append (λ frame. (node, frame)) (sent_in rows) (frame_sent row.1))))

-- and the frames among it are those that were sent
pub frames_of_rows : {A : Type 0} (node : ℕ) (c rows : Chronicle) (outs : List (ℕ × Out A)) (log : Log) → effects.Tells c (rows ++ c) [] outs
    → frames (adding node rows log) ≡ frames log ++ of_sender node (frames_in (happenings outs))
frames_of_rows node c rows outs log t = frames_with node rows log ∙ ap (λ l. frames log ++ of_sender node l) (rows_sent c rows outs t)

-- nothing is reported of nothing
pub none_told : {A B : Type 0} (told : List (LinkTold B)) (node : ℕ) (outs : List (ℕ × Out A)) → outs ≡ [] → TellsReports told told (flat_map (node_reports node) (happenings outs))
none_told told node outs e = record { newer = []; reports_are = sym (ap (λ o. flat_map (node_reports node) (happenings o)) e); all = sym (append-nil told) }

-- ---- the text

rows_lines : (node : ℕ) (told : List (ℕ × Happening)) → flat_map (node_lines node) told ≡ flat_map report_line (flat_map (node_reports node) told)
rows_lines node [] = refl
rows_lines node (row ∷ told) =
    ap (λ l. l ++ flat_map (node_lines node) told) (entry_lines (Adds node row.0 row.1))
    ∙ (ap (λ l. flat_map report_line (node_reports node row) ++ l) (rows_lines node told) ∙ sym (flat_map-append report_line (node_reports node row) (flat_map (node_reports node) told)))

lines_told : {A : Type 0} (told : LinkTold A) → told_lines told ≡ flat_map report_line (told_reports told)
lines_told (Node node outs) = rows_lines node (happenings outs.items)
lines_told (Refused at why) = entry_lines (Refuses at (refusal_of why))

text_told : {A : Type 0} (told : List (LinkTold A)) → told_text told ≡ flat_map report_line (flat_map told_reports told)
text_told [] = refl
text_told (one ∷ told) =
    ap (λ l. l ++ told_text told) (lines_told one)
    ∙ (ap (λ l. flat_map report_line (told_reports one) ++ l) (text_told told) ∙ sym (flat_map-append report_line (told_reports one) (flat_map told_reports told)))

-- what is reported more has the text of the one log more than of the other
pub tells_text : {A : Type 0} (log d : Log) (x y : List (LinkTold A)) → (t : Tells log d x y) → text d ≡ text log ++ told_text t.newer
tells_text log d x y t =
    text_of_reports d
    ∙ (ap (flat_map report_line) t.told
    ∙ (flat_map-append report_line (reports log) (flat_map told_reports t.newer)
    ∙ (ap (λ l. l ++ flat_map report_line (flat_map told_reports t.newer)) (sym (text_of_reports log)) ∙ ap (λ l. text log ++ l) (sym (text_told t.newer)))))
