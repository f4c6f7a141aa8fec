-- What is reported of what happened on a link, and its text (the texts are this project's own).
use Rattle.std.specs.Prelude.{ℕ, ◌==◌, if◌then◌else◌, List, [], ◌∷◌, ◌++◌, codes, map}
use Rattle.std.specs.Fmt.{decimal}
use Rattle.nd_chronicle.specs.Happening.{Happening}
use Rattle.nd_chronicle.specs.Told.{Told, items_at, line_at, node_line, node_lines, words_of}
use Rattle.nd_link_log.specs.Log.{Entry, Log, Refusal, TooLate, NoNode, NoFrame, Own, Full, Begins, Adds, Carries, Reaches, Refuses}

abbrev pub refusal_text : Refusal → List ℕ
refusal_text (TooLate last) = codes "past " ++ decimal last
refusal_text NoNode = codes "no-node"
refusal_text NoFrame = codes "no-frame"
refusal_text Own = codes "own"
refusal_text Full = codes "full nodes"

-- the lines of one entry: those of a node begin with its number, and those of the link with its name
abbrev pub lines_of : Entry → List ℕ
lines_of (Adds node at what) = node_lines node (at, what)
lines_of (Refuses at why) = codes "link " ++ line_at at (codes "refused " ++ refusal_text why)
lines_of (Begins node start) = []
lines_of (Carries node at frame) = []
lines_of (Reaches at) = []

-- the text of it all, the oldest entry first
abbrev pub text : Log → List ℕ
text [] = []
text (entry ∷ log) = text log ++ lines_of entry

-- ---- the reports

-- one report: an item of a node, by the node's number and with its moment, or an event that the link refused
pub data Report : Type 0 where
  AtNode : (node at : ℕ) (what : Told) → Report
  AtLink : (at : ℕ) (why : Refusal) → Report

-- an item of a node
abbrev pub at_node : ℕ → ℕ × Told → Report
at_node node item = AtNode node item.0 item.1

-- what is reported of what happened at a node
abbrev pub node_reports : ℕ → ℕ × Happening → List Report
node_reports node row = map (at_node node) (items_at row)

-- of one entry
abbrev pub reports_of : Entry → List Report
reports_of (Adds node at what) = node_reports node (at, what)
reports_of (Refuses at why) = AtLink at why ∷ []
reports_of (Begins node start) = []
reports_of (Carries node at frame) = []
reports_of (Reaches at) = []

-- of it all, the oldest entry first
abbrev pub reports : Log → List Report
reports [] = []
reports (entry ∷ log) = reports log ++ reports_of entry

-- the line of a report
abbrev pub report_line : Report → List ℕ
report_line (AtNode node at what) = node_line node at (words_of what)
report_line (AtLink at why) = lines_of (Refuses at why)

-- the items of one node among them
abbrev pub items_among : ℕ → List Report → List (ℕ × Told)
items_among i [] = []
items_among i (AtNode node at what ∷ reports) = if node == i then (at, what) ∷ items_among i reports else items_among i reports
items_among i (AtLink at why ∷ reports) = items_among i reports
