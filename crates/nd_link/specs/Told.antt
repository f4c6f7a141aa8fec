-- What a link reports: what happened at its nodes and what it refused, the oldest first; and its text.
use Rattle.std.specs.Prelude.{◌≡◌, ℕ, List, ◌++◌}
use Rattle.std.specs.List.{flat_map}
use Rattle.nd_chronicle.specs.Told.{node_lines}
use Rattle.nd_steps.specs.Outputs.{happenings}
use Rattle.nd_link_log.specs.Log as log
use Rattle.nd_link_log.specs.Log.{Log, Refuses}
use Rattle.nd_link_log.specs.Told.{Report, lines_of, node_reports, reports, reports_of}
use Rattle.nd_link.specs.declared.refusal.Refusal.{Refusal}
use Rattle.nd_link.specs.declared.refusal.Refusal.TheVariants as refusals
use Rattle.nd_link.specs.declared.told.Told.{Told}
use Rattle.nd_link.specs.declared.told.Told.TheVariants.{Node, Refused}

-- why the link refuses an event
abbrev pub refusal_of : Refusal → log.Refusal
refusal_of (refusals.TooLate last) = log.TooLate last
refusal_of refusals.NoNode = log.NoNode
refusal_of refusals.NoFrame = log.NoFrame
refusal_of refusals.Own = log.Own
refusal_of refusals.Full = log.Full

-- the lines of what is reported at once
abbrev pub told_lines : {A : Type 0} → Told A → List ℕ
told_lines (Node node outs) = flat_map (node_lines node) (happenings outs.items)
told_lines (Refused at why) = lines_of (Refuses at (refusal_of why))

-- the text of it all
abbrev pub told_text : {A : Type 0} → List (Told A) → List ℕ
told_text told = flat_map told_lines told

-- the same by value: what happened at a node, or which event was refused and why
abbrev pub told_reports : {A : Type 0} → Told A → List Report
told_reports (Node node outs) = flat_map (node_reports node) (happenings outs.items)
told_reports (Refused at why) = reports_of (Refuses at (refusal_of why))

-- What is reported more is what is reported of the one log more than of the other.
pub record Tells {A : Type 0} (log d : Log) (before after : List (Told A)) : Type 0 where
  pub newer : List (Told A)
  pub told : reports d ≡ reports log ++ flat_map told_reports newer
  pub all : after ≡ before ++ newer

-- these are reported
pub record TellsReports {A : Type 0} (before after : List (Told A)) (reports : List Report) : Type 0 where
  pub newer : List (Told A)
  pub reports_are : flat_map told_reports newer ≡ reports
  pub all : after ≡ before ++ newer
