-- How a run ends at a line that has no answer.
use Rattle.std.specs.Prelude.{ℕ, List, ◌++◌, Option}
use Rattle.std.specs.Io.KnownBytes.{Appends}
use Rattle.nd_lines.specs.declared.answering.Unanswered.{Unanswered}
use Rattle.nd_lines.specs.declared.answering.Unanswered.TheVariants as unanswered
use Rattle.nd_lines.specs.declared.tool_fault.ToolFault.{ToolFault}
use Rattle.nd_lines.specs.declared.tool_fault.ToolFault.TheVariants.{Line, Memory, Wire}

-- the fault of a run that ends at the line of this number
abbrev pub fault_at : ℕ → Unanswered → ToolFault
fault_at number unanswered.Malformed = Line number
fault_at number unanswered.Memory = Memory
fault_at number unanswered.Wire = Wire

-- Why the answerer stopped at a line that is not malformed: what the fault means, by what it was before the line and is after it.
pub record StopsAt {T : Type 0} (fails : T → List ℕ → T → Unanswered → Type 0) (IsMalformedLine : List ℕ → Type 0) (after : T) (why : Unanswered) (before : T) (line : List ℕ) : Type 0 where
  pub failed : fails before line after why
  pub well_formed : IsMalformedLine line → ⊥

-- The text was written, and nothing or such a beginning of the answer to the line, and so the run stopped.
abbrev pub Stopped : Option (List ℕ) → Option (List ℕ) → List ℕ → (List ℕ → Type 0) → Type 0 → Type 0
Stopped old new text IsPartOfIt stops = (part : List ℕ) × IsPartOfIt part × Appends old new (text ++ part) × stops
