-- How the tool exits.
use Rattle.std.specs.Prelude.{ℕ}
use Rattle.nd_lines.specs.declared.tool_fault.ToolFault.{ToolFault}
use Rattle.nd_lines.specs.declared.tool_fault.ToolFault.TheVariants.{Line, Memory, Read, Write, Wire}

-- the status of a fault
abbrev pub status_of : ToolFault → ℕ
status_of (Line n) = 2
status_of Memory = 3
status_of Read = 4
status_of Write = 4
status_of Wire = 4
