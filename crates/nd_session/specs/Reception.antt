-- How a session takes a frame, by what its node says.
use Rattle.std.specs.Prelude.{Bool, true, Result, Ok, Err}
use Rattle.std.specs.declared.alloc.AllocError.{AllocError}
use Rattle.nd_node.specs.declared.answer.Answer.{Answer}
use Rattle.nd_node.specs.declared.frame.Reception.{Reception}

-- how the node took a frame
abbrev pub answer_in : Result Reception AllocError → Result Answer AllocError
answer_in (Ok reception) = Ok reception.answer
answer_in (Err error) = Err error

-- more of the node may have changed than the moment up to which time has passed
abbrev pub changes_tables : Result Reception AllocError → Bool
changes_tables (Ok reception) = reception.changes_tables
changes_tables (Err error) = true
