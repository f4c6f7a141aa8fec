-- How a session lets time pass, by what its node says.
use Rattle.std.specs.Prelude.{Bool, false, Result, Ok, Err}
use Rattle.std.specs.declared.alloc.AllocError.{AllocError}

-- what was due has been done, and has left the paths
abbrev pub leaves_paths : Result Bool AllocError → Bool
leaves_paths (Ok leaves) = leaves
leaves_paths (Err error) = false

-- what was due has been done
abbrev pub done : Result Bool AllocError → Result (Unit {0}) AllocError
done (Ok leaves) = Ok tt
done (Err error) = Err error
