-- The session in a box, if there is a box.
use Rattle.std.specs.Prelude.{Option, Some, None}
use Rattle.std.specs.Global.{Box}
use Rattle.nd_session.specs.declared.session.Session.{Session}

abbrev pub session_in : Option (Box Session) → Option Session
session_in None = None
session_in (Some b) = Some b.value
