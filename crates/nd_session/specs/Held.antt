-- What a handle owns.
use Rattle.std.specs.Prelude.{Option, Some, None}
use base.Fml.{Fml, ftrue}
use denote.RawPtr.{Ptr}
use Rattle.std.specs.Box.Ownership.{box_owns}
use Rattle.std.specs.contracts.prelude.GlobalAllocator.TheImpl.{ghosts}
use Rattle.nd_session.specs.declared.session.Session.{Session}
use Rattle.nd_session.specs.contracts.session.Session.{the_row}

-- the block at the pointer, with the session in it and the right to free it; without a session, nothing
unfoldable pub held : Ptr → Option Session → Fml
held at None = ftrue
held at (Some session) = box_owns (ghosts.dealloc_token (record { memory = record { seal = tt } })) the_row at session
