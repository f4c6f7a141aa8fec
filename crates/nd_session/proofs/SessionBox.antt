-- A session's box on the heap, as the steps of the library's proofs about boxes take it.
use mathlib.Core.Path.{refl}
use mathlib.Core.List.{[], ◌∷◌}
use mir.Syntax.{Dict, impl, tnil, tcons, dnil}
use mir.Raw.{raw}
use denote.Exit.{no}
use denote.Param.{layout, arg}
use denote.Param.Laws.{arg_laws}
use denote.RattleType.{RattleType}
use denote.Signature.{Slot, plain}
use Rattle.std.proofs.BoxSteps.Form.{Bx}
use Rattle.std.specs.contracts.boxed.Box as Box
use Rattle.std.specs.contracts.alloc.Global as Heap
use Rattle.std.specs.contracts.prelude.GlobalAllocator.TheImpl.{ghosts, dict}
use Rattle.std.proofs.alloc.Global.TheLaws as heap
use Rattle.std.proofs.boxed.Box.TheLaws as box_laws
use Rattle.nd_session.specs.contracts.session.Session as Session
use Rattle.nd_session.specs.contracts.handle.Handle as Handle
use Rattle.nd_session.proofs.session.Session.TheLaws as session
use Rattle.nd_session.proofs.Destruct++none.drop.Symbol as none_sym

-- a session and the heap, as a call passes them for type parameters
abbrev pub a_session : RattleType
a_session = arg (raw (layout Session.the_row)) no Session.the_row

abbrev pub an_allocator : RattleType
an_allocator = arg (raw (layout Heap.the_row)) no Heap.the_row

-- how the allocator is let go, which needs nothing done
abbrev pub none : Dict
none = impl (none_sym.symbol ∷ []) (tcons (layout an_allocator) tnil) dnil

abbrev pub E : Bx
E = record {
  row = a_session;
  laws = arg_laws (raw (layout Session.the_row)) no Session.the_row session.the_row_laws refl;
  al = record { row = an_allocator; laws = arg_laws (raw (layout Heap.the_row)) no Heap.the_row heap.the_row_laws refl; g = ghosts; d = dict; drops = none };
}

-- such a box as what is in a box: so the steps say that one machine value is owned of it
abbrev pub a_box : RattleType
a_box = Box.the_row Session.the_row Heap.the_row ghosts

abbrev pub In : Bx
In = record { row = a_box; laws = box_laws.the_row_laws Session.the_row Heap.the_row ghosts session.the_row_laws heap.the_row_laws; al = E.al }

-- the parameters of a handle's functions
abbrev pub handle : Slot 0
handle = plain (λ _. Handle.the_row)

abbrev pub allocator : Slot 0
allocator = plain (λ _. Heap.the_row)

abbrev pub box : Slot 0
box = plain (λ _. a_box)
