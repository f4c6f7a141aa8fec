use mir.Raw.{raw}
use base.Fraction.{full_share}
use base.Shift.{Keyless}
use denote.Exit.{Exit, unchanged, leaves, hidden, under}
use denote.RattleType.{RattleType}
use denote.Memory.{lone}
use denote.RawPtr.{Ptr, block_ptr, null_ptr, lies_at}
use denote.Struct.Struct.{exits_of}
use denote.Struct.Owning.{shape, fields, to}
use denote.Param.Send.{IsSend, AllSend, Quiet, part_keyless, owning_send, struct_send, sendable}
use Rattle.std.specs.Prelude.{Option, Some, None}
use Rattle.std.proofs.Crossing as heap
use Rattle.nd_session.specs.Held.{held}
use Rattle.nd_session.specs.contracts.session.Session as Session
use Rattle.nd_session.proofs.session.Session.TheSendSync.{the_send as session}
use Rattle.nd_session.specs.contracts.handle.Handle.{the_row, the_type}

quiet : {D X : Type 0} (to : D → X) (e : Exit X) → Quiet e → Quiet (hidden (under to e))
quiet to unchanged q = λ x w. tt
quiet to (leaves L l S s r₀) q = λ d. q (to d)

lies : (R : RattleType) → IsSend R → (p : Ptr) (x : R.Denot) → Keyless (lies_at R full_share p x)
lies R s (block_ptr b o) x = part_keyless R s full_share x b o
lies R s null_ptr x = tt

keyless : (p : Ptr) (o : Option Session.the_row.Denot) → Keyless (held p o)
unfolding held
keyless p None = tt
keyless p (Some s) = (lies Session.the_row session p s, heap.frees.frees (record { memory = record { seal = tt } }) (raw (lone Session.the_row.mir)) p)

pub send : IsSend the_row
send =
    let all : AllSend (fields the_type) = (search sendable, tt) in
    owning_send the_type all (λ d. keyless d.at d.session) (λ k. quiet (to the_type) (exits_of k (fields the_type)) ((struct_send (shape the_type) all).leaving k))
