use Rattle.std.proofs.Common.{List, ℕ, ◌∙◌, inr, subst}
use Rattle.std.specs.Prelude.{IfOk}
use Rattle.nd_chronicle.specs.Event as events
use Rattle.nd_node.specs.Answer.{answer_of}
use Rattle.nd_node.specs.EventKept.{AddsEvent}
use Rattle.nd_c_types.specs.Message.{frame_of}
use Rattle.nd_random.specs.Source.{stream_of_source}
use Rattle.nd_session.proofs.Behind.{advanced_on_err, anyhow, event_taken}
use Rattle.nd_session.proofs.Keeping.{event_ready}
use Rattle.nd_c.proofs.message.take.Goals as goal

pub returns-clause-taken : goal.returns-clause-taken
returns-clause-taken c =
    let frame = c.deref.ensures.value ∙ c.in_ok-frame.ensures in
    let old = c.args.session.now in
    let mid = c.settle.new.self in
    let new = c.hear.new.self in
    let adds = subst
    (λ (bytes : List ℕ). IfOk c.hear.result (λ answer. AddsEvent stream_of_source mid.node new.node mid.reports.items new.reports.items c.args.now (events.Receives bytes) (answer_of answer))) frame c.hear.ensures.adds in
    event_taken stream_of_source old.node mid.node new.node old.reports.items mid.reports.items new.reports.items c.args.now (events.Receives (frame_of c.args.message.now c.args.bytes.now)) c.hear.result c.requires.in_time
    c.in_ok-settle.ensures.onward c.in_ok-settle.ensures.passes adds c.hear.ensures.stays c.hear.ensures.told

pub returns-clause-ready : goal.returns-clause-ready
returns-clause-ready c = λ start history s ready.
    let old = c.args.session.now in
    let mid = c.settle.new.self in
    let new = c.hear.new.self in
    rw c.hear.ensures.room
    (event_ready stream_of_source old.node mid.node new.node old.reports.items mid.reports.items new.reports.items c.args.now (events.Receives c.deref.result.now) c.hear.result mid.room c.requires.in_time
    c.in_ok-settle.ensures.passes c.hear.ensures.adds c.hear.ensures.stays c.hear.ensures.told start history s (c.in_ok-settle.ensures.ready ready))

pub returns-clause-advances : goal.returns-clause-advances
returns-clause-advances c =
    let old = c.args.session.now in
    let mid = c.settle.new.self in
    let new = c.hear.new.self in
    advanced_on_err stream_of_source old.node mid.node new.node old.reports.items mid.reports.items new.reports.items c.args.now _ _ _ c.hear.result c.in_ok-settle.ensures.passes c.hear.ensures.stays c.hear.ensures.told

pub returns-in_err-settle-clause-advances : goal.returns-in_err-settle-clause-advances
returns-in_err-settle-clause-advances c = anyhow c.from_residual.result (λ ready empty. inr (c.in_err-settle.ensures.advances ready empty))
