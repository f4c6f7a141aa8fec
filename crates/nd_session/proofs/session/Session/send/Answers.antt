use Rattle.std.proofs.Common.{◌≤◌, ◌++◌, sym, ap, subst, ⊎_elim, inr}
use Rattle.std.specs.Prelude.{reverse}
use Rattle.std.proofs.lemmas.Bool.{cases_lt}
use Rattle.std.proofs.lemmas.Result.{IfOk-weaker}
use Rattle.nd_chronicle.specs.Event as events
use Rattle.nd_node.specs.Answer.{answer_of}
use Rattle.nd_node.specs.Node.{last_of}
use Rattle.nd_node.specs.Time.{Leads, Onward, Passes}
use Rattle.nd_random.specs.Source.{stream_of_source}
use Rattle.nd_session.specs.Ready.{IsReady}
use Rattle.nd_session.specs.declared.session.Session.{Session}
use Rattle.nd_session.proofs.Behind.{advanced_on_err, anyhow, event_taken}
use Rattle.nd_session.proofs.Keeping.{event_ready}
use Rattle.nd_session.proofs.Remembered.{remembers_nothing}
use Rattle.nd_session.proofs.session.Session.send.Goals as goal

pub returns-clause-takes : goal.returns-clause-takes
returns-clause-takes c =
    let event = events.Sends c.args.source c.args.destination c.args.next_header c.args.payload.now in record {
      past = λ lt. absurd (let is = c.past.ensures.past lt in let none = c.in_default.is in let no : ⊥ = cc in no);
      taken = λ le.
          event_taken stream_of_source c.args.self.now.node c.settle.new.self.node c.send_packet.new.self c.args.self.now.reports.items c.settle.new.self.reports.items
          c.send_packet.new.outs.items c.args.now event c.send_packet.result le
          c.in_ok-settle.ensures.onward
          c.in_ok-settle.ensures.passes
          c.send_packet.ensures.adds
          c.send_packet.ensures.stays c.send_packet.ensures.told;
    }

pub returns-clause-ready : goal.returns-clause-ready
returns-clause-ready c = λ start history s ready.
    let event = events.Sends c.args.source c.args.destination c.args.next_header c.args.payload.now in
    let le : last_of c.args.self.now.node ≤ c.args.now =
    ⊎_elim (λ lt. absurd (let is = c.past.ensures.past lt in let none = c.in_default.is in let no : ⊥ = cc in no)) (λ le. le) (cases_lt c.args.now (last_of c.args.self.now.node)) in
    event_ready stream_of_source c.args.self.now.node c.settle.new.self.node c.send_packet.new.self c.args.self.now.reports.items c.settle.new.self.reports.items
    c.send_packet.new.outs.items c.args.now event c.send_packet.result c.settle.new.self.room le
    c.in_ok-settle.ensures.passes
    c.send_packet.ensures.adds
    c.send_packet.ensures.stays c.send_packet.ensures.told
    start history s (c.in_ok-settle.ensures.ready ready)

pub returns-clause-advances : goal.returns-clause-advances
returns-clause-advances c =
    advanced_on_err stream_of_source c.args.self.now.node c.settle.new.self.node c.send_packet.new.self c.args.self.now.reports.items c.settle.new.self.reports.items c.send_packet.new.outs.items c.args.now _ _ _ c.send_packet.result
    c.in_ok-settle.ensures.passes
    c.send_packet.ensures.stays c.send_packet.ensures.told

pub returns-in_err-settle-clause-advances : goal.returns-in_err-settle-clause-advances
returns-in_err-settle-clause-advances c = anyhow c.from_residual.result (λ ready empty. inr (c.in_err-settle.ensures.advances ready empty))

pub invariant_of-self : goal.invariant_of-self
invariant_of-self c = record { remembered = remembers_nothing c.forget.new.self c.send_packet.new.self c.forget.ensures.forgotten }
