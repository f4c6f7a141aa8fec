use Rattle.std.proofs.Common.{◌≤◌, ℕ, List, ◌++◌, Some, refl, sym, ap, subst, ⊎_elim, inr}
use Rattle.std.specs.Global.{Global}
use Rattle.std.specs.Prelude.{reverse}
use Rattle.std.proofs.lemmas.Bool.{cases_lt}
use Rattle.std.proofs.lemmas.Result.{IfOk-weaker}
use Rattle.nd_chronicle.specs.Answer as answers
use Rattle.nd_chronicle.specs.Event as events
use Rattle.nd_out.specs.declared.out.Out.{Out}
use Rattle.nd_node.specs.Answer.{answer_of}
use Rattle.nd_node.specs.Event.{FollowsBy, event_of}
use Rattle.nd_node.specs.Node.{last_of}
use Rattle.nd_node.specs.Time.{Leads, Onward, Passes}
use Rattle.nd_node.proofs.Steps.{follows}
use Rattle.nd_random.specs.Source.{stream_of_source}
use Rattle.nd_session.specs.Ready.{IsReady}
use Rattle.nd_session.specs.declared.session.Session.{Session}
use Rattle.nd_session.proofs.Behind.{advanced_on_err, anyhow, event_taken}
use Rattle.nd_session.proofs.Confirming.{ready_then}
use Rattle.nd_session.proofs.Idling.{passing_adds, time_alone}
use Rattle.nd_session.proofs.Keeping.{event_ready}
use Rattle.nd_session.proofs.Lasting.{keeps_alone, one_after_another}
use Rattle.nd_session.proofs.Remembered.{remembers_later, remembers_nothing}
use Rattle.nd_session.proofs.session.Session.event.Goals as goal

pub returns-clause-takes : goal.returns-clause-takes
returns-clause-takes c =
    let event = event_of c.args.event.now in record {
      past = λ lt. absurd (let is = c.past.ensures.past lt in let none = c.in_default.is in let no : ⊥ = cc in no);
      taken = λ le.
          event_taken stream_of_source c.args.self.now.node c.settle.new.self.node c.add.new.self c.args.self.now.reports.items c.settle.new.self.reports.items
          c.add.new.outs.items c.args.now event c.add.result le
          c.in_ok-settle.ensures.onward
          c.in_ok-settle.ensures.passes
          c.add.ensures.adds
          c.add.ensures.stays c.add.ensures.told;
    }

pub returns-clause-ready : goal.returns-clause-ready
returns-clause-ready c = λ start history s ready.
    let event = event_of c.args.event.now in
    let le : last_of c.args.self.now.node ≤ c.args.now =
    ⊎_elim (λ lt. absurd (let is = c.past.ensures.past lt in let none = c.in_default.is in let no : ⊥ = cc in no)) (λ le. le) (cases_lt c.args.now (last_of c.args.self.now.node)) in
    event_ready stream_of_source c.args.self.now.node c.settle.new.self.node c.add.new.self c.args.self.now.reports.items c.settle.new.self.reports.items
    c.add.new.outs.items c.args.now event c.add.result c.settle.new.self.room le
    c.in_ok-settle.ensures.passes
    c.add.ensures.adds
    c.add.ensures.stays c.add.ensures.told
    start history s (c.in_ok-settle.ensures.ready ready)

pub returns-clause-advances : goal.returns-clause-advances
returns-clause-advances c =
    advanced_on_err stream_of_source c.args.self.now.node c.settle.new.self.node c.add.new.self c.args.self.now.reports.items c.settle.new.self.reports.items c.add.new.outs.items c.args.now _ _ _ c.add.result
    c.in_ok-settle.ensures.passes
    c.add.ensures.stays c.add.ensures.told

pub returns-in_err-settle-clause-advances : goal.returns-in_err-settle-clause-advances
returns-in_err-settle-clause-advances c = anyhow c.from_residual.result (λ ready empty. inr (c.in_err-settle.ensures.advances ready empty))

pub invariant_of-self-2 : goal.invariant_of-self-2
invariant_of-self-2 c = record { remembered = remembers_nothing c.forget.new.self c.add.new.self c.forget.ensures.forgotten }

-- ---- time passes

pub invariant_of-self : goal.invariant_of-self
invariant_of-self c = record {
  remembered = remembers_later c.settle.new.self.paths c.settle.new.self.node c.pass.new.self c.pass.new.self.last
      (time_alone c.settle.new.self.node c.pass.new.self c.args.now c.pass.ensures.moves c.pass.ensures.past) c.settle.new.self.remembered;
}

pub returns-in-Passes-clause-takes : goal.returns-in-Passes-clause-takes
returns-in-Passes-clause-takes c = rw c.in-Passes.is (record {
  past = λ lt. absurd (let is = c.past.ensures.past lt in let none = c.in_default.is in let no : ⊥ = cc in no);
  taken = λ le.
      follows stream_of_source c.args.self.now.node c.settle.new.self.node c.pass.new.self c.args.self.now.reports.items c.settle.new.self.reports.items c.settle.new.self.reports.items c.args.now events.Passes le
      c.in_ok-settle.ensures.passes (passing_adds c.settle.new.self.node c.pass.new.self c.settle.new.self.reports.items c.args.now c.pass.ensures.passes);
})

pub returns-in-Passes-clause-ready : goal.returns-in-Passes-clause-ready
returns-in-Passes-clause-ready c = λ start history s ready.
    rw (time_alone c.settle.new.self.node c.pass.new.self c.args.now c.pass.ensures.moves c.pass.ensures.past) (c.in_ok-settle.ensures.ready ready)

pub returns-in-Passes-clause-leases : goal.returns-in-Passes-clause-leases
returns-in-Passes-clause-leases c =
    one_after_another c.args.self.now c.settle.new.self _ c.in_ok-settle.ensures.leases
    (keeps_alone c.settle.new.self _ c.pass.new.self.last refl (time_alone c.settle.new.self.node c.pass.new.self c.args.now c.pass.ensures.moves c.pass.ensures.past))

-- ---- a neighbour is confirmed

pub returns-in-Confirms-clause-takes : goal.returns-in-Confirms-clause-takes
returns-in-Confirms-clause-takes c = rw c.in-Confirms.is (record {
  past = λ lt. absurd (let is = c.past.ensures.past lt in let none = c.in_default.is in let no : ⊥ = cc in no);
  taken = λ le.
      subst (λ (q : List (ℕ × Out Global)). Leads stream_of_source c.args.self.now.node c.confirm.new.self.node c.args.self.now.reports.items q (FollowsBy c.args.now (events.Confirms c.in-Confirms.neighbour) answers.Done)) (sym c.confirm.ensures.reports)
      (follows stream_of_source c.args.self.now.node c.settle.new.self.node c.confirm.new.self.node c.args.self.now.reports.items c.settle.new.self.reports.items c.settle.new.self.reports.items c.args.now (events.Confirms c.in-Confirms.neighbour) le
      c.in_ok-settle.ensures.passes (c.confirm.ensures.adds c.settle.new.self.reports.items));
})

pub returns-in-Confirms-clause-ready : goal.returns-in-Confirms-clause-ready
returns-in-Confirms-clause-ready c = λ start history s ready.
    let le : last_of c.args.self.now.node ≤ c.args.now =
    ⊎_elim (λ lt. absurd (let is = c.past.ensures.past lt in let none = c.in_default.is in let no : ⊥ = cc in no)) (λ le. le) (cases_lt c.args.now (last_of c.args.self.now.node)) in
    ready_then c.args.self.now c.settle.new.self c.confirm.new.self c.args.now (Some c.in-Confirms.neighbour) le c.in_ok-settle.ensures.passes (c.confirm.ensures.adds c.settle.new.self.reports.items) c.confirm.ensures.reports
    c.confirm.ensures.room start history s (c.in_ok-settle.ensures.ready ready)

pub returns-in-Confirms-clause-leases : goal.returns-in-Confirms-clause-leases
returns-in-Confirms-clause-leases c = one_after_another c.args.self.now c.settle.new.self c.confirm.new.self c.in_ok-settle.ensures.leases c.confirm.ensures.leases
