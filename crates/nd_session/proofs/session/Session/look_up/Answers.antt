use Rattle.std.proofs.Common.{inl}
use Rattle.nd_chronicle.specs.Event as events
use Rattle.nd_node.specs.NodeKept.{Stands}
use Rattle.nd_node.specs.Resolve.{with_answer}
use Rattle.nd_node.specs.Time.{Leads, Passes}
use Rattle.nd_node.proofs.Steps.{follows}
use Rattle.nd_random.specs.Source.{stream_of_source}
use Rattle.nd_session.specs.Ready.{IsReady}
use Rattle.nd_session.specs.declared.session.Session.{Session}
use Rattle.nd_session.proofs.Behind.{advanced, anyhow}
use Rattle.nd_session.proofs.Idling.{answered_at_once, leads_on, passed_stands, ready_later, ready_on}
use Rattle.nd_session.proofs.Keeping.{nothing_ready, path_ready}
use Rattle.nd_session.proofs.Remembered.{remembers_nothing}
use Rattle.nd_session.proofs.session.Session.look_up.Goals as goal

pub returns-in-Some-clause-resolved : goal.returns-in-Some-clause-resolved
returns-in-Some-clause-resolved c =
    answered_at_once c.args.self.now c.remember.new.self c.answer_within.new.self c.args.now c.args.destination c.answer_within.result c.requires.in_time
    (leads_on c.args.self.now c.settled_path.new.self c.remember.new.self c.remember.ensures.node c.remember.ensures.reports c.in_ok-timed.ensures.passes) c.answer_within.ensures.answered

pub returns-in-Some-clause-ready : goal.returns-in-Some-clause-ready
returns-in-Some-clause-ready c = λ start c' s is.
    ready_later c.remember.new.self c.answer_within.new.self c.args.now c.answer_within.ensures.clock c.answer_within.ensures.answered.reports c.answer_within.ensures.room
    (ready_on c.settled_path.new.self c.remember.new.self c.remember.ensures.node c.remember.ensures.reports c.remember.ensures.room (c.in_ok-timed.ensures.ready is))

pub invariant_of-self : goal.invariant_of-self
invariant_of-self c = record { remembered = remembers_nothing c.forget.new.self c.answer_path.new.self c.forget.ensures.forgotten }

pub returns-in_err-resolution-clause-ready : goal.returns-in_err-resolution-clause-ready
returns-in_err-resolution-clause-ready c = λ start history s is.
    nothing_ready stream_of_source c.args.self.now.node c.remember.new.self.node c.answer_path.new.self c.args.self.now.reports.items c.remember.new.self.reports.items
    c.answer_path.new.outs.items c.args.now c.remember.new.self.room
    (leads_on c.args.self.now c.settled_path.new.self c.remember.new.self c.remember.ensures.node c.remember.ensures.reports c.in_ok-timed.ensures.passes)
    c.in_err-resolution.ensures.stays c.in_err-resolution.ensures.told
    start history s (ready_on c.settled_path.new.self c.remember.new.self c.remember.ensures.node c.remember.ensures.reports c.remember.ensures.room (c.in_ok-timed.ensures.ready is))

pub returns-in_err-resolution-clause-advances : goal.returns-in_err-resolution-clause-advances
returns-in_err-resolution-clause-advances c = anyhow c.from_residual-in_err-resolution.result (λ ready empty.
    inl (advanced stream_of_source c.args.self.now.node c.remember.new.self.node c.answer_path.new.self c.args.self.now.reports.items c.remember.new.self.reports.items c.answer_path.new.outs.items c.args.now
    (leads_on c.args.self.now c.settled_path.new.self c.remember.new.self c.remember.ensures.node c.remember.ensures.reports c.in_ok-timed.ensures.passes)
    c.in_err-resolution.ensures.stays c.in_err-resolution.ensures.told))

pub returns-clause-resolved : goal.returns-clause-resolved
returns-clause-resolved c =
    let resolution = c.in_ok-resolution.resolution in
    let after = c.answer_path.new.outs.items in record {
      resolution = resolution;
      is = c.with_lease.ensures.answer;
      leads = rw (c.with_lease.ensures.node, c.with_lease.ensures.reports)
          (follows stream_of_source c.args.self.now.node c.remember.new.self.node c.answer_path.new.self c.args.self.now.reports.items c.remember.new.self.reports.items
          (with_answer after c.args.now c.args.destination resolution) c.args.now (events.Resolves c.args.destination) c.requires.in_time
          (leads_on c.args.self.now c.settled_path.new.self c.remember.new.self c.remember.ensures.node c.remember.ensures.reports c.in_ok-timed.ensures.passes)
          c.in_ok-resolution.ensures.adds);
      lease = c.with_lease.ensures.lease;
      goes = λ start history s.
          let mid = c.remember.new.self in
          let d = passed_stands c.args.self.now.node mid.node c.args.self.now.reports.items mid.reports.items c.args.now c.requires.in_time
          (leads_on c.args.self.now c.settled_path.new.self mid c.remember.ensures.node c.remember.ensures.reports c.in_ok-timed.ensures.passes) start history s in
          c.with_lease.ensures.goes (c.in_ok-resolution.ensures.way start d.0 d.1 d.2);
    }

pub returns-clause-ready : goal.returns-clause-ready
returns-clause-ready c = λ start history s is.
    let ready = path_ready stream_of_source c.args.self.now.node c.remember.new.self.node c.answer_path.new.self c.args.self.now.reports.items c.remember.new.self.reports.items
    c.answer_path.new.outs.items c.args.now c.args.destination c.in_ok-resolution.resolution c.remember.new.self.room c.requires.in_time
    (leads_on c.args.self.now c.settled_path.new.self c.remember.new.self c.remember.ensures.node c.remember.ensures.reports c.in_ok-timed.ensures.passes)
    c.in_ok-resolution.ensures.adds
    start history s (ready_on c.settled_path.new.self c.remember.new.self c.remember.ensures.node c.remember.ensures.reports c.remember.ensures.room (c.in_ok-timed.ensures.ready is)) in
    rw (c.with_lease.ensures.node, c.with_lease.ensures.reports, c.with_lease.ensures.room) ready
