use Rattle.std.proofs.Common.{arith}
use Rattle.nd_session.proofs.Idling.{answered_at_once, ready_later, time_passes}
use Rattle.nd_session.proofs.session.Session.resolve.Goals as goal

pub returns-in-Some-clause-resolves : goal.returns-in-Some-clause-resolves
returns-in-Some-clause-resolves c =
    let answered = c.answer_within.ensures.answered in record {
      past = λ lt. absurd (omega (arith, lt, c.if-is_past.ensures));
      resolved = λ le.
          answered_at_once c.args.self.now c.args.self.now c.answer_within.new.self c.args.now c.args.destination c.answer_within.result le
          (time_passes c.args.self.now.node c.args.self.now.reports.items c.args.now answered.settled) answered;
    }

pub returns-in-Some-clause-ready : goal.returns-in-Some-clause-ready
returns-in-Some-clause-ready c = λ start c' s ready.
    ready_later c.args.self.now c.answer_within.new.self c.args.now c.answer_within.ensures.clock c.answer_within.ensures.answered.reports c.answer_within.ensures.room ready
