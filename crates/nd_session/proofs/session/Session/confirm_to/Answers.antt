use Rattle.std.proofs.Common.{◌∙◌, None, Some, arith, inr, sym}
use Rattle.nd_session.proofs.Behind.{anyhow}
use Rattle.nd_session.proofs.Confirming.{confirmed_where, confirms_then, ready_then}
use Rattle.nd_session.proofs.Idling.{passing_adds, time_passes}
use Rattle.nd_session.proofs.Remembered.{recalled_in_lease, recalled_left, recalled_settled, recalled_state}
use Rattle.nd_session.proofs.session.Session.confirm_to.Goals as goal

-- ---- in a lease

pub confirm-requires-clause-settled : goal.confirm-requires-clause-settled
confirm-requires-clause-settled c =
    recalled_settled c.args.self.now.paths c.args.self.now.node c.args.now c.args.destination c.in-Some.path c.args.self.now.remembered c.in-Some.ensures

pub pass-requires : goal.pass-requires
pass-requires c = record {
  settled = recalled_settled c.args.self.now.paths c.args.self.now.node c.args.now c.args.destination c.in-Some.path c.args.self.now.remembered c.in-Some.ensures;
}

pub is_confirmed_in-requires : goal.is_confirmed_in-requires
is_confirmed_in-requires c =
    let lease = recalled_in_lease c.args.self.now.paths c.args.self.now.node c.args.now c.args.destination c.in-Some.path c.args.self.now.remembered c.in-Some.ensures in record {
      in_lease = lease.holds;
      state_is = recalled_state c.args.self.now.paths c.args.self.now.node c.args.now c.args.destination c.in-Some.path c.args.self.now.remembered c.in-Some.ensures;
      left_is = recalled_left c.args.self.now.paths c.args.self.now.node c.args.now c.args.destination c.in-Some.path c.args.self.now.remembered c.in-Some.ensures ∙ sym c.left_at-left.ensures;
    }

pub returns-then-is_confirmed_in-clause-confirms : goal.returns-then-is_confirmed_in-clause-confirms
returns-then-is_confirmed_in-clause-confirms c =
    let settled = recalled_settled c.args.self.now.paths c.args.self.now.node c.args.now c.args.destination c.in-Some.path c.args.self.now.remembered c.in-Some.ensures in
    rw c.confirm.ensures.taken (record {
      past = λ lt. absurd (omega (arith, lt, c.if-is_past.ensures));
      taken = λ le. (
        c.in-Some.path.to,
        confirms_then c.args.self.now c.args.self.now c.confirm.new.self c.args.now (Some c.in-Some.path.to) le (time_passes c.args.self.now.node c.args.self.now.reports.items c.args.now settled)
            (c.confirm.ensures.adds c.args.self.now.reports.items) c.confirm.ensures.reports c.args.destination c.args.least
            (λ start c' s last. confirmed_where start c' c.args.now c.args.destination c.args.least _ _ _ _ (recalled_in_lease c.args.self.now.paths c.args.self.now.node c.args.now c.args.destination c.in-Some.path c.args.self.now.remembered c.in-Some.ensures).to_is c.if-is_confirmed_in.true (c.is_confirmed_in.ensures start c' s last)),
      );
    })

pub returns-then-is_confirmed_in-clause-ready : goal.returns-then-is_confirmed_in-clause-ready
returns-then-is_confirmed_in-clause-ready c = λ start c' s ready.
    let settled = recalled_settled c.args.self.now.paths c.args.self.now.node c.args.now c.args.destination c.in-Some.path c.args.self.now.remembered c.in-Some.ensures in
    ready_then c.args.self.now c.args.self.now c.confirm.new.self c.args.now (Some c.in-Some.path.to) c.if-is_past.ensures (time_passes c.args.self.now.node c.args.self.now.reports.items c.args.now settled)
    (c.confirm.ensures.adds c.args.self.now.reports.items) c.confirm.ensures.reports c.confirm.ensures.room start c' s ready

pub returns-in-Some-clause-confirms : goal.returns-in-Some-clause-confirms
returns-in-Some-clause-confirms c =
    let settled = recalled_settled c.args.self.now.paths c.args.self.now.node c.args.now c.args.destination c.in-Some.path c.args.self.now.remembered c.in-Some.ensures in
    rw c.pass.ensures.unneeded (record {
      past = λ lt. absurd (omega (arith, lt, c.if-is_past.ensures));
      taken = λ le.
          confirms_then c.args.self.now c.args.self.now c.pass.new.self c.args.now None le (time_passes c.args.self.now.node c.args.self.now.reports.items c.args.now settled)
          (passing_adds c.args.self.now.node c.pass.new.self.node c.args.self.now.reports.items c.args.now c.pass.ensures.passes) c.pass.ensures.reports c.args.destination c.args.least
          (λ start c' s last. confirmed_where start c' c.args.now c.args.destination c.args.least _ _ _ _ (recalled_in_lease c.args.self.now.paths c.args.self.now.node c.args.now c.args.destination c.in-Some.path c.args.self.now.remembered c.in-Some.ensures).to_is c.if-is_confirmed_in.false (c.is_confirmed_in.ensures start c' s last));
    })

pub returns-in-Some-clause-ready : goal.returns-in-Some-clause-ready
returns-in-Some-clause-ready c = λ start c' s ready.
    let settled = recalled_settled c.args.self.now.paths c.args.self.now.node c.args.now c.args.destination c.in-Some.path c.args.self.now.remembered c.in-Some.ensures in
    ready_then c.args.self.now c.args.self.now c.pass.new.self c.args.now None c.if-is_past.ensures (time_passes c.args.self.now.node c.args.self.now.reports.items c.args.now settled)
    (passing_adds c.args.self.now.node c.pass.new.self.node c.args.self.now.reports.items c.args.now c.pass.ensures.passes) c.pass.ensures.reports c.pass.ensures.room start c' s ready

-- ---- else

pub returns-in-Some-confirmed_by-clause-confirms : goal.returns-in-Some-confirmed_by-clause-confirms
returns-in-Some-confirmed_by-clause-confirms c = rw c.confirm-in-Some-confirmed_by.ensures.taken (record {
  past = λ lt. absurd (omega (arith, lt, c.if-is_past.ensures));
  taken = λ le. (
    c.in-Some-confirmed_by.neighbour,
    confirms_then c.args.self.now c.settle.new.self c.confirm-in-Some-confirmed_by.new.self c.args.now (Some c.in-Some-confirmed_by.neighbour) le c.in_ok-settle.ensures.passes
        (c.confirm-in-Some-confirmed_by.ensures.adds c.settle.new.self.reports.items) c.confirm-in-Some-confirmed_by.ensures.reports c.args.destination c.args.least c.in-Some-confirmed_by.ensures,
  );
})

pub returns-in-Some-confirmed_by-clause-ready : goal.returns-in-Some-confirmed_by-clause-ready
returns-in-Some-confirmed_by-clause-ready c = λ start c' s ready.
    ready_then c.args.self.now c.settle.new.self c.confirm-in-Some-confirmed_by.new.self c.args.now (Some c.in-Some-confirmed_by.neighbour) c.if-is_past.ensures c.in_ok-settle.ensures.passes
    (c.confirm-in-Some-confirmed_by.ensures.adds c.settle.new.self.reports.items) c.confirm-in-Some-confirmed_by.ensures.reports c.confirm-in-Some-confirmed_by.ensures.room start c' s (c.in_ok-settle.ensures.ready ready)

pub returns-in-None-clause-confirms : goal.returns-in-None-clause-confirms
returns-in-None-clause-confirms c = rw c.pass-in-None.ensures.unneeded (record {
  past = λ lt. absurd (omega (arith, lt, c.if-is_past.ensures));
  taken = λ le.
      confirms_then c.args.self.now c.settle.new.self c.pass-in-None.new.self c.args.now None le c.in_ok-settle.ensures.passes
      (passing_adds c.settle.new.self.node c.pass-in-None.new.self.node c.settle.new.self.reports.items c.args.now c.pass-in-None.ensures.passes) c.pass-in-None.ensures.reports c.args.destination c.args.least c.in-None.ensures;
})

pub returns-in-None-clause-ready : goal.returns-in-None-clause-ready
returns-in-None-clause-ready c = λ start c' s ready.
    ready_then c.args.self.now c.settle.new.self c.pass-in-None.new.self c.args.now None c.if-is_past.ensures c.in_ok-settle.ensures.passes
    (passing_adds c.settle.new.self.node c.pass-in-None.new.self.node c.settle.new.self.reports.items c.args.now c.pass-in-None.ensures.passes) c.pass-in-None.ensures.reports c.pass-in-None.ensures.room start c' s (c.in_ok-settle.ensures.ready ready)

pub returns-in_err-settle-clause-advances : goal.returns-in_err-settle-clause-advances
returns-in_err-settle-clause-advances c = anyhow c.from_residual.result (λ ready empty. inr (c.in_err-settle.ensures.advances ready empty))
