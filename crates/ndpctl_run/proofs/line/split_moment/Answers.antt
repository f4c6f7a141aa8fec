use Rattle.std.proofs.Common.{rules, ◌<◌, ◌^◌, arith}
use Rattle.ndpctl_run.proofs.Lines.{earlier, wider}
use Rattle.ndpctl_run.proofs.line.split_moment.Goals as goal

pub returns-in_err-at-clause-only : goal.returns-in_err-at-clause-only
returns-in_err-at-clause-only c = λ at rest p. absurd (c.in_err-at.ensures.only at rest (wider c.args.line.now at _ p))

pub returns-then-at-ge-MOMENTS-clause-only : goal.returns-then-at-ge-MOMENTS-clause-only
returns-then-at-ge-MOMENTS-clause-only c = λ at rest p.
    let same = c.in_ok-at.ensures.only at rest (wider c.args.line.now at _ p) in
    omega (arith, p.first.0, same.0)

pub returns-clause-found : goal.returns-clause-found
returns-clause-found c =
    let early : c.in_ok-at.at < 2 ^ 62 = search rules in
    earlier c.args.line.now c.in_ok-at.at _ early c.in_ok-at.ensures.found

pub returns-clause-only : goal.returns-clause-only
returns-clause-only c = λ at rest p. c.in_ok-at.ensures.only at rest (wider c.args.line.now at _ p)
