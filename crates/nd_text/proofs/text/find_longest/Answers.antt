use Rattle.std.proofs.Common.{◌≡◌, ◌+◌, drop, arith}
use Rattle.nd_text.specs.Text.{longest_run}
use Rattle.nd_text.proofs.LongestRun.{none_yet, front_below, next_front, takes_front, keeps_later}
use Rattle.nd_text.proofs.text.find_longest.Goals as goal

pub loop-i-init : goal.loop-i-init
loop-i-init c = none_yet c.args.groups.now c.told-groups

pub zeros_from-front-requires : goal.zeros_from-front-requires
zeros_from-front-requires c = front_below _ _ _ _ _ c.loop-i-test.true (omega arith) c.loop-i.auto.i c.loop-i.invariant

pub loop-i-preserved-then-best-front : goal.loop-i-preserved-then-best-front
loop-i-preserved-then-best-front c =
    let front = next_front _ _ _ _ _ _ c.loop-i-test.true (omega arith) c.loop-i.invariant c.zeros_from-front.ensures in
    takes_front _ _ _ _ _ _ c.loop-i-test.true (omega arith) c.loop-i.invariant front c.if-best-front.true

pub loop-i-preserved : goal.loop-i-preserved
loop-i-preserved c =
    let front = next_front _ _ _ _ _ _ c.loop-i-test.true (omega arith) c.loop-i.invariant c.zeros_from-front.ensures in
    keeps_later _ _ _ _ _ _ c.loop-i-test.true (omega arith) c.loop-i.invariant front c.if-best-front.false

pub returns-clause-start : goal.returns-clause-start
returns-clause-start c =
    let all : c.loop-i.i ≡ 0 = omega arith in
    let start : c.loop-i.best.start ≡ 0 + (longest_run (drop 0 c.args.groups.now)).start = rw all at c.loop-i.invariant.start_is in
    omega (arith, start)

pub returns-clause-len : goal.returns-clause-len
returns-clause-len c = let all : c.loop-i.i ≡ 0 = omega arith in rw all at c.loop-i.invariant.len_is
