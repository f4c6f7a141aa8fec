use Rattle.std.proofs.Common.{◌≡◌, ◌+◌, ◌*◌, ◌<◌, get_or, refl, arith}
use Rattle.nd_addr.proofs.MacTexts.{next_pair, mac_spelled, mac_one}
use Rattle.nd_addr.proofs.mac.Mac.parse.Goals.{else-i-lt5-via-then-i-lt5+else-text-i-ne58, else-i-lt5-via-else-i-lt5}
use Rattle.nd_addr.proofs.mac.Mac.parse.Goals as goal

pub loop-i-init : goal.loop-i-init
loop-i-init c = record { six = refl; pairs = λ k lt. absurd (omega arith); colons = λ k lt five. absurd (omega arith) }

pub loop-i-preserved : goal.loop-i-preserved
loop-i-preserved c =
    let colon : c.loop-i.i < 5 → get_or c.args.text.now (3 * c.loop-i.i + 2) 0 ≡ 58 =
    elim c.else-i-lt5.branch [
      | else-i-lt5-via-then-i-lt5+else-text-i-ne58 w ↦ λ lt. w.if-text-i-ne58.false
      | else-i-lt5-via-else-i-lt5 w ↦ λ lt. absurd (omega arith)
    ] in
    next_pair c.args.text.now c.loop-i.bytes c.loop-i.i c.in-Some.byte c.loop-i.invariant c.loop-i-test.true colon (record { high = c.in-Some.ensures.0.0; low = c.in-Some.ensures.0.1; value = c.in-Some.ensures.1 })

pub returns-clause-found : goal.returns-clause-found
returns-clause-found c = mac_spelled c.args.text.now c.loop-i.bytes c.loop-i.i c.loop-i.invariant c.loop-i-test.false c.if-text-ne17.false

pub returns-clause-only : goal.returns-clause-only
returns-clause-only c = λ bytes s. mac_one c.args.text.now c.loop-i.bytes bytes c.loop-i.i c.loop-i.invariant c.loop-i-test.false s
