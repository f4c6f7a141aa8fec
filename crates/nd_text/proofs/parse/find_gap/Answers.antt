use Rattle.std.proofs.Common.{◌≡◌, ℕ, suc, ◌-◌, arith, get_or, sym, subst}
use Rattle.nd_text.proofs.Gaps.{gap_found, no_gap, no_gap_more}
use Rattle.nd_text.proofs.parse.find_gap.Goals.{else-text-i-eq58-via-then-text-i-eq58+else-text-i-eq58-2, else-text-i-eq58-via-else-text-i-eq58}
use Rattle.nd_text.proofs.parse.find_gap.Goals as goal

pub loop-i-preserved : goal.loop-i-preserved
loop-i-preserved c =
    no_gap_more c.args.text.now c.loop-i.i c.loop-i.auto.i c.loop-i.invariant (elim c.else-text-i-eq58.branch [
      | else-text-i-eq58-via-then-text-i-eq58+else-text-i-eq58-2 w ↦ λ e f. w.if-text-i-eq58-2.false f
      | else-text-i-eq58-via-else-text-i-eq58 w ↦ λ e f. w.if-text-i-eq58.false e
    ])

pub returns-then-text-i-eq58-2-clause-place : goal.returns-then-text-i-eq58-2-clause-place
returns-then-text-i-eq58-2-clause-place c =
    let place : c.loop-i.i ≡ suc (c.loop-i.i - 1) = omega arith in
    sym (gap_found (c.loop-i.i - 1) c.args.text.now (λ k lt. c.loop-i.invariant k (omega arith)) c.if-text-i-eq58.true (subst (λ (n : ℕ). get_or c.args.text.now n 0 ≡ 58) place c.if-text-i-eq58-2.true))

pub returns-clause-place : goal.returns-clause-place
returns-clause-place c = sym (no_gap c.args.text.now (λ k lt. c.loop-i.invariant k (omega arith)))
