use Rattle.std.proofs.Common.{◌+◌, arith, add-one, sym}
use Rattle.std.proofs.lemmas.List.{take_rest}
use Rattle.nd_text.proofs.Words.{first_colon, no_colon}
use Rattle.nd_text.proofs.parse.split_word.Goals as goal

pub returns-then-byte-eq58-clause-word : goal.returns-then-byte-eq58-clause-word
returns-then-byte-eq58-clause-word c = sym (first_colon c.loop-i.i c.args.text.now c.loop-i.invariant c.loop-i-test.true c.if-byte-eq58.true).0

pub returns-then-byte-eq58-clause-behind : goal.returns-then-byte-eq58-clause-behind
returns-then-byte-eq58-clause-behind c =
    rw (take_rest c.args.text.now (c.loop-i.i + 1), add-one) (first_colon c.loop-i.i c.args.text.now c.loop-i.invariant c.loop-i-test.true c.if-byte-eq58.true).1

pub returns-clause-word : goal.returns-clause-word
returns-clause-word c = sym (no_colon c.args.text.now (λ k less. c.loop-i.invariant k (omega arith))).0

pub returns-clause-behind : goal.returns-clause-behind
returns-clause-behind c = (no_colon c.args.text.now (λ k less. c.loop-i.invariant k (omega arith))).1
