use Rattle.std.proofs.Common.{arith}
use Rattle.nd_lines.proofs.LinesLemmas.{whole_to_feed, long_to_feed, long_unended, line_without_feed}
use Rattle.nd_lines.proofs.ahead.Ahead.first_line.Goals as goal

pub returns-in-Some : goal.returns-in-Some
returns-in-Some g c =
    let first = rw c.in_hand-bytes.ensures.bytes at c.in-Some.ensures in
    λ rest. long_to_feed _ rest _ first.0.before first.0.high first.1 (omega arith)

pub returns-in-Some-2 : goal.returns-in-Some-2
returns-in-Some-2 g c =
    let first = rw c.in_hand-bytes.ensures.bytes at c.in-Some.ensures in
    (first.0.high, omega arith, whole_to_feed _ _ first.0.before first.0.high first.1)

pub returns-in-None : goal.returns-in-None
returns-in-None g c =
    let none = rw c.in_hand-bytes.ensures.bytes at c.in-None.ensures in
    λ rest. long_unended _ rest none (rw c.in_hand-bytes.ensures.bytes at c.if-bytes-gt-LONGEST_LINE.true)

pub returns-in-None-2 : goal.returns-in-None-2
returns-in-None-2 g c =
    let none = rw c.in_hand-bytes.ensures.bytes at c.in-None.ensures in
    (rw c.in_hand-bytes.ensures.bytes at c.if-bytes-gt-LONGEST_LINE.false, λ some. line_without_feed _ none some)
