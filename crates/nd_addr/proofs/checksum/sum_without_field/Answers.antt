use Rattle.std.proofs.Common.{arith}
use Rattle.std.proofs.lemmas.List.{take_rest}
use Rattle.nd_addr.proofs.WordSums.{rest_without_sum, rest_of_short}
use Rattle.nd_addr.proofs.checksum.sum_without_field.Goals as goal

pub returns-then-message-lt-SUM_END : goal.returns-then-message-lt-SUM_END
returns-then-message-lt-SUM_END c =
    rest_of_short c.args.source.0 c.args.destination.0 c.args.message.now _ _ (omega arith) (omega arith) (omega arith) c.header_sum-start.ensures.rest c.add_words.ensures

pub returns : goal.returns
returns c =
    rest_without_sum c.args.source.0 c.args.destination.0 c.args.message.now _ _ _ (omega arith) (omega arith) (omega arith) c.header_sum-start.ensures.rest c.add_piece.ensures.rest (rw (take_rest c.args.message.now 4) at c.add_words-2.ensures)
