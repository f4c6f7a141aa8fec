use Rattle.std.proofs.Common.{arith, ap}
use Rattle.nd_addr.specs.Checksum.{word_sum}
use Rattle.nd_addr.proofs.WordSums.{word_sum-append}
use Rattle.nd_addr.proofs.checksum.add_words.Goals as goal

pub loop-rest-preserved : goal.loop-rest-preserved
loop-rest-preserved c =
    let whole = ap word_sum c.split_at.ensures.by_index.0 in
    let parts = word_sum-append 32768 c.split_at.result.0.now c.split_at.result.1.now c.split_at.ensures.front_len in
    (omega arith, omega (arith, whole, parts, c.loop-rest.invariant.1, c.add_piece-so_far.ensures.rest))
