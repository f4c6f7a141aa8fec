use Rattle.std.proofs.Common.{arith, ap, ◌∙◌, ◌≡◌, ℕ, List, drop}
use Rattle.std.proofs.lemmas.List.{take_rest}
use Rattle.nd_addr.specs.Checksum.{sum_to_write}
use Rattle.nd_message.specs.Owned.{whole_of}
use Rattle.nd_message.proofs.Looping.{long_spelling}
use Rattle.nd_message.proofs.Written.{message_put, message_length}
use Rattle.nd_message.proofs.encoding.put_message.Goals as goal

pub put_sum-requires : goal.put_sum-requires
put_sum-requires g c = omega (arith, c.put_without_sum.ensures.1, long_spelling (whole_of c.args.body.now c.args.options.now))

pub returns : goal.returns
returns g c =
    let m = whole_of c.args.body.now c.args.options.now in
    let summed = rw (take_rest c.deref.result.now c.len-start.result) at c.sum_for-sum.ensures.exact in
    let sum : c.sum_for-sum.result ≡ sum_to_write c.args.source.0 c.args.destination.0 (drop c.len-start.result c.put_without_sum.new.out.items) =
    summed ∙ ap (λ (bytes : List ℕ). sum_to_write c.args.source.0 c.args.destination.0 (drop c.len-start.result bytes)) c.deref.ensures.value in
    let items = message_put c.args.source c.args.destination m c.len-start.result c.args.out.now.items _ _ c.sum_for-sum.result (omega arith) (omega arith) c.put_without_sum.ensures.0 sum c.put_sum.ensures.items in
    (items, omega (arith, c.put_sum.ensures.len, c.put_without_sum.ensures.1, message_length c.args.source c.args.destination m), omega (arith, c.put_without_sum.ensures.2, c.put_sum.ensures.capacity))
