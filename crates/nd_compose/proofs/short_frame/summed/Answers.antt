use Rattle.std.proofs.Common.{rules, ◌≡◌, ℕ, List, ap, ◌∙◌, arith}
use borrow.Rule.Slice.PartMut.{put_mid}
use Rattle.byteorder.specs.Endian.{big_bytes}
use Rattle.nd_addr.specs.Checksum.{sum_to_write}
use Rattle.nd_compose.proofs.ShortFrames.{sum_put_last}
use Rattle.nd_compose.proofs.short_frame.summed.Goals as goal

pub returns : goal.returns
returns c =
    let message = c.args.message in
    let sum = sum_to_write c.args.source.0 c.args.destination.0 message in
    let field : c.copy_from_slice.new.self ≡ big_bytes 2 c.sum_for-sum.result = search rules in
    let same : c.sum_for-sum.result ≡ sum = c.sum_for-sum.ensures.exact in
    ap (λ (bytes : List ℕ). put_mid 2 2 message bytes) (field ∙ ap (big_bytes 2) same) ∙ sum_put_last (big_bytes 2 sum) message (omega arith)
