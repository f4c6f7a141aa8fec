use Rattle.std.proofs.Common.{◌∙◌, sym, ap, arith}
use Rattle.nd_text.specs.Text.{groups_text}
use Rattle.nd_addr.specs.Text.{address_text}
use Rattle.nd_out.proofs.Groups.{groups_alike, part_at}
use Rattle.nd_out.proofs.lost.address_at.Goals as goal

pub returns : goal.returns
unfolding address_text
returns c =
    ap groups_text (groups_alike c.loop-i.address _ (λ k h. c.loop-i.invariant.bytes k (omega arith) ∙ sym (part_at c.args.bytes.now c.args.place k h)))
