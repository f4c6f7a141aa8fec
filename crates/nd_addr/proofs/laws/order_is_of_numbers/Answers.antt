use Rattle.std.proofs.Common.{sym, ◌∙◌}
use Rattle.nd_addr.proofs.Numbers.{ordered}
use Rattle.nd_addr.proofs.laws.order_is_of_numbers.Goals as goal

pub returns : goal.returns
returns c = ordered c.args.a.0 c.args.b.0 (c.as_bytes-a.ensures.bytes.len_is ∙ sym c.as_bytes-b.ensures.bytes.len_is) c.as_bytes-a.ensures.bytes.each c.as_bytes-b.ensures.bytes.each
