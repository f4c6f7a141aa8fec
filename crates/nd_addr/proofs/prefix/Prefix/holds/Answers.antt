use Rattle.nd_addr.proofs.Numbers.{in_prefix}
use Rattle.nd_addr.proofs.prefix.Prefix.holds.Goals as goal

pub returns : goal.returns
returns c =
    rw (← c.self.view_is) (in_prefix c.self.inside.length c.args.address.0 c.self.inside.address.0 c.first_bits.result c.is_same.result c.self.invariant c.as_bytes-bytes.ensures.bytes c.first_bits.ensures.masked c.is_same.ensures)
