use Rattle.std.proofs.Common.{◌∙◌, ap, sym, ℕ}
use Rattle.byteorder.specs.Endian.{big_from, big_number}
use Rattle.nd_addr.proofs.Numbered.{number_from}
use Rattle.nd_addr.proofs.addr.Addr.to_bits.Goals as goal

pub returns : goal.returns
returns c =
    c.read_u128.ensures
    ∙ ap (big_number 16) c.as_bytes.ensures.value
    ∙ sym (number_from c.args.self.0 ∙ ap (λ (k : ℕ). big_from 0 k c.args.self.0) c.as_bytes.ensures.bytes.len_is)
