use Rattle.std.proofs.Common.{◌∙◌, ap}
use Rattle.nd_addr.specs.Number.{number_of}
use Rattle.nd_addr.proofs.Numbered.{addr_number_back}
use Rattle.nd_addr.proofs.addr.Addr.from_bits.Goals as goal

pub returns-clause-number : goal.returns-clause-number
returns-clause-number c = ap number_of c.write_u128.ensures ∙ addr_number_back c.args.bits c.ranges.bits.fits
