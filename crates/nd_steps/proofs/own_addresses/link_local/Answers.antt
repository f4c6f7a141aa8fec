use Rattle.std.proofs.Common.{sym, ◌∙◌, ap}
use Rattle.nd_addr.specs.Number.{addr_at}
use Rattle.nd_steps.proofs.own_addresses.link_local.Goals as goal

pub returns : goal.returns
returns g c = sym (c.addresses_are_told_by_numbers.ensures.addr c.link_local-own.result c.as_bytes-bytes.ensures.bytes) ∙ ap addr_at c.link_local-own.ensures
