use Rattle.std.proofs.Common.{sym, ◌∙◌, ap}
use Rattle.nd_addr.specs.declared.addr.Addr.{Addr}
use Rattle.nd_compose.specs.Frames.{resolution_frame}
use Rattle.nd_steps.proofs.due_rows.resolution.Goals as goal

pub returns : goal.returns
returns g c = c.resolution.ensures ∙ sym (ap (λ (a : Addr). resolution_frame c.args.mac c.args.own a) (c.addresses_are_told_by_numbers.ensures.addr c.args.addr c.as_bytes-bytes.ensures.bytes))
