use Rattle.std.proofs.Common.{sym, ◌∙◌, ap}
use Rattle.nd_addr.specs.declared.addr.Addr.{Addr}
use Rattle.nd_compose.specs.Frames.{detection_frame}
use Rattle.nd_steps.proofs.due_rows.detection.Goals as goal

pub returns : goal.returns
returns g c = c.detection.ensures ∙ sym (ap (λ (a : Addr). detection_frame c.args.mac a) (c.addresses_are_told_by_numbers.ensures.addr c.args.addr c.as_bytes-bytes.ensures.bytes))
