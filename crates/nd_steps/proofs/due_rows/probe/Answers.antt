use Rattle.std.proofs.Common.{sym, ◌∙◌, ap}
use Rattle.nd_addr.specs.declared.addr.Addr.{Addr}
use Rattle.nd_addr.specs.declared.mac.Mac.{Mac}
use Rattle.nd_addr.specs.Number.{number_of, addr_at}
use Rattle.nd_compose.specs.Frames.{probe_frame}
use Rattle.nd_steps.proofs.due_rows.probe.Goals as goal

pub returns : goal.returns
returns g c =
    let law = c.addresses_are_told_by_numbers.ensures in
    c.probe.ensures ∙ sym (ap (λ (m : Mac). probe_frame c.args.mac c.args.own m (addr_at (number_of c.args.addr.0))) (law.mac c.args.to c.as_bytes-to.ensures.bytes)
    ∙ ap (λ (a : Addr). probe_frame c.args.mac c.args.own c.args.to a) (law.addr c.args.addr c.as_bytes-bytes.ensures.bytes))
