use Rattle.std.proofs.Common.{Some, ap}
use Rattle.nd_addr.specs.declared.addr.Addr.{Addr}
use Rattle.nd_addr.specs.Text.{groups_of}
use Rattle.ndpctl_run.proofs.AddressWords.{by_groups}
use Rattle.ndpctl_run.proofs.address.read_address.Goals as goal

pub returns-in-Ok-clause-found : goal.returns-in-Ok-clause-found
returns-in-Ok-clause-found c = record { spelled = c.in-Ok.ensures.found; bytes = c.as_bytes-bytes.ensures.bytes }

pub returns-in-Ok-clause-only : goal.returns-in-Ok-clause-only
returns-in-Ok-clause-only c = λ address w.
    ap (λ (a : Addr). Some a) (by_groups c.in-Ok.address address c.as_bytes-bytes.ensures.bytes w.bytes (c.in-Ok.ensures.only (groups_of address.0) w.spelled))

pub returns-in-Err-clause-only : goal.returns-in-Err-clause-only
returns-in-Err-clause-only c = λ address w. absurd (c.in-Err.ensures.only (groups_of address.0) w.spelled)
