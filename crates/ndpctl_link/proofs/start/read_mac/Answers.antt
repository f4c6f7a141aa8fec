use Rattle.std.proofs.Common.{Some, ap}
use Rattle.nd_addr.specs.declared.mac.Mac.{Mac}
use Rattle.ndpctl_link.proofs.StartWords.{by_bytes}
use Rattle.ndpctl_link.proofs.start.read_mac.Goals as goal

pub returns-in-Ok-clause-only : goal.returns-in-Ok-clause-only
returns-in-Ok-clause-only c = λ mac spelled. ap (λ (m : Mac). Some m) (by_bytes c.in-Ok.mac mac (c.in-Ok.ensures.only mac.0 spelled))

pub returns-in-Err-clause-only : goal.returns-in-Err-clause-only
returns-in-Err-clause-only c = λ mac spelled. absurd (c.in-Err.ensures.only mac.0 spelled)
