use Rattle.std.proofs.Common.{drop}
use Rattle.std.specs.List.{flat_map}
use Rattle.nd_message.proofs.Putting.{IsPutting}
use Rattle.nd_message.proofs.rdnss.put_servers.Given as goal

abbrev pub invariant-loop-server : goal.invariant-loop-server
invariant-loop-server g l = IsPutting l.fn.out l.out (flat_map (λ s. s.0) (drop l.server-index l.servers)) (flat_map (λ s. s.0) l.servers)
