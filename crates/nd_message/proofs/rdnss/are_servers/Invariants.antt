use Rattle.std.proofs.Common.{◌↔◌, drop}
use Rattle.std.specs.List.{AllByRecursion}
use Rattle.nd_message.specs.Rdnss.{FitsServer}
use Rattle.nd_message.proofs.rdnss.are_servers.Given as goal

-- the servers that are left decide
abbrev pub invariant-loop-server : goal.invariant-loop-server
invariant-loop-server l = AllByRecursion FitsServer (drop l.server-index l.servers) ↔ AllByRecursion FitsServer l.servers
