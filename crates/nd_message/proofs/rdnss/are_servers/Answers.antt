use Rattle.nd_message.proofs.DnsServers.{none_fit}
use Rattle.nd_message.proofs.rdnss.are_servers.Goals as goal

pub returns-then-not-is_server : goal.returns-then-not-is_server
returns-then-not-is_server c =
    (λ t. absurd cc, λ all. absurd (none_fit c.args.servers.now c.loop-server.server-index _ c.is_server.result c.loop-server-test.true c.is_server.ensures.value c.if-not-is_server.true (c.loop-server.invariant.1 all)))
