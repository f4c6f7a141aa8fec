use Rattle.std.proofs.Common.{◌≡◌}
use Rattle.std.specs.List.{list_all}
use Rattle.nd_decode.specs.Servers.{is_server}
use Rattle.nd_decode.specs.ServersKept.{servers_left}
use Rattle.nd_decode.proofs.servers.Servers.read.Given as goal

abbrev pub invariant-loop-server : goal.invariant-loop-server
invariant-loop-server l =
    (goal.iterator-loop-server).can_next l.server-iterator × (goal.iterator-loop-server).is_finite l.server-iterator
    × (list_all is_server (servers_left l.server-iterator) ≡ list_all is_server (servers_left l.initial.server-iterator))
