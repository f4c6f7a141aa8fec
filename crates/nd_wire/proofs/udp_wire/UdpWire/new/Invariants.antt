use Rattle.std.proofs.Common.{◌≡◌, length}
use Rattle.nd_wire.proofs.udp_wire.UdpWire.new.Given as goal

-- a socket for each node so far
abbrev pub invariant-loop : goal.invariant-loop
invariant-loop g l = length l.receivers.items ≡ l.counter
