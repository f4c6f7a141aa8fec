use Rattle.std.proofs.Common.{◌≡◌, drop}
use Rattle.nd_addr.specs.Number.{number_of}
use Rattle.nd_slaac.specs.RoomKept.{is_listed}
use Rattle.nd_slaac.proofs.room.is_listed.Given as goal

-- the address is one of the rest where it is one of all
abbrev pub invariant-loop-other : goal.invariant-loop-other
invariant-loop-other l = is_listed (number_of l.addr.0) (drop l.other-index l.addrs) ≡ is_listed (number_of l.addr.0) l.addrs
