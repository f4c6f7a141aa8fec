-- Only what is kept, in the code's terms: what an iterator over servers has left.
use Rattle.std.specs.Prelude.{List}
use Rattle.nd_addr.specs.declared.addr.Addr.{Addr}
use Rattle.nd_decode.specs.declared.servers.Servers.{Servers}
use Rattle.nd_decode.specs.Servers.{servers_in}

-- what an iterator over servers has left
abbrev pub servers_left : Servers → List Addr
servers_left s = servers_in s.rest.now
