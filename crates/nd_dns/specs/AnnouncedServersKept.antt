-- Only what is kept, in the code's terms: what an iterator over the servers that are announced has left.
use Rattle.std.specs.Prelude.{ℕ, List, [], ◌++◌, Option, Some, None}
use Rattle.nd_addr.specs.declared.addr.Addr.{Addr}
use Rattle.nd_decode.specs.declared.servers.Servers.{Servers}
use Rattle.nd_decode.specs.Pieces.{options_left}
use Rattle.nd_decode.specs.ServersKept.{servers_left}
use Rattle.nd_dns.specs.declared.announced_servers.AnnouncedServers.{AnnouncedServers}
use Rattle.nd_dns.specs.AnnouncedServers.{for_lifetime, servers_told}

-- what is left of the option at hand
abbrev pub at_hand : Option Servers → List Addr
at_hand None = []
at_hand (Some servers) = servers_left servers

-- what an iterator over them has left
abbrev pub servers_to_come : AnnouncedServers → List (Addr × ℕ)
servers_to_come t = for_lifetime t.lifetime (at_hand t.servers) ++ servers_told (options_left t.options)
