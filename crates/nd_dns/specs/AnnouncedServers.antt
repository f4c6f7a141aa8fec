-- Which DNS servers a Router Advertisement announces, and for how long (RFC 8106, section 5.1).
use Rattle.std.specs.Prelude.{ℕ, List, [], ◌∷◌, ◌++◌, map}
use Rattle.nd_addr.specs.declared.addr.Addr.{Addr}
use Rattle.nd_decode.specs.Option.{Said, slla, tlla, prefix, redirected, mtu, rdnss, dnssl, other}

-- servers, each for the same lifetime
abbrev pub for_lifetime : ℕ → List Addr → List (Addr × ℕ)
for_lifetime lifetime servers = map (λ server. (server, lifetime)) servers

-- the servers of an option
abbrev pub servers_of : Said → List (Addr × ℕ)
servers_of (rdnss lifetime servers) = for_lifetime lifetime servers
servers_of (slla _) = []
servers_of (tlla _) = []
servers_of (prefix _) = []
servers_of (redirected _) = []
servers_of (mtu _) = []
servers_of (dnssl _ _) = []
servers_of (other _ _) = []

-- those of all options, in their order
abbrev pub servers_told : List Said → List (Addr × ℕ)
servers_told [] = []
servers_told (option ∷ options) = servers_of option ++ servers_told options
