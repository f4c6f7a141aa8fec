-- A message has no more servers and names than its bytes have room for.
use Rattle.std.proofs.Common.{ℕ, ◌*◌, ◌≤◌, List, [], ◌∷◌, length, arith}
use Rattle.std.proofs.lemmas.List.{length-append, length-map}
use Rattle.nd_addr.specs.declared.addr.Addr.{Addr}
use Rattle.nd_decode.specs.Option.{Said, slla, tlla, prefix, redirected, mtu, rdnss, dnssl, other}
use Rattle.nd_decode.specs.Pieces.{options_left}
use Rattle.nd_decode.specs.declared.options.Options.{Options}
use Rattle.nd_decode.specs.Sizes.{size, sizes}
use Rattle.nd_decode.proofs.Sizes.{left_within}
use Rattle.nd_dns.specs.AnnouncedServers.{servers_of, servers_told}

servers_size : (option : Said) → 16 * length (servers_of option) ≤ size option
servers_size (rdnss lifetime servers) = omega (arith, length-map {B = Addr × ℕ} servers (λ (s : Addr). (s, lifetime)))
servers_size (slla _) = omega arith
servers_size (tlla _) = omega arith
servers_size (prefix _) = omega arith
servers_size (redirected _) = omega arith
servers_size (mtu _) = omega arith
servers_size (dnssl _ _) = omega arith
servers_size (other _ _) = omega arith

servers_sizes : (options : List Said) → 16 * length (servers_told options) ≤ sizes options
servers_sizes [] = omega arith
servers_sizes (option ∷ options) = omega (arith, servers_size option, servers_sizes options, length-append (servers_of option) (servers_told options))

pub few_servers : (o : Options) → 16 * length (servers_told (options_left o)) ≤ length o.rest.now
few_servers o = omega (arith, servers_sizes (options_left o), left_within o)
