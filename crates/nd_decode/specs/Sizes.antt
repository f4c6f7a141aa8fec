-- How many bytes options take at least, by what they say.
use Rattle.std.specs.Prelude.{ℕ, ◌+◌, ◌*◌, List, [], ◌∷◌, length}
use Rattle.nd_decode.specs.Option.{Said, slla, tlla, prefix, redirected, mtu, rdnss, dnssl, other}

-- a Prefix Information has 32 bytes (RFC 4861, section 4.6.2), a Recursive DNS Server 16 for each server and a DNS Search List at least one for
-- each name (RFC 8106, sections 5.1 and 5.2)
abbrev pub size : Said → ℕ
size (prefix _) = 32
size (rdnss _ servers) = 16 * length servers
size (slla _) = 0
size (tlla _) = 0
size (redirected _) = 0
size (mtu _) = 0
size (dnssl _ names) = length names
size (other _ _) = 0

-- those of all options
abbrev pub sizes : List Said → ℕ
sizes [] = 0
sizes (option ∷ options) = size option + sizes options
