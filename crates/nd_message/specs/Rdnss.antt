-- A Recursive DNS Server as it is written (RFC 8106, section 5.1).
use Rattle.std.specs.Prelude.{ℕ, ◌+◌, ◌*◌, ◌^◌, ◌<◌, ◌≤◌, List, ◌∷◌, ◌++◌, length}
use Rattle.std.specs.List.{flat_map, AllByRecursion}
use Rattle.byteorder.specs.Endian.{big_bytes}
use Rattle.nd_addr.specs.Bytes.{IsBytes}
use Rattle.nd_addr.specs.declared.addr.Addr.{Addr}
use Rattle.nd_decode.specs.Servers.{IsServer}

-- type, length, two bytes that are reserved, lifetime, and the addresses
abbrev pub rdnss_piece : ℕ → List Addr → List ℕ
rdnss_piece lifetime servers = 25 ∷ (1 + 2 * length servers) ∷ 0 ∷ 0 ∷ big_bytes 4 lifetime ++ flat_map (λ s. s.0) servers

-- an address that a server can have, of bytes
pub record FitsServer (server : Addr) : Type 0 where
  pub server_is : IsServer server
  pub bytes : IsBytes server.0

-- A number of four bytes, and servers, at least one. An option has at most 255 units of 8 bytes: one, and two for each server.
pub record FitsRdnss (lifetime : ℕ) (servers : List Addr) : Type 0 where
  pub lifetime_is : lifetime < 2 ^ 32
  pub some : 1 ≤ length servers
  pub most : length servers ≤ 127
  pub each : AllByRecursion FitsServer servers
