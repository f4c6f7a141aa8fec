-- The DNS servers of an option: addresses of 16 bytes, one behind the other (RFC 8106, section 5.1).
use Rattle.std.specs.Prelude.{◌≡◌, ◌≢◌, ℕ, zero, suc, ◌/◌, Bool, ◌&&◌, not, nat_eq, bytes_eq, List, [], ◌∷◌, length, take, drop, slice_index}
use Rattle.std.specs.List.{flat_map, AllByRecursion}
use Rattle.nd_addr.specs.Kind.{unspecified_address, loopback_address}
use Rattle.nd_addr.specs.declared.addr.Addr.{Addr}

-- An address that a server can have: not multicast, whose first byte is ff (RFC 4291, section 2.7), nor unspecified, nor
-- loopback.
pub record IsServer (server : Addr) : Type 0 where
  pub len : length server.0 ≡ 16
  pub not_multicast : slice_index server.0 0 ≢ 0xff
  pub not_unspecified : server.0 ≢ unspecified_address
  pub not_loopback : server.0 ≢ loopback_address

-- the bytes are the addresses of these servers, one behind the other
pub record SpellsServers (bytes : List ℕ) (servers : List Addr) : Type 0 where
  pub concatenated : bytes ≡ flat_map (λ s. s.0) servers
  pub each : AllByRecursion IsServer servers

-- as many addresses as are whole
abbrev pub servers_from : ℕ → List ℕ → List Addr
servers_from zero bytes = []
servers_from (suc n) bytes = record { 0 = take 16 bytes } ∷ servers_from n (drop 16 bytes)

-- the addresses in some bytes
unfoldable pub servers_in : List ℕ → List Addr
servers_in bytes = servers_from (length bytes / 16) bytes

-- the test of one address
abbrev pub is_server : Addr → Bool
is_server a = not (nat_eq (slice_index a.0 0) 0xff) && not (bytes_eq a.0 unspecified_address) && not (bytes_eq a.0 loopback_address)
