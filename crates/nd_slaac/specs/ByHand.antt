-- Addresses that are given by hand: static ones, those of DHCPv6, a router's global one, those that a stack chose itself (RFC 4862, section 5.4: each is
-- tried, "regardless of whether they are obtained through stateless autoconfiguration, DHCPv6, or manual configuration").
use Rattle.std.specs.Prelude.{◌≡◌, ◌==◌, nat_le, Bool, true, ◌&&◌, not, bytes_eq}
use Rattle.nd_addr.specs.declared.addr.Addr.{Addr}
use Rattle.nd_addr.specs.Bytes.{AreBytes}
use Rattle.nd_addr.specs.Kind.{loopback_address, multicast_prefix, unspecified_address}
use Rattle.nd_addr.specs.Number.{holds}
use Rattle.nd_slaac.specs.History.{Lifetimes}

-- an address and its lifetimes, in seconds
pub record AddressByHand : Type 0 where
  pub address : Addr
  pub lifetimes : Lifetimes

-- An interface may have it: it is no multicast address, nor the unspecified or the loopback one (RFC 4291, sections 2.5.2, 2.5.3 and 2.7). Its valid lifetime
-- isn't 0, and its preferred one isn't above that (RFC 4862, section 5.5.3 c).
abbrev pub may_be_own : AddressByHand → Bool
may_be_own own =
    not (holds multicast_prefix own.address.0) && not (bytes_eq own.address.0 unspecified_address) && not (bytes_eq own.address.0 loopback_address)
    && not (own.lifetimes.valid == 0) && nat_le own.lifetimes.preferred own.lifetimes.valid

-- it is an address, and an interface may have it
pub record IsOwnAddress (own : AddressByHand) : Type 0 where
  pub bytes : AreBytes 16 own.address.0
  pub may : may_be_own own ≡ true
