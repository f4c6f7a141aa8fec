-- An address that a node is given by hand, from C (RFC 4862, section 5.4).
use Rattle.std.specs.Prelude.{if◌then◌else◌, Option, Some, None}
use Rattle.nd_slaac.specs.ByHand.{AddressByHand, may_be_own}
use Rattle.nd_c_types.specs.declared.own_address.OwnAddress.{OwnAddress}

-- what its fields say
abbrev pub own_in : OwnAddress → AddressByHand
own_in own = record {
  address = record { 0 = own.address };
  lifetimes = record { valid = own.valid_lifetime; preferred = own.preferred_lifetime };
}

-- the address, if an interface may have it
abbrev pub own_of : OwnAddress → Option AddressByHand
own_of own = if may_be_own (own_in own) then Some (own_in own) else None
