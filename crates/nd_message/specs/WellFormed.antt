-- Which messages may be sent.
use Rattle.std.specs.Prelude.{◌≡◌, ℕ, ◌≤◌, List, length}
use Rattle.nd_addr.specs.Bytes.{IsBytes}
use Rattle.nd_addr.specs.declared.preference.Preference.TheVariants.{Medium}
use Rattle.nd_decode.specs.declared.router_advertisement.RouterAdvertisement.{RouterAdvertisement}
use Rattle.nd_decode.specs.declared.body.Body.{Body}
use Rattle.nd_decode.specs.declared.body.Body.TheVariants as bodies
use Rattle.nd_decode.specs.Message.{Parts, Spells}

-- "If the Router Lifetime is zero, the preference value MUST be set to (00) by the sender" (RFC 4191, section 2.2)
abbrev pub IsMediumAtZero : RouterAdvertisement → Type 0
IsMediumAtZero r = r.router_lifetime ≡ 0 → r.preference ≡ Medium

-- the same of any body
abbrev pub MayBeSent : Body → Type 0
MayBeSent (bodies.Ra r) = IsMediumAtZero r
MayBeSent _ = Unit {0}

-- Some list of at most 65535 bytes spells it, as much as a payload length can say (RFC 8200, section 3), and its sender may send it. Bytes
-- that no sender may send are still read as they are spelled.
pub record IsWellFormed (message : Parts) : Type 0 where
  pub bytes : List ℕ
  pub are_bytes : IsBytes bytes
  pub len : length bytes ≤ 65535
  pub spelled : Spells bytes message
  pub medium : MayBeSent message.body
