-- The types of messages (RFC 4861, sections 4.1 to 4.5).
use Rattle.std.specs.Prelude.{◌≡◌, ℕ, ◌≤◌, List, length, slice_index}
use Rattle.nd_decode.specs.declared.body.Body.{Body}
use Rattle.nd_decode.specs.declared.body.Body.TheVariants as bodies
use Rattle.nd_decode.specs.declared.message_type.MessageType.{MessageType}
use Rattle.nd_decode.specs.declared.message_type.MessageType.TheVariants.{RouterSolicitation, RouterAdvertisement, NeighborSolicitation, NeighborAdvertisement, Redirect}

-- the number of a type
abbrev pub type_number : MessageType → ℕ
type_number RouterSolicitation = 133
type_number RouterAdvertisement = 134
type_number NeighborSolicitation = 135
type_number NeighborAdvertisement = 136
type_number Redirect = 137

-- the type of a message
abbrev pub type_of : Body → MessageType
type_of bodies.Rs = RouterSolicitation
type_of (bodies.Ra _) = RouterAdvertisement
type_of (bodies.Ns _) = NeighborSolicitation
type_of (bodies.Na _) = NeighborAdvertisement
type_of (bodies.Redirect _) = Redirect

-- the bytes begin with the number of this type
pub record IsOfType (kind : MessageType) (bytes : List ℕ) : Type 0 where
  pub some : 1 ≤ length bytes
  pub kind_is : slice_index bytes 0 ≡ type_number kind
