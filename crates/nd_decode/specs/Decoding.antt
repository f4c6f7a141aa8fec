-- Decoding as a function of the bytes, which decides the relations of `Message`.
use Rattle.std.specs.Prelude.{ℕ, nat_eq, nat_lt, List, length, slice_index, Option, Some, None, Result, Ok, Err, if◌then◌else◌}
use Rattle.nd_addr.specs.declared.why.Why.{Why}
use Rattle.nd_addr.specs.declared.why.Why.TheVariants.{Code, Length}
use Rattle.nd_decode.specs.declared.body.Body.{Body}
use Rattle.nd_decode.specs.declared.body.Body.TheVariants as bodies
use Rattle.nd_decode.specs.declared.message_type.MessageType.{MessageType}
use Rattle.nd_decode.specs.declared.message_type.MessageType.TheVariants.{RouterSolicitation, RouterAdvertisement, NeighborSolicitation, NeighborAdvertisement, Redirect}
use Rattle.nd_decode.specs.Whole.{rest_in}
use Rattle.nd_decode.specs.Pieces.{options_in, fault_of}
use Rattle.nd_decode.specs.Message.{Parts, router_advertisement_of, neighbor_solicitation_of, neighbor_advertisement_of, redirect_of, least_length, behind_fields}

-- the fields of a message of a type (RFC 4861, sections 4.1 to 4.5)
abbrev pub body_as : MessageType → List ℕ → Body
body_as RouterSolicitation bytes = bodies.Rs
body_as RouterAdvertisement bytes = bodies.Ra (router_advertisement_of bytes)
body_as NeighborSolicitation bytes = bodies.Ns (neighbor_solicitation_of bytes)
body_as NeighborAdvertisement bytes = bodies.Na (neighbor_advertisement_of bytes)
body_as Redirect bytes = bodies.Redirect (redirect_of bytes)

-- the fields of the type that the first byte names (RFC 4861, sections 4.1 to 4.5)
abbrev pub body_of : List ℕ → Body
body_of bytes =
    if nat_eq (slice_index bytes 0) 133 then bodies.Rs else
    if nat_eq (slice_index bytes 0) 134 then bodies.Ra (router_advertisement_of bytes) else
    if nat_eq (slice_index bytes 0) 135 then bodies.Ns (neighbor_solicitation_of bytes) else
    if nat_eq (slice_index bytes 0) 136 then bodies.Na (neighbor_advertisement_of bytes) else
    bodies.Redirect (redirect_of bytes)

-- the message, if there is no reason against it
abbrev pub unless : Option Why → Parts → Result Parts Why
unless None message = Ok message
unless (Some why) message = Err why

-- the code, the length, the options, and then the message (RFC 4861, section 4)
unfoldable pub decode_of : List ℕ → Result Parts Why
decode_of bytes =
    if nat_eq (slice_index bytes 1) 0 then
    (if nat_lt (length bytes) (least_length (slice_index bytes 0)) then Err Length else
    unless (fault_of (rest_in (behind_fields bytes))) (record { body = body_of bytes; options = options_in (behind_fields bytes) }))
    else Err Code
