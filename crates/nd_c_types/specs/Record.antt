-- What a node reports, as C sees it.
use Rattle.std.specs.Prelude.{ℕ, List, [], drop, length}
use Rattle.nd_addr.specs.Frame.{ethernet_header_length}
use Rattle.nd_addr.specs.Why.{number_of}
use Rattle.nd_decode.specs.declared.body.Body.{Body}
use Rattle.nd_decode.specs.declared.body.Body.TheVariants as bodies
use Rattle.nd_out.specs.declared.out.Loss.{Loss}
use Rattle.nd_out.specs.declared.out.Loss.TheVariants as losses
use Rattle.nd_out.specs.declared.out.Refusal.{Refusal}
use Rattle.nd_out.specs.declared.out.Refusal.TheVariants as refusals
use Rattle.nd_out.specs.Out.{happening, limit_of, refusal_of}
use Rattle.nd_out.specs.declared.out.Out.{Out}
use Rattle.nd_out.specs.declared.out.Out.TheVariants as outs
use Rattle.nd_c_types.specs.Changes.{changes_number}
use Rattle.nd_c_types.specs.Numbers.{no_address}
use Rattle.nd_c_types.specs.Refusal.{full_number, limit_number, refusal_number}
use Rattle.nd_c_types.specs.declared.«record».Record.{Record}

-- the ICMPv6 types (RFC 4861, section 4)
abbrev pub type_of : Body → ℕ
type_of bodies.Rs = 133
type_of (bodies.Ra _) = 134
type_of (bodies.Ns _) = 135
type_of (bodies.Na _) = 136
type_of (bodies.Redirect _) = 137

-- enum nd_loss
abbrev pub loss_number : Loss → ℕ
loss_number losses.Unreachable = 1
loss_number losses.Replaced = 2
loss_number losses.Forgotten = 3
loss_number losses.NoRoute = 4
loss_number losses.HopLimit = 5

-- no field
abbrev pub nothing : Record
nothing = record { moment = 0; length = 0; kind = 0; code = 0; limit = 0; changes = 0; address = no_address }

-- the source that is no assigned address
abbrev pub source_of : Refusal → List ℕ
source_of (refusals.NotOurs source) = source.0
source_of _ = no_address

-- an event that was refused
abbrev pub of_refusal : Refusal → Record
of_refusal why = record nothing { kind = 11; code = refusal_number (refusal_of why); limit = full_number (refusal_of why); address = source_of why }

-- the kind, and what it has besides a moment, bytes and what it changes: enum nd_kind
abbrev pub contents_of : {A : Type 0} → Out A → Record
contents_of (outs.Frame packet) = record nothing { kind = 1 }
contents_of (outs.Heard source destination body) = record nothing { kind = 2; code = type_of body; address = source.0 }
contents_of (outs.Dropped why) = record nothing { kind = 3; code = number_of why }
contents_of (outs.Up packet) = record nothing { kind = 4 }
contents_of (outs.Duplicate own) = record nothing { kind = 5; address = own.0 }
contents_of (outs.Assigned own) = record nothing { kind = 6; address = own.0 }
contents_of (outs.EndedAddress own) = record nothing { kind = 7; address = own.0 }
contents_of (outs.EndedRouter router) = record nothing { kind = 8; address = router.0 }
contents_of (outs.Failed neighbour) = record nothing { kind = 9; address = neighbour.0 }
contents_of (outs.Lost why packet) = record nothing { kind = 10; code = loss_number why }
contents_of (outs.Path destination way) = nothing
contents_of (outs.Resolved neighbour mac) = record nothing { kind = 13; address = neighbour.0 }
contents_of (outs.Shown rows) = nothing
contents_of (outs.Refused why) = of_refusal why
contents_of (outs.Ignored full) = record nothing { kind = 14; limit = limit_number (limit_of full) }
contents_of (outs.Past last) = nothing

-- the bytes: a frame that is sent, a packet from its IPv6 header on, or a link-layer address that was resolved
abbrev pub bytes_in : {A : Type 0} → Out A → List ℕ
bytes_in (outs.Frame packet) = packet
bytes_in (outs.Up packet) = packet.items
bytes_in (outs.Lost why packet) = drop ethernet_header_length packet
bytes_in (outs.Heard source destination body) = []
bytes_in (outs.Dropped why) = []
bytes_in (outs.Duplicate own) = []
bytes_in (outs.Assigned own) = []
bytes_in (outs.EndedAddress own) = []
bytes_in (outs.EndedRouter router) = []
bytes_in (outs.Failed neighbour) = []
bytes_in (outs.Path destination way) = []
bytes_in (outs.Resolved neighbour mac) = mac.0
bytes_in (outs.Shown rows) = []
bytes_in (outs.Refused why) = []
bytes_in (outs.Ignored full) = []
bytes_in (outs.Past last) = []

-- the whole record
abbrev pub record_of : {A : Type 0} → ℕ → Out A → Record
record_of moment out = record (contents_of out) { moment = moment; length = length (bytes_in out); changes = changes_number (happening out) }
