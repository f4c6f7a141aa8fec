-- The types of messages by their numbers.
use Rattle.std.proofs.Common.{◌≡◌, ◌≢◌, ℕ, ◌≤◌, List, length, slice_index, refl, subst, arith}
use Rattle.nd_decode.specs.declared.message_type.MessageType.{MessageType}
use Rattle.nd_decode.specs.declared.message_type.MessageType.TheVariants.{RouterSolicitation, RouterAdvertisement, NeighborSolicitation, NeighborAdvertisement, Redirect}
use Rattle.nd_decode.specs.MessageType.{type_number, IsOfType}
use Rattle.nd_decode.specs.declared.body.Body.{Body}
use Rattle.nd_decode.specs.declared.body.Body.TheVariants as bodies
use Rattle.nd_decode.specs.Message.{Parts, HasKnownKind, HasBody, Spells, least_length}
use Rattle.nd_decode.specs.Decoding.{body_as, body_of}

-- a number that is that of no type is no known one
pub none_known : (bytes : List ℕ) → HasKnownKind bytes → ((kind : MessageType) → slice_index bytes 0 ≢ type_number kind) → ⊥
none_known bytes h none =
    let a : slice_index bytes 0 ≢ 133 = none RouterSolicitation in
    let b : slice_index bytes 0 ≢ 134 = none RouterAdvertisement in
    let c : slice_index bytes 0 ≢ 135 = none NeighborSolicitation in
    let d : slice_index bytes 0 ≢ 136 = none NeighborAdvertisement in
    let e : slice_index bytes 0 ≢ 137 = none Redirect in
    omega (arith, h.least, h.most, a, b, c, d, e)

-- the number of a type is a known one
pub type_known : (kind : MessageType) (bytes : List ℕ) → IsOfType kind bytes → HasKnownKind bytes
type_known RouterSolicitation bytes h = let e : slice_index bytes 0 ≡ 133 = h.kind_is in record { some = h.some; least = omega (arith, e); most = omega (arith, e) }
type_known RouterAdvertisement bytes h = let e : slice_index bytes 0 ≡ 134 = h.kind_is in record { some = h.some; least = omega (arith, e); most = omega (arith, e) }
type_known NeighborSolicitation bytes h = let e : slice_index bytes 0 ≡ 135 = h.kind_is in record { some = h.some; least = omega (arith, e); most = omega (arith, e) }
type_known NeighborAdvertisement bytes h = let e : slice_index bytes 0 ≡ 136 = h.kind_is in record { some = h.some; least = omega (arith, e); most = omega (arith, e) }
type_known Redirect bytes h = let e : slice_index bytes 0 ≡ 137 = h.kind_is in record { some = h.some; least = omega (arith, e); most = omega (arith, e) }

-- the fields of the type that the first byte tells
pub body_is : (kind : MessageType) (bytes : List ℕ) → slice_index bytes 0 ≡ type_number kind → body_as kind bytes ≡ body_of bytes
body_is RouterSolicitation bytes e = rw e refl
body_is RouterAdvertisement bytes e = rw e refl
body_is NeighborSolicitation bytes e = rw e refl
body_is NeighborAdvertisement bytes e = rw e refl
body_is Redirect bytes e = rw e refl

-- what spells a message begins with a known type
pub spelled_known : (bytes : List ℕ) (m : Parts) → Spells bytes m → HasKnownKind bytes
spelled_known bytes m s = by_body m.body s.body
  where
    made : (kind : ℕ) → slice_index bytes 0 ≡ kind → 8 ≤ least_length kind → 133 ≤ kind → kind ≤ 137 → HasKnownKind bytes
    made kind e some least most =
        let long : least_length kind ≤ length bytes = subst (λ (k : ℕ). least_length k ≤ length bytes) e s.fields.long in
        record { some = omega (arith, long, some); least = rw e least; most = rw e most }

    by_body : (b : Body) → HasBody bytes b → HasKnownKind bytes
    by_body bodies.Rs h = made 133 h (omega arith) (omega arith) (omega arith)
    by_body (bodies.Ra r) h = made 134 h.0 (omega arith) (omega arith) (omega arith)
    by_body (bodies.Ns n) h = made 135 h.0 (omega arith) (omega arith) (omega arith)
    by_body (bodies.Na n) h = made 136 h.0 (omega arith) (omega arith) (omega arith)
    by_body (bodies.Redirect r) h = made 137 h.0 (omega arith) (omega arith) (omega arith)
