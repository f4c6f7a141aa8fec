-- How long frames and their messages are.
use Rattle.std.proofs.Common.{◌≡◌, ◌≤◌, Bool, [], ◌∷◌, length, arith}
use Rattle.std.proofs.lemmas.List.{length-append}
use Rattle.nd_addr.specs.Bytes.{AreBytes}
use Rattle.nd_addr.specs.Frame.{ethernet_header_length}
use Rattle.nd_addr.specs.declared.addr.Addr.{Addr}
use Rattle.nd_addr.specs.declared.mac.Mac.{Mac}
use Rattle.nd_decode.specs.Message.{Parts}
use Rattle.nd_decode.specs.Option.{slla}
use Rattle.nd_decode.specs.declared.body.Body.TheVariants as bodies
use Rattle.nd_message.specs.Frame.{message_frame}
use Rattle.nd_message.specs.WellFormed.{IsWellFormed}
use Rattle.nd_message.specs.Spelling.{spelling, written_length}
use Rattle.nd_message.proofs.Formed.{formed}
use Rattle.nd_message.proofs.Framing.{frame_carries}
use Rattle.nd_compose.specs.Frames.{longest_message, solicitation, advertisement}

-- a frame has an Ethernet header
pub long : (to from : Mac) (source destination : Addr) (m : Parts) → length to.0 ≡ 6 → length from.0 ≡ 6 → length source.0 ≡ 16 → length destination.0 ≡ 16 → IsWellFormed m
    → ethernet_header_length ≤ length (message_frame to from source destination m)
long to from source destination m t f s d w = (frame_carries to from source destination m t f s d w).ethernet

-- ---- the messages have a spelling

pub bare_formed : (target : Addr) → AreBytes 16 target.0 → IsWellFormed (record { body = bodies.Ns (record { target = target }); options = [] })
bare_formed target h = formed (record { body = bodies.Ns (record { target = target }); options = [] }) h (record { each = tt; most = omega (arith, h.len_is) })

pub solicitation_formed : (mac : Mac) (target : Addr) → AreBytes 6 mac.0 → AreBytes 16 target.0 → IsWellFormed (solicitation mac target)
solicitation_formed mac target m h = formed (solicitation mac target) h (record { each = (m, tt); most = omega (arith, h.len_is, m.len_is, length-append mac.0 []) })

pub router_solicitation_formed : (mac : Mac) → AreBytes 6 mac.0 → IsWellFormed (record { body = bodies.Rs; options = slla mac ∷ [] })
router_solicitation_formed mac m =
    formed (record { body = bodies.Rs; options = slla mac ∷ [] }) tt (record { each = (m, tt); most = omega (arith, m.len_is, length-append mac.0 []) })

pub advertisement_formed : (router solicited : Bool) (mac : Mac) (target : Addr) → AreBytes 6 mac.0 → AreBytes 16 target.0 → IsWellFormed (advertisement router solicited mac target)
advertisement_formed router solicited mac target m h =
    formed (advertisement router solicited mac target) h (record { each = (m, tt); most = omega (arith, h.len_is, m.len_is, length-append mac.0 []) })

-- ---- and are short

pub bare_short : (target : Addr) → AreBytes 16 target.0 → written_length (record { body = bodies.Ns (record { target = target }); options = [] }) ≤ longest_message
unfolding spelling
bare_short target h = omega (arith, h.len_is, length-append target.0 [])

pub router_solicitation_short : (mac : Mac) → AreBytes 6 mac.0 → written_length (record { body = bodies.Rs; options = slla mac ∷ [] }) ≤ longest_message
unfolding spelling
router_solicitation_short mac m = omega (arith, m.len_is, length-append mac.0 [])
