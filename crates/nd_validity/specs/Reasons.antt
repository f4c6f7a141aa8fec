-- Why a frame is dropped: one statement for each reason, over the frame and the role of the node that hears it, and their order.
use Rattle.std.specs.Prelude.{◌≡◌, ◌≢◌, ℕ, ◌+◌, ◌/◌, ◌^◌, ◌<◌, ◌⊎◌, IsTrue, List, [], ◌∷◌, length, drop}
use Rattle.std.specs.List.{AllByRecursion}
use Rattle.byteorder.specs.Endian.{big_number}
use Rattle.nd_addr.specs.declared.role.Role.{Role}
use Rattle.nd_addr.specs.declared.why.Why.{Why}
use Rattle.nd_addr.specs.declared.why.Why.TheVariants.{FrameShort, NotIpv6, HeaderShort, Version, PayloadShort, Code, Length, OptionZero, OptionOver, HopLimit, Sum, Source, Target, UnspecifiedSlla, NotSolicitedNode, SolicitedMulticast, RedirectTarget, RedirectDestination, NotForUs, NotFirstHop}
use Rattle.nd_addr.specs.declared.ip6.Ip6.{Ip6}
use Rattle.nd_addr.specs.Ip6.{next_header_icmpv6, payload_length_of}
use Rattle.nd_addr.specs.Places.{packet_in, header_in, payload_in}
use Rattle.nd_addr.specs.Checksum.{IsGoodSum}
use Rattle.nd_decode.specs.Message.{Parts, Spells, HasKnownKind, IsRefused}
use Rattle.nd_decode.specs.Carried.{message_hop_limit}
use Rattle.nd_validity.specs.Validity.{has_fault, is_not_for}

-- the payload is a message of Neighbor Discovery: ICMPv6, whose type is 133 to 137 (RFC 4861, section 4)
pub record IsMessage (header : Ip6) (payload : List ℕ) : Type 0 where
  pub icmpv6 : header.next_header ≡ next_header_icmpv6
  pub kind : HasKnownKind payload

-- the frame is a message, whose bytes spell no message, for this reason (RFC 4861, section 4)
abbrev pub IsMisspelled : List ℕ → Why → Type 0
IsMisspelled frame why = IsMessage (header_in frame) (payload_in frame) × IsRefused (payload_in frame) why

-- the frame is a message that has this fault (RFC 4861, sections 6.1, 7.1 and 8.1)
abbrev pub IsFaulty : List ℕ → Why → Type 0
IsFaulty frame why = IsMessage (header_in frame) (payload_in frame)
    × (message : Parts) × Spells (payload_in frame) message × IsTrue (has_fault (header_in frame).source (header_in frame).destination message why)

-- the frame is a message that nodes of this role don't take (RFC 4861, sections 6.2.6, 6.3.4 and 8.2)
abbrev pub IsNotFor : List ℕ → Role → Type 0
IsNotFor frame role = IsMessage (header_in frame) (payload_in frame)
    × (message : Parts) × Spells (payload_in frame) message × IsTrue (is_not_for role message.body)

-- The reasons. Those behind the fifth are of messages alone, and the last one alone asks for the role.
abbrev pub IsReason : List ℕ → Role → Why → Type 0
-- fewer bytes than an Ethernet header has (RFC 2464, section 3)
IsReason frame role FrameShort = length frame < 14
-- another Ethernet type (RFC 2464, section 3)
IsReason frame role NotIpv6 = big_number 2 (drop 12 frame) ≢ 0x86dd
-- fewer bytes than an IPv6 header has (RFC 8200, section 3)
IsReason frame role HeaderShort = length (packet_in frame) < 40
-- another version (RFC 8200, section 3)
IsReason frame role Version = big_number 4 (packet_in frame) / 2 ^ 28 ≢ 6
-- fewer bytes than the payload length says (RFC 8200, section 3)
IsReason frame role PayloadShort = length (packet_in frame) < 40 + payload_length_of (packet_in frame)
-- a hop limit other than 255: a router may have sent it on (RFC 4861, sections 6.1, 7.1 and 8.1)
IsReason frame role HopLimit = IsMessage (header_in frame) (payload_in frame) × ((header_in frame).hop_limit ≢ message_hop_limit)
-- a bad checksum (RFC 4443, section 2.3)
IsReason frame role Sum = IsMessage (header_in frame) (payload_in frame)
    × (IsGoodSum (header_in frame).source.0 (header_in frame).destination.0 (payload_in frame) → ⊥)
IsReason frame role Code = IsMisspelled frame Code
IsReason frame role Length = IsMisspelled frame Length
IsReason frame role OptionZero = IsMisspelled frame OptionZero
IsReason frame role OptionOver = IsMisspelled frame OptionOver
IsReason frame role Source = IsFaulty frame Source
IsReason frame role Target = IsFaulty frame Target
IsReason frame role UnspecifiedSlla = IsFaulty frame UnspecifiedSlla
IsReason frame role NotSolicitedNode = IsFaulty frame NotSolicitedNode
IsReason frame role SolicitedMulticast = IsFaulty frame SolicitedMulticast
IsReason frame role RedirectTarget = IsFaulty frame RedirectTarget
IsReason frame role RedirectDestination = IsFaulty frame RedirectDestination
IsReason frame role NotForUs = IsNotFor frame role
-- this one asks the node that hears
IsReason frame role NotFirstHop = ⊥

-- the order in which they are asked
abbrev pub order : List Why
order = FrameShort ∷ NotIpv6 ∷ HeaderShort ∷ Version ∷ PayloadShort ∷ HopLimit ∷ Sum ∷ Code ∷ Length ∷ OptionZero ∷ OptionOver ∷ Source
    ∷ Target ∷ UnspecifiedSlla ∷ NotSolicitedNode ∷ SolicitedMulticast ∷ RedirectTarget ∷ RedirectDestination ∷ NotForUs ∷ []

-- the first of some reasons that holds
abbrev pub IsFirstOf : (Why → Type 0) → List Why → Why → Type 0
IsFirstOf Holds [] first = ⊥
IsFirstOf Holds (why ∷ whys) first = ((first ≡ why) × Holds why) ⊎ ((Holds why → ⊥) × IsFirstOf Holds whys first)

-- none of some reasons holds
abbrev pub NoneOf : (Why → Type 0) → List Why → Type 0
NoneOf Holds whys = AllByRecursion (λ why. Holds why → ⊥) whys
