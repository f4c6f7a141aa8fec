-- What a router makes of a packet that is in transit, by what it keeps and by what happened.
use Rattle.std.proofs.Common.{◌≡◌, ◌≤◌, ◌+◌, ℕ, Bool, true, false, List, length, drop, Option, Some, None, refl, sym, ◌∙◌, ap, arith}
use Rattle.std.specs.Prelude.{if◌then◌else◌, ◌-◌}
use Rattle.std.proofs.lemmas.List.{length-take}
use Rattle.std.specs.Option.{option_map}
use Rattle.nd_addr.specs.declared.addr.Addr.{Addr}
use Rattle.nd_addr.specs.declared.mac.Mac.{Mac}
use Rattle.nd_addr.specs.Bytes.{IsBytes}
use Rattle.nd_addr.specs.Frame.{written_frame}
use Rattle.nd_addr.specs.Ip6.{PacketParts, ipv6_header_length, payload_length_of}
use Rattle.nd_addr.specs.Places.{packet_in, payload_in}
use Rattle.nd_addr.specs.Number.{number_of, mac_at}
use Rattle.nd_addr.proofs.ByteLists.{IsBytes-drop}
use Rattle.nd_compose.specs.Frames.{open_mac}
use Rattle.nd_compose.specs.Redirect.{redirect_frame}
use Rattle.nd_neighbour.specs.EntryKept.{NeighbourEntry}
use Rattle.nd_neighbour.specs.History.{Story, story}
use Rattle.nd_neighbour.specs.Story.{is_present, mac_of}
use Rattle.nd_neighbour.specs.StoryKept.{the_entry}
use Rattle.nd_neighbour.specs.TableKept.{Stands, entry_in}
use Rattle.nd_neighbour.proofs.Stories.{absent_mac}
use Rattle.nd_neighbour.proofs.Dues.{known_by}
use Rattle.nd_chronicle.specs.Start.{Start, link_local}
use Rattle.nd_chronicle.specs.Happening.{Chronicle}
use Rattle.nd_chronicle.specs.Histories.{neighbour_history}
use Rattle.nd_chronicle.specs.Forwarding.{known_mac_of, better_hop_frame, frame_as_it_came, frame_sent_on}
use Rattle.nd_steps.specs.Transit.{mac_in}

-- ---- the length of a payload

two_bytes : (packet : List ℕ) → IsBytes packet → payload_length_of packet ≤ 65535
two_bytes packet h = let rest = IsBytes-drop 4 packet h in omega (arith, rest 0, rest 1)

-- it is no longer than its field can say
pub payload_fits : (frame : List ℕ) → IsBytes frame → length (payload_in frame) ≤ 65535
payload_fits frame h =
    let packet = packet_in frame in
    omega (arith, two_bytes packet (IsBytes-drop 14 frame h), length-take (ipv6_header_length + payload_length_of packet - ipv6_header_length) (drop ipv6_header_length packet))

-- ---- the link-layer address of a neighbour

node_mac : (key : ℕ) (s : Story) (present : Bool) → is_present s ≡ present → mac_in (if present then Some (the_entry key s) else None) ≡ option_map mac_at (mac_of s)
node_mac key s true p = ap (option_map mac_at) (known_by (mac_of s) _ _ _ _)
node_mac key s false p = rw (absent_mac s p) refl

-- and the one that is known by what happened
pub mac_by_history : (entries : List NeighbourEntry) (c : Chronicle) (a : Addr) → Stands entries (neighbour_history c) → mac_in (entry_in (number_of a.0) entries) ≡ known_mac_of c a
mac_by_history entries c a s =
    let key = number_of a.0 in
    ap mac_in (s.each key) ∙ node_mac key (story key (neighbour_history c)) (is_present (story key (neighbour_history c))) refl

-- ---- the Redirect

pub better_hop : (start : Start) (moment : ℕ) (c : Chronicle) (entries : List NeighbourEntry) (mac : Mac) (own target : Addr) (known : Option Mac) (packet : PacketParts) (bytes frame : List ℕ)
    → known ≡ mac_in (entry_in (number_of target.0) entries) → frame ≡ redirect_frame mac own packet.header.source known target packet.header.destination bytes
    → Stands entries (neighbour_history c) → start.mac ≡ mac → own ≡ link_local start → frame ≡ better_hop_frame start moment target packet bytes c
better_hop start moment c entries mac own target known packet bytes frame known_is is s mac_is own_is =
    is ∙ (ap (λ (m : Mac). redirect_frame m own packet.header.source known target packet.header.destination bytes) (sym mac_is)
    ∙ (ap (λ (a : Addr). redirect_frame start.mac a packet.header.source known target packet.header.destination bytes) own_is
    ∙ ap (λ (k : Option Mac). redirect_frame start.mac (link_local start) packet.header.source k target packet.header.destination bytes) (known_is ∙ mac_by_history entries c target s)))

-- ---- the packet

pub as_it_came : (start : Start) (now : ℕ) (mac : Mac) (packet : PacketParts) (frame : List ℕ) → start.mac ≡ mac → frame ≡ written_frame open_mac mac packet.header packet.payload → frame ≡ frame_as_it_came start now packet
as_it_came start now mac packet frame mac_is is = is ∙ ap (λ (m : Mac). written_frame open_mac m packet.header packet.payload) (sym mac_is)

pub sent_on : (start : Start) (now : ℕ) (mac : Mac) (packet : PacketParts) (frame : List ℕ) → start.mac ≡ mac
    → frame ≡ written_frame open_mac mac (record packet.header { hop_limit = packet.header.hop_limit - 1 }) packet.payload → frame ≡ frame_sent_on start now packet
sent_on start now mac packet frame mac_is is = is ∙ ap (λ (m : Mac). written_frame open_mac m (record packet.header { hop_limit = packet.header.hop_limit - 1 }) packet.payload) (sym mac_is)
