-- The words that stand for a packet of the upper layer, and for a whole packet (the texts are this project's own).
use Rattle.std.specs.Prelude.{◌≡◌, ℕ, ◌<◌, List}
use Rattle.std.specs.Fmt.{decimal}
use Rattle.nd_addr.specs.declared.addr.Addr.{Addr}
use Rattle.nd_addr.specs.Ip6.{PacketParts}
use Rattle.nd_steps.specs.Packets.{IsWholePacket}
use Rattle.ndpctl_run.specs.Address.{IsAddressWord}
use Rattle.ndpctl_run.specs.Bytes.{IsBytesWord}
use Rattle.ndpctl_run.specs.Words.{Parts}

-- the word is a next header: a number below 256 in decimal digits, with no leading zero
abbrev pub IsNextHeaderWord : List ℕ → ℕ → Type 0
IsNextHeaderWord word next_header = (next_header < 256) × (word ≡ decimal next_header)

-- the words are a source, a destination, a next header, and such a rest
abbrev pub IsHeader : List ℕ → Addr → Addr → ℕ → (List ℕ → Type 0) → Type 0
IsHeader words source destination next_header Rest =
    Parts words (λ word. IsAddressWord word source) (λ behind. Parts behind (λ word. IsAddressWord word destination) (λ last. Parts last (λ word. IsNextHeaderWord word next_header) Rest))

-- the words spell the packet: its header, and its payload by its bytes
abbrev pub IsPacket : List ℕ → Addr → Addr → ℕ → List ℕ → Type 0
IsPacket words source destination next_header payload = IsHeader words source destination next_header (λ word. IsBytesWord word payload)

-- the word spells the bytes of the whole packet, and no more
abbrev pub IsPacketWord : List ℕ → PacketParts → Type 0
IsPacketWord word packet = (bytes : List ℕ) × IsBytesWord word bytes × IsWholePacket bytes packet
