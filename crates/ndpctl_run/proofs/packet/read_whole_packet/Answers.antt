use Rattle.std.proofs.Common.{◌≡◌, ◌++◌, ◌∙◌, ℕ, List, arith, ap, sym, subst}
use Rattle.nd_addr.specs.Ip6.{packet_parts}
use Rattle.ndpctl_run.specs.Packet.{IsPacketWord}
use Rattle.ndpctl_run.proofs.WholeWords.{none_longer, sized_ok, spelled}
use Rattle.ndpctl_run.proofs.packet.read_whole_packet.Goals as goal

pub returns-then-length-gt-LONGEST_PACKET-clause-only : goal.returns-then-length-gt-LONGEST_PACKET-clause-only
returns-then-length-gt-LONGEST_PACKET-clause-only g c = λ packet is. omega (arith, none_longer c.args.word.now packet is, c.if-length-gt-LONGEST_PACKET.true)

pub returns-in_err-clone-clause-malformed : goal.returns-in_err-clone-clause-malformed
returns-in_err-clone-clause-malformed g c = λ none.
    let decoded = sized_ok c.args.word.now c.decode_hex_to_slice.new.bytes _ c.decode_hex_to_slice.result c.decode_hex_to_slice.ensures (sym c.if-is_err.ensures.value) in
    absurd (none (packet_parts c.in-Some.packet) (spelled c.args.word.now c.decode_hex_to_slice.new.bytes (packet_parts c.in-Some.packet) decoded c.in-Some.ensures))

pub returns-in_err-payload-clause-malformed : goal.returns-in_err-payload-clause-malformed
returns-in_err-payload-clause-malformed g c = λ none.
    let decoded = sized_ok c.args.word.now c.decode_hex_to_slice.new.bytes _ c.decode_hex_to_slice.result c.decode_hex_to_slice.ensures (sym c.if-is_err.ensures.value) in
    absurd (none (packet_parts c.in-Some.packet) (spelled c.args.word.now c.decode_hex_to_slice.new.bytes (packet_parts c.in-Some.packet) decoded c.in-Some.ensures))

pub returns-clause-found : goal.returns-clause-found
returns-clause-found g c =
    let decoded = sized_ok c.args.word.now c.decode_hex_to_slice.new.bytes _ c.decode_hex_to_slice.result c.decode_hex_to_slice.ensures (sym c.if-is_err.ensures.value) in
    let packet = packet_parts c.in-Some.packet in
    let copied : c.extend_from_slice.new.self.items ≡ packet.payload = c.in_ok-extend_from_slice.ensures.items ∙ ap (λ (bytes : List ℕ). bytes ++ packet.payload) c.in_ok-payload.ensures.items in
    subst (λ (payload : List ℕ). IsPacketWord c.args.word.now (record { header = packet.header; payload = payload })) (sym copied) (spelled c.args.word.now c.decode_hex_to_slice.new.bytes packet decoded c.in-Some.ensures)

pub returns-clause-malformed : goal.returns-clause-malformed
returns-clause-malformed g c = λ none.
    let decoded = sized_ok c.args.word.now c.decode_hex_to_slice.new.bytes _ c.decode_hex_to_slice.result c.decode_hex_to_slice.ensures (sym c.if-is_err.ensures.value) in
    absurd (none (packet_parts c.in-Some.packet) (spelled c.args.word.now c.decode_hex_to_slice.new.bytes (packet_parts c.in-Some.packet) decoded c.in-Some.ensures))
