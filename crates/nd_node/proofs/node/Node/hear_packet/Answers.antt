use Rattle.std.proofs.Common.{◌≡◌, ◌∷◌, ◌+◌, ◌++◌, ℕ, List, take, length, false, refl, sym, ◌∙◌, ap}
use Rattle.std.proofs.lemmas.Bool.{true≢false}
use Rattle.std.proofs.lemmas.Result.{IfOk-weaker, on_err_weaker}
use Rattle.nd_addr.specs.Ip6.{PacketParts, packet_parts, ipv6_header_length, payload_length_of}
use Rattle.nd_addr.specs.Places.{packet_in}
use Rattle.nd_chronicle.specs.Happening.{Up, Passed}
use Rattle.nd_chronicle.specs.Hearing.{IsPacketForUs}
use Rattle.nd_node.proofs.Growing.{on_err_of}
use Rattle.nd_node.proofs.Reporting.{answered}
use Rattle.nd_node.proofs.Judging.{goes_up, in_transit_later, is_not, packet_goes_on, packet_goes_up, packet_passes, packet_is_strange, up_to_payload, stays_keeps, stays_same}
use Rattle.nd_node.proofs.Memory.{packet_stays, passing_stays}
use Rattle.nd_node.proofs.Refusals.{ours_left, passing_refused}
use Rattle.nd_chronicle.specs.Event.{packet_bytes}
use Rattle.nd_node.specs.declared.answer.Answer.TheVariants.{Done}
use Rattle.nd_node.specs.declared.frame.Reception.{Reception}
use Rattle.nd_node.proofs.node.Node.hear_packet.Goals as goal

pub returns-then-is_in_transit-clause-adds : goal.returns-then-is_in_transit-clause-adds
returns-then-is_in_transit-clause-adds g c =
    packet_goes_on g.R.Rng.stream c.args.self.now c.forward.new.self c.args.outs.now.items c.forward.new.outs.items c.args.now c.args.frame.now
    (packet_parts c.args.packet) c.requires.by_frame c.is_packet_for_us.result (λ start c' s. c.is_packet_for_us.ensures start c' (packet_parts c.args.packet) s refl) c.if-not-is_packet_for_us.true
    c.is_in_transit.result (λ start c' s. c.is_in_transit.ensures start c' (packet_parts c.args.packet) s refl) c.if-is_in_transit.true c.in_ok-answer.ensures.adds

pub returns-in_err-answer-clause-stays : goal.returns-in_err-answer-clause-stays
returns-in_err-answer-clause-stays g c = on_err_of c.from_residual.result (stays_keeps g.R.Rng.stream c.args.self.now c.forward.new.self c.in_err-answer.ensures.keeps)

pub returns-in_err-answer-clause-quiet : goal.returns-in_err-answer-clause-quiet
returns-in_err-answer-clause-quiet g c = λ why start c' s le judged place.
    let packet : PacketParts = packet_parts c.args.packet in
    let stranger = is_not c.is_packet_for_us.result (IsPacketForUs start c' packet) (c.is_packet_for_us.ensures start c' packet s refl) c.if-not-is_packet_for_us.true in
    let passes = (c.is_in_transit.ensures start c' packet s refl stranger).0 c.if-is_in_transit.true in
    absurd (passing_stays start ((c.args.now, Passed) ∷ c') c.args.now packet why (in_transit_later start c' c.args.now c.args.frame.now packet passes) judged)

pub returns-then-not-is_packet_for_us-clause-adds : goal.returns-then-not-is_packet_for_us-clause-adds
returns-then-not-is_packet_for_us-clause-adds g c =
    answered c.drop_unheard.result (record { answer = Done; changes_tables = false }) _ (λ adds. packet_is_strange g.R.Rng.stream c.args.self.now c.drop_unheard.new.self c.args.outs.now.items c.drop_unheard.new.outs.items c.args.now c.args.frame.now
    (packet_parts c.args.packet) c.requires.by_frame c.is_packet_for_us.result (λ start c' s. c.is_packet_for_us.ensures start c' (packet_parts c.args.packet) s refl) c.if-not-is_packet_for_us.true
    c.is_in_transit.result (λ start c' s. c.is_in_transit.ensures start c' (packet_parts c.args.packet) s refl) c.if-is_in_transit.false adds)
    c.drop_unheard.ensures.adds c.drop_unheard.ensures.answer

pub returns-then-not-is_packet_for_us-clause-stays : goal.returns-then-not-is_packet_for_us-clause-stays
returns-then-not-is_packet_for_us-clause-stays g c =
    on_err_weaker c.drop_unheard.result (λ same. stays_same g.R.Rng.stream c.args.self.now c.drop_unheard.new.self same) c.drop_unheard.ensures.keeps

pub returns-clause-adds : goal.returns-clause-adds
returns-clause-adds g c =
    let bytes : List ℕ = packet_in c.args.frame.now in
    let payload_is : c.args.packet.payload.now ≡ _ = ap (λ (p : PacketParts). p.payload) c.requires.by_frame.2 in
    let up_is : c.extend_from_slice.new.self.items ≡ take (ipv6_header_length + payload_length_of bytes) bytes =
    c.in_ok-extend_from_slice.ensures.items ∙ (ap (λ (l : List ℕ). l ++ c.packet_in.result.now) c.new-up.ensures.items
    ∙ (c.packet_in.ensures ∙ (ap (λ (l : List ℕ). take (40 + length l) bytes) payload_is ∙ up_to_payload bytes (payload_length_of bytes)))) in
    let packet : List ℕ = take (ipv6_header_length + payload_length_of bytes) bytes in
    packet_goes_up g.R.Rng.stream c.args.self.now c.report.new.self c.args.outs.now.items c.report.new.outs.items c.args.now c.args.frame.now
    (packet_parts c.args.packet) c.requires.by_frame c.is_packet_for_us.result (λ start c' s. c.is_packet_for_us.ensures start c' (packet_parts c.args.packet) s refl) c.if-not-is_packet_for_us.false
    (goes_up g.R.Rng.stream c.args.self.now c.report.new.self c.args.outs.now.items c.report.new.outs.items c.args.now _ c.requires.settled c.in_ok-report.ensures.clock c.in_ok-report.ensures.items packet (ap Up up_is))

pub returns-in_err-clone-clause-quiet : goal.returns-in_err-clone-clause-quiet
returns-in_err-clone-clause-quiet g c = λ why start c' s le judged place.
    let ours = (c.is_packet_for_us.ensures start c' (packet_parts c.args.packet) s refl).0 c.if-not-is_packet_for_us.false in
    absurd (packet_stays start ((c.args.now, Passed) ∷ c') c.args.now (packet_parts c.args.packet) why (record { destination_is = ours.destination_is; up = ours.up; allowed = ours.allowed }) judged)

pub returns-in_err-extend_from_slice-clause-quiet : goal.returns-in_err-extend_from_slice-clause-quiet
returns-in_err-extend_from_slice-clause-quiet g c = λ why start c' s le judged place.
    let ours = (c.is_packet_for_us.ensures start c' (packet_parts c.args.packet) s refl).0 c.if-not-is_packet_for_us.false in
    absurd (packet_stays start ((c.args.now, Passed) ∷ c') c.args.now (packet_parts c.args.packet) why (record { destination_is = ours.destination_is; up = ours.up; allowed = ours.allowed }) judged)

pub returns-in_err-answer-clause-refused : goal.returns-in_err-answer-clause-refused
returns-in_err-answer-clause-refused g c = λ verdict start c' s le judged adds place.
    let packet : PacketParts = packet_parts c.args.packet in
    let stranger = is_not c.is_packet_for_us.result (IsPacketForUs start c' packet) (c.is_packet_for_us.ensures start c' packet s refl) c.if-not-is_packet_for_us.true in
    let passes = in_transit_later start c' c.args.now c.args.frame.now packet ((c.is_in_transit.ensures start c' packet s refl stranger).0 c.if-is_in_transit.true) in
    absurd (true≢false (sym (c.in_err-answer.ensures.refused (packet_bytes c.args.frame.now) start c' s (passing_refused start c.args.now c.args.frame.now packet c' verdict passes.not_ours judged adds) place)))

pub returns-in_err-clone-clause-refused : goal.returns-in_err-clone-clause-refused
returns-in_err-clone-clause-refused g c = λ verdict start c' s le judged adds place.
    let ours = (c.is_packet_for_us.ensures start c' (packet_parts c.args.packet) s refl).0 c.if-not-is_packet_for_us.false in
    absurd (ours_left start c.args.now c.args.frame.now (packet_parts c.args.packet) c' verdict (record { destination_is = ours.destination_is; up = ours.up; allowed = ours.allowed }) judged adds)

pub returns-in_err-extend_from_slice-clause-refused : goal.returns-in_err-extend_from_slice-clause-refused
returns-in_err-extend_from_slice-clause-refused g c = λ verdict start c' s le judged adds place.
    let ours = (c.is_packet_for_us.ensures start c' (packet_parts c.args.packet) s refl).0 c.if-not-is_packet_for_us.false in
    absurd (ours_left start c.args.now c.args.frame.now (packet_parts c.args.packet) c' verdict (record { destination_is = ours.destination_is; up = ours.up; allowed = ours.allowed }) judged adds)

pub returns-then-is_in_transit-clause-idle : goal.returns-then-is_in_transit-clause-idle
returns-then-is_in_transit-clause-idle g c = λ verdict start c' s le judged leaves.
    let packet : PacketParts = packet_parts c.args.packet in
    let stranger = is_not c.is_packet_for_us.result (IsPacketForUs start c' packet) (c.is_packet_for_us.ensures start c' packet s refl) c.if-not-is_packet_for_us.true in
    let passes = in_transit_later start c' c.args.now c.args.frame.now packet ((c.is_in_transit.ensures start c' packet s refl stranger).0 c.if-is_in_transit.true) in
    absurd (packet_passes start ((c.args.now, Passed) ∷ c') c.args.now packet verdict passes judged leaves)

pub returns-then-not-is_packet_for_us-clause-idle : goal.returns-then-not-is_packet_for_us-clause-idle
returns-then-not-is_packet_for_us-clause-idle g c = λ verdict start c' s le judged leaves.
    IfOk-weaker c.drop_unheard.result _ _ (λ r is. ap (λ (x : Reception). x.changes_tables) is) c.drop_unheard.ensures.answer
