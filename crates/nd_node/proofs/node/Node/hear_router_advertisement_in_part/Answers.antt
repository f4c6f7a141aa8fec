use Rattle.std.proofs.Common.{◌∙◌, refl, ap, arith, List, ℕ}
use Rattle.nd_addr.specs.Number.{number_of}
use Rattle.nd_decode.specs.Pieces.{options_left}
use Rattle.nd_dns.specs.DnsKept.{names_added}
use Rattle.nd_chronicle.specs.LinkLayerAddress.{first_slla}
use Rattle.nd_node.specs.declared.parts.Rooms.{Rooms}
use Rattle.nd_node.specs.Hearing.{options_read}
use Rattle.nd_node.specs.Parts.{part_of}
use Rattle.nd_node.proofs.InPart.{part_taken, placed_or_out, rooms_as_read, sender_in_place, takes_in_part, way_most}
use Rattle.nd_node.proofs.Memory.{told_of_sender}
use Rattle.nd_node.proofs.node.Node.hear_router_advertisement_in_part.Goals as goal

pub returns-in_err-names-clause-quiet : goal.returns-in_err-names-clause-quiet
returns-in_err-names-clause-quiet g c = λ parts adds.
    let added = ap (λ (told : List (List ℕ × ℕ)). names_added c.args.now told c.args.self.now.dns) c.new-announced.ensures in
    let refused = c.in_err-names.ensures.quiet (added ∙ adds.names) in
    let no : ⊥ = cc in absurd no

pub overflow_add-told-3 : goal.overflow_add-told-3
overflow_add-told-3 g c = omega (arith, way_most c.args.self.now.policies.speakers c.most_told_of_way.result (rw c.speakers-speakers.ensures at c.most_told_of_way.ensures), c.told_for-told.ensures.few)

pub returns-in_err-reserve-clause-quiet : goal.returns-in_err-reserve-clause-quiet
returns-in_err-reserve-clause-quiet g c = λ parts adds.
    let options = options_read c.args.self.now c.args.heard.now.message.options in
    let waits = told_of_sender (record { retrans = 0; reachable = 0 }) (number_of c.args.heard.now.source.0) (first_slla options) c.args.news c.args.self.now.neighbours.entries (c.requires.news (record { retrans = 0; reachable = 0 })) in
    let way = rw c.speakers-speakers.ensures at c.most_told_of_way.ensures in
    let told = rw parts at adds.told in
    let refused = c.in_err-reserve.ensures.ready (omega (arith, told, waits, way, c.told_for-told.ensures.value)) in
    let no : ⊥ = cc in absurd no

pub take_router_advertisement-requires-clause-listed : goal.take_router_advertisement-requires-clause-listed
take_router_advertisement-requires-clause-listed g c = ap (λ (r : Rooms). r.routers) c.rooms-rooms.ensures

pub take_router_advertisement-requires-clause-place : goal.take_router_advertisement-requires-clause-place
take_router_advertisement-requires-clause-place g c =
    placed_or_out c.args.self.now.policies.speakers c.args.self.now.neighbours.limit c.args.now c.args.news c.news_in_place-taken.result c.args.self.now.neighbours.entries c.args.place
    c.requires.place c.news_in_place-taken.ensures.same c.news_in_place-taken.ensures.enters

pub take_router_advertisement-requires-clause-space : goal.take_router_advertisement-requires-clause-space
take_router_advertisement-requires-clause-space g c =
    let way = rw c.speakers-speakers.ensures at c.most_told_of_way.ensures in
    omega (arith, way, c.news_in_place-taken.ensures.told c.args.self.now.neighbours.entries, c.told_for-told.ensures.value, c.push_heard.ensures.len, c.in_ok-reserve.ensures)

pub tell_rooms-requires : goal.tell_rooms-requires
tell_rooms-requires g c =
    let way = rw c.speakers-speakers.ensures at c.most_told_of_way.ensures in
    omega (arith, way, c.take_router_advertisement.ensures.len, c.news_in_place-taken.ensures.told c.args.self.now.neighbours.entries, c.told_for-told.ensures.value, c.push_heard.ensures.len, c.in_ok-reserve.ensures)

pub returns-clause-adds : goal.returns-clause-adds
returns-clause-adds g c =
    let old = c.args.self.now in
    let now = c.args.now in
    let source = c.args.heard.now.source in
    let said = options_left c.args.heard.now.message.options in
    let read = options_read old c.args.heard.now.message.options in
    let rooms = c.rooms-rooms.ensures ∙ rooms_as_read old now source c.args.ra.now.router_lifetime said c.args.place in
    takes_in_part g.R.Rng.stream now source c.args.heard.now.destination c.args.ra.now read old c.take_router_advertisement.new.self c.args.place c.args.outs.now.items c.reserve.new.self.items c.push_heard.new.outs.items
    c.take_router_advertisement.new.outs.items c.tell_rooms.new.outs.items _ refl c.requires.placed c.in_ok-reserve.ensures.items (rw c.requires.body at c.push_heard.ensures.items)
    (rw rooms at (c.take_router_advertisement.ensures.takes (part_of old now c.args.place read) (part_taken old now c.args.place said)
    (λ times. sender_in_place old now c.args.place said source c.args.ra.now times c.args.news c.news_in_place-taken.result (c.requires.news times) (c.news_in_place-taken.ensures.said times))))
    (rw rooms at c.tell_rooms.ensures)
