use Rattle.std.proofs.Common.{Some, ap, refl, sym}
use Rattle.nd_chronicle.specs.Event as events
use Rattle.nd_node.specs.Event.{clearable_of, table_of}
use Rattle.ndpctl_run.specs.declared.command.Command.TheVariants.{Rx, Send, Confirm, Forget, Clear, Show, Advertise, Prefix, Route, Address, Withdraw, Resolve, Carry}
use Rattle.ndpctl_run.specs.Bytes.{IsBytesWord}
use Rattle.nd_steps.specs.Packets.{whole_parts}
use Rattle.ndpctl_run.specs.Packet.{IsPacket, IsPacketWord}
use Rattle.ndpctl_run.proofs.CommandWords.{of_command}
use Rattle.ndpctl_run.proofs.Readings.{some_is, some_and, none_and}
use Rattle.ndpctl_run.proofs.command.read_arguments.Goals as goal

pub returns-in_err-frame-in-Rx-clause-malformed : goal.returns-in_err-frame-in-Rx-clause-malformed
returns-in_err-frame-in-Rx-clause-malformed g c = λ none.
    let r = c.in_err-frame-in-Rx.ensures.malformed (λ frame w. none (events.Receives frame) (of_command Rx c.args.command c.args.words.now (events.Receives frame) (sym c.in-Rx.is) (frame, refl, w))) in
    cc

pub returns-in_err-packet-in-Send-clause-malformed : goal.returns-in_err-packet-in-Send-clause-malformed
returns-in_err-packet-in-Send-clause-malformed g c = λ none.
    let r = c.in_err-packet-in-Send.ensures.malformed (λ source destination next_header payload w. none (events.Sends source destination next_header payload)
    (of_command Send c.args.command c.args.words.now (events.Sends source destination next_header payload) (sym c.in-Send.is) (source, destination, next_header, payload, refl, w))) in
    cc

pub returns-in-Some-clause-malformed : goal.returns-in-Some-clause-malformed
returns-in-Some-clause-malformed g c = λ none.
    let frame = c.in-Some.frame.items in
    let spelled = some_is c.in_ok-frame-in-Rx.field-0 c.in-Some.frame (λ frame. IsBytesWord c.args.words.now frame.items) c.in-Some.is c.in_ok-frame-in-Rx.ensures.found in
    absurd (none (events.Receives frame) (of_command Rx c.args.command c.args.words.now (events.Receives frame) (sym c.in-Rx.is) (frame, refl, spelled)))

pub returns-in-Some-2-clause-only : goal.returns-in-Some-2-clause-only
returns-in-Some-2-clause-only g c = λ event are.
    let theirs = of_command c.args.command Send c.args.words.now event c.in-Send.is are in
    let same = some_and c.in_ok-packet-in-Send.field-0 c.in-Some-2.packet _ c.in-Some-2.is (c.in_ok-packet-in-Send.ensures.only theirs.0 theirs.1 theirs.2 theirs.3 theirs.5) in
    ap (λ (e : events.Event). Some e) (rw (same.0, same.1, same.2, same.3) (sym theirs.4))

pub returns-in-Some-2-clause-malformed : goal.returns-in-Some-2-clause-malformed
returns-in-Some-2-clause-malformed g c = λ none.
    let p = c.in-Some-2.packet in
    let spelled = some_is c.in_ok-packet-in-Send.field-0 p (λ packet. IsPacket c.args.words.now packet.source packet.destination packet.next_header packet.payload.items) c.in-Some-2.is c.in_ok-packet-in-Send.ensures.found in
    let event = events.Sends p.source p.destination p.next_header p.payload.items in
    absurd (none event (of_command Send c.args.command c.args.words.now event (sym c.in-Send.is) (p.source, p.destination, p.next_header, p.payload.items, refl, spelled)))

pub returns-in-None-2-clause-only : goal.returns-in-None-2-clause-only
returns-in-None-2-clause-only g c = λ event are.
    let theirs = of_command c.args.command Send c.args.words.now event c.in-Send.is are in
    absurd (none_and c.in_ok-packet-in-Send.field-0 _ c.in-None-2.is (c.in_ok-packet-in-Send.ensures.only theirs.0 theirs.1 theirs.2 theirs.3 theirs.5))

pub returns-in-Some-read_address-clause-malformed : goal.returns-in-Some-read_address-clause-malformed
returns-in-Some-read_address-clause-malformed g c = λ none.
    let neighbour = c.in-Some-read_address.neighbour in
    absurd (none (events.Confirms neighbour) (of_command Confirm c.args.command c.args.words.now (events.Confirms neighbour) (sym c.in-Confirm.is) (neighbour, refl, c.in-Some-read_address.ensures.found)))

pub returns-in-Some-read_address-2-clause-malformed : goal.returns-in-Some-read_address-2-clause-malformed
returns-in-Some-read_address-2-clause-malformed g c = λ none.
    let neighbour = c.in-Some-read_address-2.neighbour in
    absurd (none (events.Forgets neighbour) (of_command Forget c.args.command c.args.words.now (events.Forgets neighbour) (sym c.in-Forget.is) (neighbour, refl, c.in-Some-read_address-2.ensures.found)))

pub returns-in-Some-read_clearable-clause-malformed : goal.returns-in-Some-read_clearable-clause-malformed
returns-in-Some-read_clearable-clause-malformed g c = λ none.
    let table = clearable_of c.in-Some-read_clearable.table in
    absurd (none (events.Clears table) (of_command Clear c.args.command c.args.words.now (events.Clears table) (sym c.in-Clear.is) (table, refl, c.in-Some-read_clearable.ensures.found)))

pub returns-in-Some-read_table-clause-malformed : goal.returns-in-Some-read_table-clause-malformed
returns-in-Some-read_table-clause-malformed g c = λ none.
    let table = table_of c.in-Some-read_table.table in
    absurd (none (events.Shows table) (of_command Show c.args.command c.args.words.now (events.Shows table) (sym c.in-Show.is) (table, refl, c.in-Some-read_table.ensures.found)))

pub returns-in-Some-read_settings-clause-malformed : goal.returns-in-Some-read_settings-clause-malformed
returns-in-Some-read_settings-clause-malformed g c = λ none.
    let settings = c.in-Some-read_settings.settings in
    absurd (none (events.Advertises settings) (of_command Advertise c.args.command c.args.words.now (events.Advertises settings) (sym c.in-Advertise.is) (settings, refl, c.in-Some-read_settings.ensures.found)))

pub returns-in-Some-read_offer-clause-malformed : goal.returns-in-Some-read_offer-clause-malformed
returns-in-Some-read_offer-clause-malformed g c = λ none.
    let offer = c.in-Some-read_offer.offer in
    absurd (none (events.Offers offer) (of_command Prefix c.args.command c.args.words.now (events.Offers offer) (sym c.in-Prefix.is) (offer, refl, c.in-Some-read_offer.ensures.found)))

pub returns-in-Some-read_route-clause-malformed : goal.returns-in-Some-read_route-clause-malformed
returns-in-Some-read_route-clause-malformed g c = λ none.
    let kept = c.in-Some-read_route.route in
    let event = events.Routes kept.prefix kept.route in
    absurd (none event (of_command Route c.args.command c.args.words.now event (sym c.in-Route.is) (kept.prefix, kept.route, refl, c.in-Some-read_route.ensures.found)))

pub returns-in-Some-read_own_address-clause-malformed : goal.returns-in-Some-read_own_address-clause-malformed
returns-in-Some-read_own_address-clause-malformed g c = λ none.
    let own = c.in-Some-read_own_address.own in
    absurd (none (events.Sets own) (of_command Address c.args.command c.args.words.now (events.Sets own) (sym c.in-Address.is) (own, refl, c.in-Some-read_own_address.ensures.found)))

pub returns-in-Some-read_address-3-clause-malformed : goal.returns-in-Some-read_address-3-clause-malformed
returns-in-Some-read_address-3-clause-malformed g c = λ none.
    let address = c.in-Some-read_address-3.address in
    absurd (none (events.Withdraws address) (of_command Withdraw c.args.command c.args.words.now (events.Withdraws address) (sym c.in-Withdraw.is) (address, refl, c.in-Some-read_address-3.ensures.found)))

pub returns-in-Some-read_address-4-clause-malformed : goal.returns-in-Some-read_address-4-clause-malformed
returns-in-Some-read_address-4-clause-malformed g c = λ none.
    let destination = c.in-Some-read_address-4.destination in
    absurd (none (events.Resolves destination) (of_command Resolve c.args.command c.args.words.now (events.Resolves destination) (sym c.in-Resolve.is) (destination, refl, c.in-Some-read_address-4.ensures.found)))

pub returns-in_err-packet-in-Carry-clause-malformed : goal.returns-in_err-packet-in-Carry-clause-malformed
returns-in_err-packet-in-Carry-clause-malformed g c = λ none.
    let r = c.in_err-packet-in-Carry.ensures.malformed (λ packet w. none (events.Carries packet) (of_command Carry c.args.command c.args.words.now (events.Carries packet) (sym c.in-Carry.is) (packet, refl, w))) in
    cc

pub returns-in-Some-3-clause-malformed : goal.returns-in-Some-3-clause-malformed
returns-in-Some-3-clause-malformed g c = λ none.
    let packet = whole_parts c.in-Some-3.packet in
    let spelled = some_is c.in_ok-packet-in-Carry.field-0 c.in-Some-3.packet (λ packet. IsPacketWord c.args.words.now (whole_parts packet)) c.in-Some-3.is c.in_ok-packet-in-Carry.ensures.found in
    absurd (none (events.Carries packet) (of_command Carry c.args.command c.args.words.now (events.Carries packet) (sym c.in-Carry.is) (packet, refl, spelled)))

pub returns-in-None-3-clause-only : goal.returns-in-None-3-clause-only
returns-in-None-3-clause-only g c = λ event are.
    let theirs = of_command c.args.command Carry c.args.words.now event c.in-Carry.is are in
    absurd (none_and c.in_ok-packet-in-Carry.field-0 _ c.in-None-3.is (c.in_ok-packet-in-Carry.ensures.only theirs.0 theirs.2))
