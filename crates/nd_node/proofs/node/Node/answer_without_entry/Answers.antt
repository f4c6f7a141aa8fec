use Rattle.std.proofs.Common.{refl}
use Rattle.nd_node.specs.Hearing.{options_read}
use Rattle.nd_node.proofs.WithoutEntry.{answers_without_entry}
use Rattle.nd_node.proofs.node.Node.answer_without_entry.Goals as goal

pub returns-clause-adds : goal.returns-clause-adds
returns-clause-adds g c =
    let old = c.args.self.now in
    let room = c.in_ok-reserve.ensures in
    let mac = rw c.own_mac.ensures at c.answer_address-mac.ensures in
    let answer = rw (c.in_ok-answer.ensures, mac) at c.tell_answer.ensures.told in
    answers_without_entry g.R.Rng.stream old c.args.now c.args.heard.now.source c.args.heard.now.destination c.args.ns.now (options_read old c.args.heard.now.message.options) c.requires.specified c.requires.settled c.requires.parts c.requires.placed
    c.report_heard.new.self c.args.outs.now.items c.reserve.new.self.items c.report_heard.new.outs.items c.tell_answer.new.outs.items c.tell_ignored.new.outs.items _ refl c.report_heard.ensures.clock
    room.items (rw c.requires.body at c.report_heard.ensures.items) c.is_router-router.result c.is_router-router.ensures answer c.tell_ignored.ensures.told
