use Rattle.std.proofs.Common.{Some, ap, refl, sym}
use Rattle.nd_node.specs.Event.{request_of}
use Rattle.nd_random.specs.Source.{stream_of_source}
use Rattle.ndpctl_run.proofs.Readings.{some_is, some_and, none_and}
use Rattle.nd_link_log.specs.Event.{Event, Starts, Comes, Delivers}
use Rattle.ndpctl_link.specs.declared.command.LinkCommand.TheVariants.{Node, On, Deliver}
use Rattle.ndpctl_link.specs.NodeCommand.{IsNodeCommand}
use Rattle.ndpctl_link.proofs.LinkCommandWords.{of_link_command}
use Rattle.ndpctl_link.proofs.command.read_link_arguments.Goals as goal

pub returns-in_err-node-in-On-clause-malformed : goal.returns-in_err-node-in-On-clause-malformed
returns-in_err-node-in-On-clause-malformed g c = λ none.
    let r = c.in_err-node-in-On.ensures.malformed (λ node event comes. none (Comes node event)
    (of_link_command On c.args.command c.args.words.now (Comes node event) (sym c.in-On.is) (node, event, refl, comes))) in
    cc

pub returns-in-Some-clause-only : goal.returns-in-Some-clause-only
returns-in-Some-clause-only g c = λ event are.
    let theirs = of_link_command c.args.command Node c.args.words.now event c.in-Node.is are in
    let same = c.in-Some.ensures.only theirs.0 theirs.1 theirs.2 theirs.3 theirs.5 in
    ap (λ (e : Event). Some e) (rw (same.0, same.1, same.2, same.3) (sym theirs.4))

pub returns-in-Some-clause-malformed : goal.returns-in-Some-clause-malformed
returns-in-Some-clause-malformed g c = λ none.
    let start = c.in-Some.start in
    let event = Starts start.role start.mac start.transmits (stream_of_source start.source) in
    absurd (none event (of_link_command Node c.args.command c.args.words.now event (sym c.in-Node.is) (start.role, start.mac, start.transmits, start.source, refl, c.in-Some.ensures.found)))

pub returns-in-None-clause-only : goal.returns-in-None-clause-only
returns-in-None-clause-only g c = λ event are.
    let theirs = of_link_command c.args.command Node c.args.words.now event c.in-Node.is are in
    absurd (c.in-None.ensures.only theirs.0 theirs.1 theirs.2 theirs.3 theirs.5)

pub returns-in-Some-2-clause-only : goal.returns-in-Some-2-clause-only
returns-in-Some-2-clause-only g c = λ event are.
    let theirs = of_link_command c.args.command On c.args.words.now event c.in-On.is are in
    let same = some_and c.in_ok-node-in-On.field-0 _ _ c.in-Some-2.is (c.in_ok-node-in-On.ensures.only theirs.0 theirs.1 theirs.3) in
    ap (λ (e : Event). Some e) (rw (same.0, same.1) (sym theirs.2))

pub returns-in-Some-2-clause-malformed : goal.returns-in-Some-2-clause-malformed
returns-in-Some-2-clause-malformed g c = λ none.
    let event = Comes c.in-Some-2.node (request_of c.in-Some-2.event) in
    let comes = some_is c.in_ok-node-in-On.field-0 _ (λ comes. IsNodeCommand c.args.words.now comes.0 (request_of comes.1)) c.in-Some-2.is c.in_ok-node-in-On.ensures.found in
    absurd (none event (of_link_command On c.args.command c.args.words.now event (sym c.in-On.is) (c.in-Some-2.node, request_of c.in-Some-2.event, refl, comes)))

pub returns-in-None-2-clause-only : goal.returns-in-None-2-clause-only
returns-in-None-2-clause-only g c = λ event are.
    let theirs = of_link_command c.args.command On c.args.words.now event c.in-On.is are in
    absurd (none_and c.in_ok-node-in-On.field-0 _ c.in-None-2.is (c.in_ok-node-in-On.ensures.only theirs.0 theirs.1 theirs.3))

pub returns-in-Some-read_delivery-clause-only : goal.returns-in-Some-read_delivery-clause-only
returns-in-Some-read_delivery-clause-only g c = λ event are.
    let theirs = of_link_command c.args.command Deliver c.args.words.now event c.in-Deliver.is are in
    let same = c.in-Some-read_delivery.ensures.only theirs.0 theirs.1 theirs.3 in
    ap (λ (e : Event). Some e) (rw (same.0, same.1) (sym theirs.2))

pub returns-in-Some-read_delivery-clause-malformed : goal.returns-in-Some-read_delivery-clause-malformed
returns-in-Some-read_delivery-clause-malformed g c = λ none.
    let event = Delivers c.in-Some-read_delivery.node c.in-Some-read_delivery.frame in
    absurd (none event (of_link_command Deliver c.args.command c.args.words.now event (sym c.in-Deliver.is) (c.in-Some-read_delivery.node, c.in-Some-read_delivery.frame, refl, c.in-Some-read_delivery.ensures.found)))

pub returns-in-None-read_delivery-clause-only : goal.returns-in-None-read_delivery-clause-only
returns-in-None-read_delivery-clause-only g c = λ event are.
    let theirs = of_link_command c.args.command Deliver c.args.words.now event c.in-Deliver.is are in
    absurd (c.in-None-read_delivery.ensures.only theirs.0 theirs.1 theirs.3)
