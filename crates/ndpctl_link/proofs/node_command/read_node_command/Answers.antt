use Rattle.std.proofs.Common.{subst, sym}
use Rattle.nd_node.specs.Event.{request_of}
use Rattle.ndpctl_run.proofs.Partings.{in_front, with_rest}
use Rattle.ndpctl_run.proofs.Readings.{mapped, not_mapped, some_is}
use Rattle.ndpctl_link.specs.NodeCommand.{IsOwnCommand}
use Rattle.ndpctl_link.proofs.node_command.read_node_command.Goals as goal

pub returns-in_default-clause-only : goal.returns-in_default-clause-only
returns-in_default-clause-only g c = λ node event p. c.in_default.ensures.only node p.rest (in_front c.args.words.now _ _ p)

pub returns-in_err-event-clause-malformed : goal.returns-in_err-event-clause-malformed
returns-in_err-event-clause-malformed g c = λ none.
    let r = c.in_err-event.ensures.malformed (λ event own. none c.in-Some.node event (with_rest c.args.words.now c.in-Some.command.now _ _ c.in-Some.ensures.found own)) in
    cc

pub returns-in-Some-2-clause-only : goal.returns-in-Some-2-clause-only
returns-in-Some-2-clause-only g c = λ node event p.
    let same = c.in-Some.ensures.only node p.rest (in_front c.args.words.now _ _ p) in
    let own = subst (λ bytes. IsOwnCommand bytes event) (sym same.1) p.behind in
    (same.0, mapped request_of _ c.in-Some-2.event event c.in-Some-2.is (c.in_ok-event.ensures.only event own))

pub returns-in-Some-2-clause-malformed : goal.returns-in-Some-2-clause-malformed
returns-in-Some-2-clause-malformed g c = λ none.
    absurd (none c.in-Some.node (request_of c.in-Some-2.event)
    (with_rest c.args.words.now c.in-Some.command.now _ _ c.in-Some.ensures.found
    (some_is c.in_ok-event.field-0 c.in-Some-2.event (λ event. IsOwnCommand c.in-Some.command.now (request_of event)) c.in-Some-2.is c.in_ok-event.ensures.found)))

pub returns-in-None-clause-only : goal.returns-in-None-clause-only
returns-in-None-clause-only g c = λ node event p.
    let same = c.in-Some.ensures.only node p.rest (in_front c.args.words.now _ _ p) in
    let own = subst (λ bytes. IsOwnCommand bytes event) (sym same.1) p.behind in
    not_mapped request_of _ event c.in-None.is (c.in_ok-event.ensures.only event own)
