use Rattle.std.proofs.Common.{subst, sym}
use Rattle.nd_random.specs.Source.{stream_of_source}
use Rattle.ndpctl_run.proofs.Partings.{in_front, with_rest}
use Rattle.ndpctl_run.proofs.Readings.{mapped, not_mapped, some_is}
use Rattle.ndpctl_link.specs.Command.{IsLinkCommand}
use Rattle.nd_link.specs.Event.{link_event}
use Rattle.ndpctl_link.proofs.line.read_line.Goals as goal

pub returns-in_default-clause-only : goal.returns-in_default-clause-only
returns-in_default-clause-only g c = λ at event l. c.in_default.ensures.only at l.rest (in_front c.args.line.now _ _ l)

pub returns-in_err-event-clause-malformed : goal.returns-in_err-event-clause-malformed
returns-in_err-event-clause-malformed g c = λ none.
    let r = c.in_err-event.ensures.malformed (λ event e. none c.in-Some.at event (with_rest c.args.line.now c.in-Some.rest.now _ _ c.in-Some.ensures.found e)) in
    cc

pub returns-in-Some-2-clause-found : goal.returns-in-Some-2-clause-found
returns-in-Some-2-clause-found g c =
    with_rest c.args.line.now c.in-Some.rest.now _ _ c.in-Some.ensures.found
    (some_is c.in_ok-event.field-0 c.in-Some-2.event (λ event. IsLinkCommand c.in-Some.rest.now (link_event stream_of_source event)) c.in-Some-2.is c.in_ok-event.ensures.found)

pub returns-in-Some-2-clause-only : goal.returns-in-Some-2-clause-only
returns-in-Some-2-clause-only g c = λ at event l.
    let same = c.in-Some.ensures.only at l.rest (in_front c.args.line.now _ _ l) in
    let spelled = subst (λ words. IsLinkCommand words event) (sym same.1) l.behind in
    (same.0, mapped (link_event stream_of_source) _ c.in-Some-2.event event c.in-Some-2.is (c.in_ok-event.ensures.only event spelled))

pub returns-in-Some-2-clause-malformed : goal.returns-in-Some-2-clause-malformed
returns-in-Some-2-clause-malformed g c = λ none.
    absurd (none c.in-Some.at (link_event stream_of_source c.in-Some-2.event)
    (with_rest c.args.line.now c.in-Some.rest.now _ _ c.in-Some.ensures.found
    (some_is c.in_ok-event.field-0 c.in-Some-2.event (λ event. IsLinkCommand c.in-Some.rest.now (link_event stream_of_source event)) c.in-Some-2.is c.in_ok-event.ensures.found)))

pub returns-in-None-clause-only : goal.returns-in-None-clause-only
returns-in-None-clause-only g c = λ at event l.
    let same = c.in-Some.ensures.only at l.rest (in_front c.args.line.now _ _ l) in
    let spelled = subst (λ words. IsLinkCommand words event) (sym same.1) l.behind in
    not_mapped (link_event stream_of_source) _ event c.in-None.is (c.in_ok-event.ensures.only event spelled)
