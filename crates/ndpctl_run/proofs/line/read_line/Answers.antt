use Rattle.std.proofs.Common.{subst, sym}
use Rattle.nd_node.specs.Event.{request_of}
use Rattle.ndpctl_run.specs.Command.{IsCommand}
use Rattle.ndpctl_run.proofs.Lines.{is_line, moment_in}
use Rattle.ndpctl_run.proofs.Readings.{mapped, not_mapped, some_is}
use Rattle.ndpctl_run.proofs.line.read_line.Goals as goal

pub returns-in_default-clause-only : goal.returns-in_default-clause-only
returns-in_default-clause-only g c = λ at event l. c.in_default.ensures.only at l.words (moment_in _ at event l)

pub returns-in_err-event-clause-malformed : goal.returns-in_err-event-clause-malformed
returns-in_err-event-clause-malformed g c = λ none.
    let r = c.in_err-event.ensures.malformed (λ event e. none c.in-Some.at event (is_line c.args.line.now c.in-Some.rest.now c.in-Some.at event c.in-Some.ensures.found e)) in
    cc

pub returns-in-Some-2-clause-found : goal.returns-in-Some-2-clause-found
returns-in-Some-2-clause-found g c =
    is_line c.args.line.now c.in-Some.rest.now c.in-Some.at _ c.in-Some.ensures.found (some_is c.in_ok-event.field-0 c.in-Some-2.event (λ event. IsCommand c.in-Some.rest.now (request_of event)) c.in-Some-2.is c.in_ok-event.ensures.found)

pub returns-in-Some-2-clause-only : goal.returns-in-Some-2-clause-only
returns-in-Some-2-clause-only g c = λ at event l.
    let same = c.in-Some.ensures.only at l.words (moment_in _ at event l) in
    let spelled = subst (λ words. IsCommand words event) (sym same.1) l.spelled in
    (same.0, mapped request_of _ c.in-Some-2.event event c.in-Some-2.is (c.in_ok-event.ensures.only event spelled))

pub returns-in-Some-2-clause-malformed : goal.returns-in-Some-2-clause-malformed
returns-in-Some-2-clause-malformed g c = λ none.
    absurd (none c.in-Some.at (request_of c.in-Some-2.event)
    (is_line c.args.line.now c.in-Some.rest.now c.in-Some.at _ c.in-Some.ensures.found (some_is c.in_ok-event.field-0 c.in-Some-2.event (λ event. IsCommand c.in-Some.rest.now (request_of event)) c.in-Some-2.is c.in_ok-event.ensures.found)))

pub returns-in-None-clause-only : goal.returns-in-None-clause-only
returns-in-None-clause-only g c = λ at event l.
    let same = c.in-Some.ensures.only at l.words (moment_in _ at event l) in
    let spelled = subst (λ words. IsCommand words event) (sym same.1) l.spelled in
    not_mapped request_of _ event c.in-None.is (c.in_ok-event.ensures.only event spelled)
