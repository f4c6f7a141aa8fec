use Rattle.std.proofs.Common.{rules, ◌≡◌, Some, None}
use Rattle.nd_random.specs.Source.{stream_of_source}
use Rattle.ndpctl_run.proofs.Readings.{none_is, some_is}
use Rattle.nd_link.specs.Event.{link_event}
use Rattle.ndpctl_link.specs.ScriptLaws.{malformed_line}
use Rattle.ndpctl_link.specs.Line.{IsLinkLine}
use Rattle.ndpctl_link.proofs.LinkRuns.{event_first}
use Rattle.ndpctl_link.proofs.script.LinkScriptAnswering.answer.Goals as goal

pub returns-in-Ok-None-clause-malformed : goal.returns-in-Ok-None-clause-malformed
returns-in-Ok-None-clause-malformed g c = λ _.
    let is : c.in-Ok-None.field-0 ≡ None = search rules in
    let nothing = none_is c.in-Ok-None.field-0 _ is c.in-Ok-None.ensures.malformed in
    malformed_line g.W.Wire.arrives stream_of_source c.args.self.now.link c.args.line.now (λ at event said. nothing at event said.spelled)

pub returns-in-Ok-clause-answered : goal.returns-in-Ok-clause-answered
returns-in-Ok-clause-answered g c = λ _.
    let read = c.in-Ok-Some.read in
    let is : c.in-Ok-Some.field-0 ≡ Some c.in-Ok-Some.read = search rules in
    let spelled = some_is c.in-Ok-Some.field-0 c.in-Ok-Some.read (λ read. IsLinkLine c.args.line.now read.at (link_event stream_of_source read.event)) is c.in-Ok-Some.ensures.found in
    (c.in-Ok.ensures.answered.told, c.in-Ok.ensures.answered.written, λ end. event_first g.W.Wire.arrives stream_of_source c.args.self.now.link c.event.new.self.link read.at (link_event stream_of_source read.event) c.args.line.now _ _ (record { short = c.requires; spelled = spelled }) c.in-Ok.ensures.answered end.link)

pub returns-in-Ok-None-clause-only : goal.returns-in-Ok-None-clause-only
returns-in-Ok-None-clause-only g c = λ _.
    let is : c.in-Ok-None.field-0 ≡ None = search rules in
    let nothing = none_is c.in-Ok-None.field-0 _ is c.in-Ok-None.ensures.malformed in
    λ at event said. nothing at event said.spelled

pub returns-in-Err-clause-none : goal.returns-in-Err-clause-none
returns-in-Err-clause-none g c = λ nothing.
    let is = c.read.ensures.quiet (λ at event spelled. nothing at event (record { short = c.requires; spelled = spelled })) in
    search rules
