use Rattle.std.proofs.Common.{rules, ◌≡◌, ap, Ok, Some, None}
use Rattle.nd_lines.specs.declared.answering.Extent.TheVariants.{Whole, InPart}
use Rattle.nd_node.specs.Event.{request_of}
use Rattle.ndpctl_run.specs.ScriptLaws.{malformed_line}
use Rattle.ndpctl_run.specs.Line.{IsLine}
use Rattle.ndpctl_run.proofs.Readings.{none_is, some_is}
use Rattle.ndpctl_run.proofs.InPart.{part_told}
use Rattle.ndpctl_run.proofs.Runs.{event_first}
use Rattle.ndpctl_run.proofs.script.ScriptAnswering.answer.Goals as goal

pub returns-in-Ok-None-clause-malformed : goal.returns-in-Ok-None-clause-malformed
returns-in-Ok-None-clause-malformed g c = λ _.
    let is : c.in-Ok-None.field-0 ≡ None = search rules in
    let nothing = none_is c.in-Ok-None.field-0 _ is c.in-Ok-None.ensures.malformed in
    malformed_line g.R.Rng.stream c.args.self.now.node c.args.line.now (λ at event said. nothing at event said.spelled)

pub returns-in-Ok-clause-answered : goal.returns-in-Ok-clause-answered
returns-in-Ok-clause-answered g c = λ whole.
    let read = c.in-Ok-Some.read in
    let is : c.in-Ok-Some.field-0 ≡ Some c.in-Ok-Some.read = search rules in
    let spelled = some_is c.in-Ok-Some.field-0 c.in-Ok-Some.read (λ read. IsLine c.args.line.now read.at (request_of read.event)) is c.in-Ok-Some.ensures.found in
    let is_whole : c.in-Ok.extent ≡ Whole = cc in
    let a = c.in-Ok.ensures.whole (ap Ok is_whole) in
    (a.told, a.written, λ end. event_first g.R.Rng.stream c.args.self.now.node c.answer_event.new.self.node c.args.line.now read.at (request_of read.event) _ _ (record { short = c.requires; spelled = spelled }) a end.node)

pub returns-in-Ok-clause-in_part : goal.returns-in-Ok-clause-in_part
returns-in-Ok-clause-in_part g c = λ part.
    let is_part : c.in-Ok.extent ≡ InPart = cc in
    let read = c.in-Ok-Some.read in
    let is : c.in-Ok-Some.field-0 ≡ Some c.in-Ok-Some.read = search rules in
    let spelled = some_is c.in-Ok-Some.field-0 c.in-Ok-Some.read (λ read. IsLine c.args.line.now read.at (request_of read.event)) is c.in-Ok-Some.ensures.found in
    part_told g.R.Rng.stream _ (λ script. script.node) c.args.self.now c.answer_event.new.self c.args.line.now read.at (request_of read.event) _ _ c.one_reading.ensures (record { short = c.requires; spelled = spelled }) (c.in-Ok.ensures.in_part (ap Ok is_part))

pub returns-in-Ok-clause-fewer : goal.returns-in-Ok-clause-fewer
returns-in-Ok-clause-fewer g c = λ part.
    let is_part : c.in-Ok.extent ≡ InPart = cc in
    c.in-Ok.ensures.fewer (ap Ok is_part)

pub returns-in-Ok-None-clause-only : goal.returns-in-Ok-None-clause-only
returns-in-Ok-None-clause-only g c = λ _.
    let is : c.in-Ok-None.field-0 ≡ None = search rules in
    let nothing = none_is c.in-Ok-None.field-0 _ is c.in-Ok-None.ensures.malformed in
    λ at event said. nothing at event said.spelled

pub returns-in-Err-clause-none : goal.returns-in-Err-clause-none
returns-in-Err-clause-none g c = λ nothing.
    let is = c.read.ensures.quiet (λ at event spelled. nothing at event (record { short = c.requires; spelled = spelled })) in
    search rules
