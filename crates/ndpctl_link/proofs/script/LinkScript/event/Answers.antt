use Rattle.std.proofs.Common.{◌++◌, ◌∙◌, ap, subst, string_bytes}
use Rattle.nd_random.specs.Source.{stream_of_source}
use Rattle.nd_link.specs.Event.{link_event}
use Rattle.nd_link.specs.Run.{FollowsBy}
use Rattle.nd_link.specs.Time.{Leads}
use Rattle.nd_link.specs.Told.{told_text}
use Rattle.nd_link.proofs.Coming.{handed_back, handed_on}
use Rattle.ndpctl_link.proofs.LinkRuns.{event_answered, passed}
use Rattle.ndpctl_link.proofs.script.LinkScript.event.Goals as goal

pub returns-clause-answered : goal.returns-clause-answered
returns-clause-answered g c =
    let event = link_event stream_of_source c.args.event in
    event_answered g.W.Wire.arrives stream_of_source c.args.self.now.link c.event.new.self c.args.at event c.event.new.told.items (string_bytes c.args.text.now) (string_bytes c.write_told.new.text)
    c.in_ok-event.ensures.bytes
    (λ faithful. subst (λ l. Leads stream_of_source c.args.self.now.link c.event.new.self l c.event.new.told.items (FollowsBy c.args.at event)) c.clear.ensures.items (c.in_ok-event.ensures.follows faithful))
    (c.in_ok-write_told.ensures ∙ ap (λ l. string_bytes c.args.text.now ++ told_text l) c.deref.ensures.value)

pub returns-in_err-event-clause-passes : goal.returns-in_err-event-clause-passes
returns-in_err-event-clause-passes g c = λ wire.
    passed g.W.Wire.arrives stream_of_source c.args.self.now.link c.event.new.self c.args.at (link_event stream_of_source c.args.event) _ _ (c.in_err-event.ensures.passes (handed_on c.from_residual.result _ _ c.from_residual.ensures.1 wire))

pub returns-in_err-event-clause-wire_failed : goal.returns-in_err-event-clause-wire_failed
returns-in_err-event-clause-wire_failed g c = λ wire. c.in_err-event.ensures.wire_failed (handed_on c.from_residual.result _ _ c.from_residual.ensures.1 wire)

pub returns-in_err-event-clause-wire_carried : goal.returns-in_err-event-clause-wire_carried
returns-in_err-event-clause-wire_carried g c = λ other. c.in_err-event.ensures.wire_carried (λ is. other (handed_back c.from_residual.result _ _ c.from_residual.ensures.1 is))
