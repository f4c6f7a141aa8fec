use Rattle.std.proofs.Common.{Some, Err, ◌∙◌, subst}
use Rattle.nd_chronicle.specs.Event as events
use Rattle.nd_link.specs.Arrival.{Arrives}
use Rattle.nd_link.specs.Delivery.{Goes, IsWay}
use Rattle.nd_link.proofs.Answering.{delivered, leads_from, refused_delivery, same_stands}
use Rattle.nd_link.proofs.Refusing.{deliver_left}
use Rattle.nd_link.proofs.link.Link.deliver.Goals as goal

pub returns-in_ok-arrive-in-Ok-clause-leads : goal.returns-in_ok-arrive-in-Ok-clause-leads
returns-in_ok-arrive-in-Ok-clause-leads g c = λ faithful.
    let frames = c.args.self.now.frames.items in
    let frame = c.in_ok-frame-in-Ok in
    let goes = subst (λ count. Goes count frames c.args.node c.args.number (c.in-Ok.place, c.in-Ok.sent)) (c.len.ensures ∙ c.args.self.now.nodes.ok.0)
    (subst (λ kept. Goes c.len.result kept c.args.node c.args.number (c.in-Ok.place, c.in-Ok.sent)) c.deref.ensures.value c.in-Ok.ensures) in
    delivered g.R.Rng.stream c.args.self.now c.arrive.new.self c.args.told.now.items c.arrive.new.told.items c.args.now c.args.node c.args.number g.W.Wire.arrives (c.in-Ok.place, c.in-Ok.sent) frame.frame.items faithful goes
    frame.ensures.arrives
    (leads_from g.R.Rng.stream c.args.self.now c.carried.new.self c.arrive.new.self c.args.told.now.items c.arrive.new.told.items (Arrives c.args.now c.in-Ok.place (events.Receives frame.frame.items) (Some c.args.number))
    (same_stands g.R.Rng.stream c.args.self.now c.carried.new.self frame.ensures.same frame.ensures.frames frame.ensures.last) (c.in_ok-arrive-in-Ok.ensures.leads (Some c.args.number)))

pub returns-in_ok-refuse-in-Err-clause-leads : goal.returns-in_ok-refuse-in-Err-clause-leads
returns-in_ok-refuse-in-Err-clause-leads g c = λ faithful.
    let frames = c.args.self.now.frames.items in
    let way = subst (λ count. IsWay count frames c.args.node c.args.number (Err c.in-Err.why)) (c.len.ensures ∙ c.args.self.now.nodes.ok.0)
    (subst (λ kept. IsWay c.len.result kept c.args.node c.args.number (Err c.in-Err.why)) c.deref.ensures.value c.in-Err.ensures) in
    refused_delivery g.R.Rng.stream c.args.self.now c.refuse.new.self c.args.told.now.items c.refuse.new.told.items c.args.now c.args.node c.args.number c.in-Err.why way c.in_ok-refuse-in-Err.ensures.leads

pub returns-in_err-frame-in-Ok-clause-refused : goal.returns-in_err-frame-in-Ok-clause-refused
returns-in_err-frame-in-Ok-clause-refused g c = λ why log s h place.
    let frames = c.args.self.now.frames.items in
    let goes = subst (λ count. Goes count frames c.args.node c.args.number (c.in-Ok.place, c.in-Ok.sent)) (c.len.ensures ∙ c.args.self.now.nodes.ok.0)
    (subst (λ kept. Goes c.len.result kept c.args.node c.args.number (c.in-Ok.place, c.in-Ok.sent)) c.deref.ensures.value c.in-Ok.ensures) in
    absurd (deliver_left g.R.Rng.stream c.args.self.now c.args.now why log s c.args.node c.args.number (c.in-Ok.place, c.in-Ok.sent) goes h)

pub returns-in_err-arrive-in-Ok-clause-refused : goal.returns-in_err-arrive-in-Ok-clause-refused
returns-in_err-arrive-in-Ok-clause-refused g c = λ why log s h place.
    let frames = c.args.self.now.frames.items in
    let goes = subst (λ count. Goes count frames c.args.node c.args.number (c.in-Ok.place, c.in-Ok.sent)) (c.len.ensures ∙ c.args.self.now.nodes.ok.0)
    (subst (λ kept. Goes c.len.result kept c.args.node c.args.number (c.in-Ok.place, c.in-Ok.sent)) c.deref.ensures.value c.in-Ok.ensures) in
    absurd (deliver_left g.R.Rng.stream c.args.self.now c.args.now why log s c.args.node c.args.number (c.in-Ok.place, c.in-Ok.sent) goes h)
