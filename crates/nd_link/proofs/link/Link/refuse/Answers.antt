use Rattle.std.proofs.lemmas.Result.{on_ok_weaker}
use Rattle.nd_link.specs.Told.{refusal_of}
use Rattle.nd_link.proofs.Arriving.{no_late_refusal, refused_leads}
use Rattle.nd_link.proofs.link.Link.refuse.Goals as goal

pub returns-clause-leads : goal.returns-clause-leads
returns-clause-leads g c =
    on_ok_weaker c.tell_refused.result
    (λ t. refused_leads g.R.Rng.stream c.args.self.now c.reach.new.self c.args.told.now.items c.tell_refused.new.told.items c.args.now (refusal_of c.args.why) (no_late_refusal c.args.why c.requires.not_late) c.reach.ensures.reaches t)
    c.tell_refused.ensures.tells
