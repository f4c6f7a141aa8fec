use Rattle.std.proofs.Common.{◌∷◌, false, sym, ap, ◌∙◌}
use Rattle.std.proofs.lemmas.Bool.{true≢false}
use Rattle.std.proofs.lemmas.Result.{IfOk-weaker}
use Rattle.nd_chronicle.specs.Happening.{Passed}
use Rattle.nd_chronicle.specs.Hearing.{IsForUs}
use Rattle.nd_node.specs.Hearing.{options_read, parts_read}
use Rattle.nd_node.proofs.Judging.{message_is_heard, message_taken, message_is_misdirected, message_is_strange, one_source, same_target}
use Rattle.nd_node.proofs.Memory.{misdirected}
use Rattle.nd_node.specs.declared.answer.Answer.TheVariants.{Done}
use Rattle.nd_node.specs.declared.frame.Reception.{Reception}
use Rattle.nd_node.proofs.Reporting.{answered}
use Rattle.nd_node.proofs.node.Node.judge_message.Goals as goal

pub returns-then-not-is_for_us-clause-adds : goal.returns-then-not-is_for_us-clause-adds
returns-then-not-is_for_us-clause-adds g c =
    let m = c.args.heard.now.message in
    answered c.drop_unheard.result (record { answer = Done; changes_tables = false }) _ (λ adds frame h. message_is_strange g.R.Rng.stream c.args.self.now c.drop_unheard.new.self c.args.outs.now.items c.drop_unheard.new.outs.items c.args.now frame
    c.args.heard.now.source c.args.heard.now.destination (parts_read c.args.self.now m) h c.is_for_us.result c.is_for_us.ensures (same_target c.args.now c.args.heard.now.source m.body (options_read c.args.self.now m.options)) c.if-not-is_for_us.true adds)
    c.drop_unheard.ensures.adds c.drop_unheard.ensures.answer

pub returns-then-not-is_from_first_hop-clause-adds : goal.returns-then-not-is_from_first_hop-clause-adds
returns-then-not-is_from_first_hop-clause-adds g c =
    let m = c.args.heard.now.message in
    answered c.drop_unheard-then-not-is_from_first_hop.result (record { answer = Done; changes_tables = false }) _ (λ adds frame h. message_is_misdirected g.R.Rng.stream c.args.self.now c.drop_unheard-then-not-is_from_first_hop.new.self c.args.outs.now.items c.drop_unheard-then-not-is_from_first_hop.new.outs.items c.args.now frame
    c.args.heard.now.source c.args.heard.now.destination (parts_read c.args.self.now m) h c.is_for_us.result c.is_for_us.ensures (same_target c.args.now c.args.heard.now.source m.body (options_read c.args.self.now m.options)) c.if-not-is_for_us.false
    (λ start c' s le. c.is_from_first_hop.ensures.not_from start c' s le c.if-not-is_from_first_hop.true) adds)
    c.drop_unheard-then-not-is_from_first_hop.ensures.adds c.drop_unheard-then-not-is_from_first_hop.ensures.answer

pub returns-clause-adds : goal.returns-clause-adds
returns-clause-adds g c =
    let m = c.args.heard.now.message in
    λ frame h. message_taken g.R.Rng.stream c.args.self.now c.hear_message.new.self c.args.outs.now.items c.hear_message.new.outs.items c.args.now frame
    c.args.heard.now.source c.args.heard.now.destination (parts_read c.args.self.now m) h c.is_for_us.result c.is_for_us.ensures (same_target c.args.now c.args.heard.now.source m.body (options_read c.args.self.now m.options)) c.if-not-is_for_us.false
    (λ start c' s le. c.is_from_first_hop.ensures.from start c' s le c.if-not-is_from_first_hop.false)
    c.in_ok-answer.ensures.adds

pub returns-in_err-answer-clause-dropped : goal.returns-in_err-answer-clause-dropped
returns-in_err-answer-clause-dropped g c = λ frame why start c' s le judged place.
    let m = c.args.heard.now.message in
    let source = c.args.heard.now.source in
    let ours = (c.is_for_us.ensures start c' s).0 c.if-not-is_for_us.false in
    let later : IsForUs start ((c.args.now, Passed) ∷ c') source c.args.heard.now.destination (parts_read c.args.self.now m) = record { destination_is = ours.destination_is; target = same_target c.args.now source m.body (options_read c.args.self.now m.options) c' ∙ ours.target; awake = ours.awake; foreign = ours.foreign; allowed = ours.allowed } in
    absurd (one_source start ((c.args.now, Passed) ∷ c') c.args.now source m.body (c.is_from_first_hop.ensures.from start c' s le c.if-not-is_from_first_hop.false)
    (misdirected start ((c.args.now, Passed) ∷ c') c.args.now source c.args.heard.now.destination (parts_read c.args.self.now m) why later judged))

pub returns-in_err-answer-clause-refused : goal.returns-in_err-answer-clause-refused
returns-in_err-answer-clause-refused g c = λ frame verdict start c' s le judged adds place. absurd (true≢false (sym (c.in_err-answer.ensures.refused frame verdict start c' s le judged adds place)))

pub returns-then-not-is_for_us-clause-idle : goal.returns-then-not-is_for_us-clause-idle
returns-then-not-is_for_us-clause-idle g c = λ frame verdict start c' s le judged leaves.
    IfOk-weaker c.drop_unheard.result _ _ (λ r is. ap (λ (x : Reception). x.changes_tables) is) c.drop_unheard.ensures.answer

pub returns-then-not-is_from_first_hop-clause-idle : goal.returns-then-not-is_from_first_hop-clause-idle
returns-then-not-is_from_first_hop-clause-idle g c = λ frame verdict start c' s le judged leaves.
    IfOk-weaker c.drop_unheard-then-not-is_from_first_hop.result _ _ (λ r is. ap (λ (x : Reception). x.changes_tables) is) c.drop_unheard-then-not-is_from_first_hop.ensures.answer

pub returns-clause-idle : goal.returns-clause-idle
returns-clause-idle g c = λ frame verdict start c' s le judged leaves.
    let m = c.args.heard.now.message in
    let source = c.args.heard.now.source in
    let ours = (c.is_for_us.ensures start c' s).0 c.if-not-is_for_us.false in
    let later : IsForUs start ((c.args.now, Passed) ∷ c') source c.args.heard.now.destination (parts_read c.args.self.now m) = record { destination_is = ours.destination_is; target = same_target c.args.now source m.body (options_read c.args.self.now m.options) c' ∙ ours.target; awake = ours.awake; foreign = ours.foreign; allowed = ours.allowed } in
    absurd (message_is_heard start ((c.args.now, Passed) ∷ c') c.args.now source c.args.heard.now.destination (parts_read c.args.self.now m) verdict later (c.is_from_first_hop.ensures.from start c' s le c.if-not-is_from_first_hop.false) judged leaves)
