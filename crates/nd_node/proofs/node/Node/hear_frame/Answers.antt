use Rattle.std.proofs.Common.{◌≡◌, List, ◌∷◌, false, ⊎_elim, sym, ◌∙◌, ap, subst, arith}
use Rattle.std.proofs.lemmas.Result.{IfOk-weaker}
use Rattle.nd_addr.specs.Ip6.{packet_parts}
use Rattle.nd_decode.specs.Message.{parts}
use Rattle.nd_decode.specs.Option.{Said}
use Rattle.nd_node.specs.Memory.{AddsNoName}
use Rattle.nd_validity.specs.Hearing.{Outcome, Hears, outcome, other, valid}
use Rattle.nd_validity.specs.declared.hearing.Hearing.{Hearing}
use Rattle.nd_chronicle.specs.Happening.{Passed}
use Rattle.nd_chronicle.specs.Hearing.{Judges, drops}
use Rattle.nd_chronicle.specs.Reading.{read_advertisement, read_body}
use Rattle.nd_chronicle.specs.Solicited.{body_at}
use Rattle.nd_node.proofs.Judging.{as_read, dropped_by_frame, read_by_start}
use Rattle.nd_node.proofs.Memory.{judged_by_frame, nameless, no_other}
use Rattle.nd_node.proofs.Refusals.{judged_frame}
use Rattle.nd_node.specs.declared.answer.Answer.TheVariants.{Done}
use Rattle.nd_node.specs.declared.frame.Reception.{Reception}
use Rattle.nd_node.proofs.Reporting.{answered}
use Rattle.nd_node.proofs.node.Node.hear_frame.Goals as goal

pub returns-in-Drop-clause-adds : goal.returns-in-Drop-clause-adds
returns-in-Drop-clause-adds g c =
    let h = subst (λ (r : Hearing). Hears c.args.frame.now c.args.self.now.role (outcome r)) c.in-Drop.is c.hear.ensures.heard in
    answered c.drop_unheard.result (record { answer = Done; changes_tables = false }) _ (λ adds. dropped_by_frame g.R.Rng.stream c.args.self.now c.drop_unheard.new.self c.args.outs.now.items c.drop_unheard.new.outs.items c.args.now c.args.frame.now c.in-Drop.why h adds) c.drop_unheard.ensures.adds c.drop_unheard.ensures.answer

pub returns-in-Valid-clause-adds : goal.returns-in-Valid-clause-adds
returns-in-Valid-clause-adds g c =
    let h = subst (λ (r : Hearing). Hears c.args.frame.now c.args.self.now.role (outcome r)) c.in-Valid.is c.hear.ensures.heard in
    let heard = c.in-Valid.heard in
    let said = valid heard.source heard.destination (parts heard.message) in
    IfOk-weaker c.judge_message.result _ _ (λ r adds. adds c.args.frame.now (λ start c' s.
    read_by_start g.R.Rng.stream c.args.self.now c.args.self.now c.args.outs.now.items c.args.outs.now.items c.args.now c.args.frame.now start c' said _ s h (as_read start c' c.args.self.now c.args.now heard.source heard.destination heard.message c.read_message.new.message c.read_answer.new.body
    c.read_message.ensures.body c.read_message.ensures.options (c.read_answer.ensures start c' s)))) c.judge_message.ensures.adds

pub returns-in-Drop-clause-quiet : goal.returns-in-Drop-clause-quiet
returns-in-Drop-clause-quiet g c = λ start c' s le asks.
    ⊎_elim (λ d. c.drop_unheard.ensures.quiet (omega (arith, d.told))) (λ n. c.drop_unheard.ensures.quiet (omega (arith, n.adds.told))) asks

pub returns-in-Other-clause-quiet : goal.returns-in-Other-clause-quiet
returns-in-Other-clause-quiet g c = λ start c' s le asks.
    let packet = c.in-Other.packet in
    let only = subst (λ (r : Hearing). (o : Outcome) → Hears c.args.frame.now c.args.self.now.role o → outcome r ≡ o) c.in-Other.is c.hear.ensures.only in
    ⊎_elim
    (λ d. c.hear_packet.ensures.quiet d.why start c' s le (judged_by_frame start ((c.args.now, Passed) ∷ c') c.args.now c.args.frame.now c.args.self.now.role c.args.self.now.policies c.args.self.now.mac (other (packet_parts packet)) (drops d.why) s.role s.policies s.mac only d.heard) (omega (arith, d.told)))
    (λ n. absurd (no_other c.args.self.now c.args.now c.args.frame.now _ (packet_parts packet) only n))
    asks

pub returns-in-Valid-clause-quiet : goal.returns-in-Valid-clause-quiet
returns-in-Valid-clause-quiet g c = λ start c' s le asks.
    let heard = c.in-Valid.heard in
    let policies = c.args.self.now.policies in
    let said = valid heard.source heard.destination (parts heard.message) in
    let is = as_read start c' c.args.self.now c.args.now heard.source heard.destination heard.message c.read_message.new.message c.read_answer.new.body
    c.read_message.ensures.body c.read_message.ensures.options (c.read_answer.ensures start c' s) in
    let only = subst (λ (r : Hearing). (o : Outcome) → Hears c.args.frame.now c.args.self.now.role o → outcome r ≡ o) c.in-Valid.is c.hear.ensures.only in
    ⊎_elim
    (λ d. c.judge_message.ensures.dropped c.args.frame.now d.why start c' s le
    (subst (λ (o : Outcome). Judges start ((c.args.now, Passed) ∷ c') c.args.now c.args.frame.now o (drops d.why)) (sym is)
    (judged_by_frame start ((c.args.now, Passed) ∷ c') c.args.now c.args.frame.now c.args.self.now.role policies c.args.self.now.mac said (drops d.why) s.role s.policies s.mac only d.heard)) (omega (arith, d.told)))
    (λ n. (let such = nameless c.args.self.now c.args.now c.args.frame.now _ heard.source heard.destination (parts heard.message) only n in
    c.judge_message.ensures.quiet (read_advertisement policies such.ra)
    (c.read_answer.ensures start c' s ∙ ap (body_at start c' c.args.now) (c.read_message.ensures.body ∙ ap (read_body policies) such.body)) (subst (λ (os : List Said). AddsNoName c.args.self.now c.args.now heard.source os c.args.outs.now.free) (sym c.read_message.ensures.options) such.adds)))
    asks

pub returns-in-Other-clause-refused : goal.returns-in-Other-clause-refused
returns-in-Other-clause-refused g c = λ start c' s le adds place.
    let only = subst (λ (r : Hearing). (o : Outcome) → Hears c.args.frame.now c.args.self.now.role o → outcome r ≡ o) c.in-Other.is c.hear.ensures.only in
    let j = judged_frame start c' c.args.now c.args.frame.now c.args.self.now.role c.args.self.now.policies c.args.self.now.mac (other (packet_parts c.in-Other.packet)) s.role s.policies s.mac only adds in
    c.hear_packet.ensures.refused j.0 start c' s le j.1 j.2 place

pub returns-in-Valid-clause-refused : goal.returns-in-Valid-clause-refused
returns-in-Valid-clause-refused g c = λ start c' s le adds place.
    let heard = c.in-Valid.heard in
    let said = valid heard.source heard.destination (parts heard.message) in
    let is = as_read start c' c.args.self.now c.args.now heard.source heard.destination heard.message c.read_message.new.message c.read_answer.new.body
    c.read_message.ensures.body c.read_message.ensures.options (c.read_answer.ensures start c' s) in
    let only = subst (λ (r : Hearing). (o : Outcome) → Hears c.args.frame.now c.args.self.now.role o → outcome r ≡ o) c.in-Valid.is c.hear.ensures.only in
    let j = judged_frame start c' c.args.now c.args.frame.now c.args.self.now.role c.args.self.now.policies c.args.self.now.mac said s.role s.policies s.mac only adds in
    c.judge_message.ensures.refused c.args.frame.now j.0 start c' s le (subst (λ (o : Outcome). Judges start ((c.args.now, Passed) ∷ c') c.args.now c.args.frame.now o j.0) (sym is) j.1) j.2 place

pub returns-in-Drop-clause-idle : goal.returns-in-Drop-clause-idle
returns-in-Drop-clause-idle g c = λ verdict start c' s le heard leaves.
    IfOk-weaker c.drop_unheard.result _ _ (λ r is. ap (λ (x : Reception). x.changes_tables) is) c.drop_unheard.ensures.answer

pub returns-in-Other-clause-idle : goal.returns-in-Other-clause-idle
returns-in-Other-clause-idle g c = λ verdict start c' s le heard leaves.
    let only = subst (λ (r : Hearing). (o : Outcome) → Hears c.args.frame.now c.args.self.now.role o → outcome r ≡ o) c.in-Other.is c.hear.ensures.only in
    c.hear_packet.ensures.idle verdict start c' s le
    (judged_by_frame start ((c.args.now, Passed) ∷ c') c.args.now c.args.frame.now c.args.self.now.role c.args.self.now.policies c.args.self.now.mac (other (packet_parts c.in-Other.packet)) verdict s.role s.policies s.mac only heard) leaves

pub returns-in-Valid-clause-idle : goal.returns-in-Valid-clause-idle
returns-in-Valid-clause-idle g c = λ verdict start c' s le is_heard leaves.
    let heard = c.in-Valid.heard in
    let said = valid heard.source heard.destination (parts heard.message) in
    let is = as_read start c' c.args.self.now c.args.now heard.source heard.destination heard.message c.read_message.new.message c.read_answer.new.body
    c.read_message.ensures.body c.read_message.ensures.options (c.read_answer.ensures start c' s) in
    let only = subst (λ (r : Hearing). (o : Outcome) → Hears c.args.frame.now c.args.self.now.role o → outcome r ≡ o) c.in-Valid.is c.hear.ensures.only in
    c.judge_message.ensures.idle c.args.frame.now verdict start c' s le
    (subst (λ (o : Outcome). Judges start ((c.args.now, Passed) ∷ c') c.args.now c.args.frame.now o verdict) (sym is)
    (judged_by_frame start ((c.args.now, Passed) ∷ c') c.args.now c.args.frame.now c.args.self.now.role c.args.self.now.policies c.args.self.now.mac said verdict s.role s.policies s.mac only is_heard)) leaves
