use Rattle.std.proofs.Common.{◌≡◌, refl, sym, subst, ap, ◌∙◌, true, false}
use Rattle.std.proofs.lemmas.Bool.{true≢false}
use Rattle.nd_chronicle.specs.Parts.{as_placed}
use Rattle.nd_steps.specs.Parts.{said_in_place}
use Rattle.nd_steps.proofs.InPlace.{said_without}
use Rattle.std.specs.Prelude.{Bool}
use Rattle.std.specs.Option.{option_map}
use Rattle.nd_node.specs.Hearing.{options_read}
use Rattle.nd_neighbour.specs.declared.news.Times.{Times}
use Rattle.nd_addr.specs.Number.{number_of}
use Rattle.nd_addr.specs.declared.addr.Addr.{Addr}
use Rattle.nd_chronicle.specs.Full.{entering, Placed}
use Rattle.nd_chronicle.specs.Message.{makes_way}
use Rattle.nd_chronicle.specs.Start.{Policies}
use Rattle.nd_steps.specs.NeighbourCache.{said_by}
use Rattle.nd_decode.specs.declared.body.Body.TheVariants as bodies
use Rattle.nd_node.proofs.Givers.{takes_plainly}
use Rattle.nd_node.proofs.Recalling.{may_redirects, room_kept, room_then}
use Rattle.nd_node.proofs.PlainMessages.{adds_in_place, items_planned, moment_planned, message_refused, plain_solicitation, planned, stands_planned, none_full}
use Rattle.nd_node.specs.declared.answer.Answer.TheVariants.{Refused}
use Rattle.nd_out.specs.declared.out.Refusal.TheVariants.{Full}
use Rattle.nd_out.specs.declared.out.Limit.TheVariants.{Neighbours}
use Rattle.nd_node.proofs.Reporting.{answered}
use Rattle.nd_node.proofs.node.Node.hear_router_solicitation.Goals as goal
use Rattle.nd_node.proofs.node.Node.hear_router_solicitation.Goals.{else-not-place-via-then-not-place+else-not-parts, else-not-place-via-else-not-place}

pub returns-then-not-parts-clause-adds : goal.returns-then-not-parts-clause-adds
returns-then-not-parts-clause-adds g c =
    let times : Times = record { retrans = 0; reachable = c.args.self.now.params.reachable_time } in
    answered c.refuse.result (Refused (Full Neighbours)) _ (message_refused g.R.Rng.stream c.args.self.now c.args.now c.args.heard.now.source c.args.heard.now.destination bodies.Rs (options_read c.args.self.now c.args.heard.now.message.options) (planned c.args.now) (plain_solicitation c.args.now c.args.heard.now.source c.args.heard.now.destination (options_read c.args.self.now c.args.heard.now.message.options)) c.requires.settled times c.news_of-news.result
    (rw (c.own_mac.ensures, c.requires.body) at (c.news_of-news.ensures times)) refl c.refuse.new.self c.args.outs.now.items c.refuse.new.outs.items (sym c.parts.ensures ∙ c.if-not-parts.true)
    (λ start c' s. subst (λ (b : Bool). Placed start c' c.args.now (makes_way start (option_map (said_by times) c.news_of-news.result)) (entering (option_map (said_by times) c.news_of-news.result)) b) c.if-not-place.true (c.has_place-place.ensures.placed start c' times s.limits.neighbours (c.speakers-speakers.ensures ∙ ap (λ (p : Policies). p.speakers) s.policies) s.neighbours))) c.refuse.ensures.adds c.refuse.ensures.answer

pub returns-clause-adds : goal.returns-clause-adds
returns-clause-adds g c =
    let stream = g.R.Rng.stream in
    let old = c.args.self.now in
    let now = c.args.now in
    let source = c.args.heard.now.source in
    let destination = c.args.heard.now.destination in
    let read = options_read old c.args.heard.now.message.options in
    let place = c.has_place-place.result in
    let options = as_placed place read in
    let times : Times = c.times_in_force-times.result in
    let news = c.news_of-news.result in
    let taken = c.news_in_place-taken.result in
    let e = c.report_heard.ensures.clock in
    let heard = rw e at c.hear_giver-gone.ensures in
    let mid = record old { last = now; neighbours = c.hear_giver-gone.new.neighbours; choice = c.note_way.new.choice; routers = c.note_way.new.routers } in
    let news_is = rw (c.own_mac.ensures, c.requires.body) at (c.news_of-news.ensures times) in
    let taken_is = c.news_in_place-taken.ensures.said times ∙ (ap (said_in_place place) news_is ∙ sym (said_without source bodies.Rs read times.reachable place)) in
    let whole : place ≡ false → old.policies.parts ≡ true = λ none. elim c.else-not-place.branch [
      | else-not-place-via-then-not-place+else-not-parts w ↦ sym w.parts.ensures ∙ w.if-not-parts.false
      | else-not-place-via-else-not-place w ↦ absurd (true≢false (sym w.if-not-place.false ∙ none))
    ] in
    let reachable_is = rw e at c.times_in_force-times.ensures.reachable in
    let takes = takes_plainly stream old now source destination bodies.Rs options c.requires.settled times taken taken_is reachable_is c.hear_giver-gone.result mid c.hear_giver-gone.new.choice (option_map (λ (a : Addr). number_of a.0) c.hear_giver-gone.result)
    c.args.outs.now.items c.reserve.new.self.items c.report_heard.new.outs.items c.hear_giver-gone.new.outs.items _
    c.none_overdue.ensures.still c.none_overdue.ensures.table c.one_is_pushed_out.ensures c.an_end_ends_once.ensures
    (record { role = refl; mac = refl; chosen = refl; policies = refl; generator = refl; params = refl; prefixes = refl; dns = refl; solicitations = refl; router = refl; address_mac = refl; address_transmits = refl; address_limit = refl; neighbour_limit = heard.limit; waiting = heard.waiting; router_limit = rw e at c.note_way.ensures.limit; room = room_then old.choice c.hear_giver-gone.new.choice c.note_way.new.choice (room_kept old.choice c.hear_giver-gone.new.choice (may_redirects old.choice c.hear_giver-gone.new.choice old.neighbours.entries c.hear_giver-gone.new.neighbours.entries heard.remembers)) c.note_way.ensures.limits; last = refl })
    (λ c'. record { parameters = refl; prefixes = refl; servers = refl; names = refl; assigned = λ k. refl; solicited = refl; router = λ start'. refl; stream = λ start. refl }) (λ c'. refl)
    (rw e at c.note_way.ensures.notes) (rw e at c.note_way.ensures.entries) refl (rw e at c.note_way.ensures.same) c.note_way.ensures.forgets heard.remembers
    c.reserve.ensures.items (rw c.requires.body at c.report_heard.ensures.items) refl (λ history. refl) (rw c.speakers-speakers.ensures at heard.hears) in
    rw e (adds_in_place stream old now source destination bodies.Rs read (planned now) c.requires.settled times news news_is reachable_is mid _ _ c.args.outs.now.items c.hear_giver-gone.new.outs.items c.tell_ignored.new.outs.items place whole
    (λ start c' s. c.has_place-place.ensures.placed start c' times s.limits.neighbours (c.speakers-speakers.ensures ∙ ap (λ (p : Policies). p.speakers) s.policies) s.neighbours)
    (plain_solicitation now source destination options) taken taken_is takes
    (λ start before d same at s. stands_planned stream start mid _ before d now c.hear_solicitation.new.self c.hear_solicitation.new.generator refl same (rw e at c.hear_solicitation.ensures) at s)
    (moment_planned now) (items_planned now) c.tell_ignored.ensures.told)

pub returns-in_err-reserve-clause-full : goal.returns-in_err-reserve-clause-full
returns-in_err-reserve-clause-full g c = λ limit start c' s le fills parts room.
    let times : Times = record { retrans = 0; reachable = c.args.self.now.params.reachable_time } in
    let place : c.has_place-place.result ≡ true = elim c.else-not-place.branch [
      | else-not-place-via-then-not-place+else-not-parts w ↦ absurd (true≢false (sym w.if-not-parts.false ∙ (w.parts.ensures ∙ parts)))
      | else-not-place-via-else-not-place w ↦ w.if-not-place.false
    ] in
    absurd (none_full g.R.Rng.stream c.args.self.now c.args.now c.args.heard.now.source c.args.heard.now.destination bodies.Rs (options_read c.args.self.now c.args.heard.now.message.options) (planned c.args.now) (plain_solicitation c.args.now c.args.heard.now.source c.args.heard.now.destination (options_read c.args.self.now c.args.heard.now.message.options)) c.requires.settled times c.news_of-news.result (rw (c.own_mac.ensures, c.requires.body) at (c.news_of-news.ensures times)) refl
    (λ start' d stands. subst (λ (b : Bool). Placed start' d c.args.now (makes_way start' (option_map (said_by times) c.news_of-news.result)) (entering (option_map (said_by times) c.news_of-news.result)) b) place (c.has_place-place.ensures.placed start' d times stands.limits.neighbours (c.speakers-speakers.ensures ∙ ap (λ (p : Policies). p.speakers) stands.policies) stands.neighbours))
    start c' limit s fills)
