use Rattle.std.proofs.Common.{◌∷◌, Some, true, false, refl, sym, subst, ap, ◌∙◌}
use Rattle.std.specs.Prelude.{Bool}
use Rattle.std.specs.Option.{option_map}
use Rattle.nd_addr.specs.Number.{number_of}
use Rattle.nd_addr.specs.declared.addr.Addr.{Addr}
use Rattle.nd_decode.specs.declared.body.Body.TheVariants as bodies
use Rattle.nd_neighbour.specs.declared.news.Times.{Times}
use Rattle.nd_chronicle.specs.Full.{Placed}
use Rattle.nd_chronicle.specs.Happening.{Passed}
use Rattle.nd_chronicle.specs.Message.{makes_way, said}
use Rattle.nd_node.specs.Asker.{solicitation}
use Rattle.nd_chronicle.specs.Start.{Policies}
use Rattle.nd_steps.specs.NeighbourCache.{said_by}
use Rattle.nd_node.specs.Hearing.{options_read}
use Rattle.nd_node.specs.declared.answer.Answer.TheVariants.{Refused}
use Rattle.nd_out.specs.declared.out.Refusal.TheVariants.{Full}
use Rattle.nd_out.specs.declared.out.Limit.TheVariants.{Neighbours}
use Rattle.nd_node.proofs.Asking.{answered, of_asker, place_later, refused, solicitation_apart}
use Rattle.nd_node.proofs.Givers.{takes_plainly}
use Rattle.nd_node.proofs.Recalling.{may_redirects, room_kept, room_then}
use Rattle.nd_node.proofs.Refusals.{asker_full}
use Rattle.nd_chronicle.proofs.Events.{one_placed}
use Rattle.std.proofs.lemmas.Bool.{true≢false}
use Rattle.nd_node.proofs.Reporting.{answered as answered_so}
use Rattle.nd_node.proofs.node.Node.hear_asker.Goals as goal

pub has_place_for-requires : goal.has_place_for-requires
has_place_for-requires g c =
    let times : Times = record { retrans = 0; reachable = c.args.self.now.params.reachable_time } in
    of_asker times c.args.heard.now.source c.args.ns.now (options_read c.args.self.now c.args.heard.now.message.options) c.news_of-news.result (rw (c.own_mac.ensures, c.requires.body) at (c.news_of-news.ensures times))

pub returns-then-not-has_place_for-clause-adds : goal.returns-then-not-has_place_for-clause-adds
returns-then-not-has_place_for-clause-adds g c =
    let times : Times = record { retrans = 0; reachable = c.args.self.now.params.reachable_time } in
    let key = number_of c.args.heard.now.source.0 in
    let news = c.news_of-news.result in
    answered_so c.refuse.result (Refused (Full Neighbours)) _ (refused g.R.Rng.stream c.args.self.now c.args.now c.args.heard.now.source c.args.heard.now.destination c.args.ns.now (options_read c.args.self.now c.args.heard.now.message.options) c.requires.specified c.requires.settled times news
    (rw (c.own_mac.ensures, c.requires.body) at (c.news_of-news.ensures times)) refl (sym c.parts.ensures ∙ c.if-parts.false) c.refuse.new.self c.args.outs.now.items c.refuse.new.outs.items
    (λ start c' s. subst (λ (b : Bool). Placed start c' c.args.now (makes_way start (option_map (said_by times) news)) (Some (key, true)) b) c.if-not-has_place_for.true
    (c.has_place_for.ensures.placed start c' times s.limits.neighbours (c.speakers-speakers.ensures ∙ ap (λ (p : Policies). p.speakers) s.policies) s.neighbours))) c.refuse.ensures.adds c.refuse.ensures.answer

pub answer_without_entry-requires-clause-placed : goal.answer_without_entry-requires-clause-placed
answer_without_entry-requires-clause-placed g c = λ start c' s.
    let times : Times = record { retrans = 0; reachable = c.args.self.now.params.reachable_time } in
    let source = c.args.heard.now.source in
    let options = options_read c.args.self.now c.args.heard.now.message.options in
    let news = c.news_of-news.result in
    place_later g.R.Rng.stream c.args.self.now c.args.now source c.args.heard.now.destination c.args.ns.now options c.requires.specified c.requires.settled times news (rw (c.own_mac.ensures, c.requires.body) at (c.news_of-news.ensures times)) refl start c' false s
    (subst (λ (b : Bool). Placed start c' c.args.now (makes_way start (option_map (said_by times) news)) (Some (number_of source.0, true)) b) c.if-not-has_place_for.true
    (c.has_place_for.ensures.placed start c' times s.limits.neighbours (c.speakers-speakers.ensures ∙ ap (λ (p : Policies). p.speakers) s.policies) s.neighbours))

pub returns-clause-adds : goal.returns-clause-adds
returns-clause-adds g c =
    let stream = g.R.Rng.stream in
    let old = c.args.self.now in
    let now = c.args.now in
    let source = c.args.heard.now.source in
    let destination = c.args.heard.now.destination in
    let body = bodies.Ns c.args.ns.now in
    let options = options_read old c.args.heard.now.message.options in
    let key = number_of source.0 in
    let times : Times = c.times_in_force-times.result in
    let news = c.news_of-news.result in
    let e = c.report_heard.ensures.clock in
    let room = c.make_room.ensures in
    let heard = rw (e, room.limit, room.entries) at c.hear_giver-gone.ensures in
    let second = c.hear_giver-gone.new.choice in
    let entries = old.neighbours.entries in
    let after = c.hear_giver-gone.new.neighbours.entries in
    let mid = record old { last = now; neighbours = c.hear_giver-gone.new.neighbours; choice = c.note_way.new.choice; routers = c.note_way.new.routers } in
    let news_is = rw (c.own_mac.ensures, c.requires.body) at (c.news_of-news.ensures times) in
    let reachable_is = rw e at c.times_in_force-times.ensures.reachable in
    let takes = takes_plainly stream old now source destination body options c.requires.settled times news news_is reachable_is c.hear_giver-gone.result mid second (option_map (λ (a : Addr). number_of a.0) c.hear_giver-gone.result)
    c.args.outs.now.items c.make_room.new.outs.items c.report_heard.new.outs.items c.hear_giver-gone.new.outs.items _
    c.none_overdue.ensures.still c.none_overdue.ensures.table c.one_is_pushed_out.ensures c.an_end_ends_once.ensures
    (record { role = refl; mac = refl; chosen = refl; policies = refl; generator = refl; params = refl; prefixes = refl; dns = refl; solicitations = refl; router = refl; address_mac = refl; address_transmits = refl; address_limit = refl; neighbour_limit = heard.limit; waiting = rw (e, room.waiting) at c.hear_giver-gone.ensures.waiting; router_limit = rw e at c.note_way.ensures.limit; room = room_then old.choice second c.note_way.new.choice (room_kept old.choice second (may_redirects old.choice second entries after heard.remembers)) c.note_way.ensures.limits; last = refl })
    (solicitation_apart now source destination c.args.ns.now options) (λ c'. refl)
    (rw e at c.note_way.ensures.notes) (rw e at c.note_way.ensures.entries) refl (rw e at c.note_way.ensures.same) c.note_way.ensures.forgets heard.remembers
    room.same (rw c.requires.body at c.report_heard.ensures.items) refl (λ history. refl) (rw c.speakers-speakers.ensures at heard.hears) in
    answered stream old now source destination c.args.ns.now options c.requires.specified c.requires.settled times news news_is reachable_is mid c.reply.new.self _ c.args.outs.now.items c.hear_giver-gone.new.outs.items c.reply.new.outs.items
    (λ start c' s. subst (λ (b : Bool). Placed start c' now (makes_way start (option_map (said_by times) news)) (Some (key, true)) b) c.if-not-has_place_for.false
    (c.has_place_for.ensures.placed start c' times s.limits.neighbours (c.speakers-speakers.ensures ∙ ap (λ (p : Policies). p.speakers) s.policies) s.neighbours))
    takes c.is_router-router.result (rw e at c.is_router-router.ensures) _ (rw e at c.answer-answer.ensures) (rw e at c.reply.ensures.leads)

pub returns-in_err-room-clause-full : goal.returns-in_err-room-clause-full
returns-in_err-room-clause-full g c = λ limit start c' s le fills whole place.
    let times : Times = record { retrans = 0; reachable = c.args.self.now.params.reachable_time } in
    let source = c.args.heard.now.source in
    let options = options_read c.args.self.now c.args.heard.now.message.options in
    let news = c.news_of-news.result in
    let placed = place_later g.R.Rng.stream c.args.self.now c.args.now source c.args.heard.now.destination c.args.ns.now options c.requires.specified c.requires.settled times news (rw (c.own_mac.ensures, c.requires.body) at (c.news_of-news.ensures times)) refl start c' true s
    (subst (λ (b : Bool). Placed start c' c.args.now (makes_way start (option_map (said_by times) news)) (Some (number_of source.0, true)) b) c.if-not-has_place_for.false
    (c.has_place_for.ensures.placed start c' times s.limits.neighbours (c.speakers-speakers.ensures ∙ ap (λ (p : Policies). p.speakers) s.policies) s.neighbours)) in
    absurd (true≢false (one_placed start ((c.args.now, Passed) ∷ c') c.args.now (makes_way start (said ((c.args.now, Passed) ∷ c') source (solicitation c.args.ns.now options))) (Some (number_of source.0, true)) true false placed (asker_full start c.args.now source options _ limit c.args.ns.now c.requires.specified fills)))
