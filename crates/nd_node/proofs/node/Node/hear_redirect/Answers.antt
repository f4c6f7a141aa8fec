use Rattle.std.proofs.Common.{◌≡◌, refl, sym, subst, ap, ◌∙◌, arith, true, false}
use Rattle.std.proofs.lemmas.Bool.{true≢false}
use Rattle.nd_chronicle.specs.Parts.{as_placed}
use Rattle.nd_steps.specs.Parts.{said_in_place}
use Rattle.nd_steps.proofs.InPlace.{said_without}
use Rattle.std.specs.Prelude.{Bool}
use Rattle.std.specs.Option.{option_map}
use Rattle.nd_node.specs.Hearing.{options_read}
use Rattle.nd_neighbour.specs.declared.news.Times.{Times}
use Rattle.nd_addr.specs.Number.{number_of}
use Rattle.nd_addr.specs.declared.addr.Addr.{Addr}
use Rattle.nd_chronicle.specs.Full.{entering, Placed}
use Rattle.nd_chronicle.specs.Message.{makes_way}
use Rattle.nd_chronicle.specs.Start.{Policies}
use Rattle.nd_steps.proofs.GivingWay.{way_until}
use Rattle.nd_node.proofs.Givers.{still_nothing, takes_giver}
use Rattle.nd_steps.specs.NeighbourCache.{said_by}
use Rattle.nd_decode.specs.declared.body.Body.TheVariants as bodies
use Rattle.nd_node.proofs.Recalling.{forgets, may_nothing, may_redirects, may_until, redirects_stand, room_kept, room_then}
use Rattle.nd_node.proofs.PlainMessages.{adds_in_place, message_refused, nothing, plain_redirect, none_full}
use Rattle.nd_node.specs.declared.answer.Answer.TheVariants.{Refused}
use Rattle.nd_out.specs.declared.out.Refusal.TheVariants.{Full}
use Rattle.nd_out.specs.declared.out.Limit.TheVariants.{Neighbours}
use Rattle.nd_node.proofs.Reporting.{answered}
use Rattle.nd_node.proofs.node.Node.hear_redirect.Goals as goal
use Rattle.nd_node.proofs.node.Node.hear_redirect.Goals.{else-not-place-via-then-not-place+else-not-parts, else-not-place-via-else-not-place}

pub returns-then-not-parts-clause-adds : goal.returns-then-not-parts-clause-adds
returns-then-not-parts-clause-adds g c =
    let times : Times = record { retrans = 0; reachable = c.args.self.now.params.reachable_time } in
    answered c.refuse.result (Refused (Full Neighbours)) _ (message_refused g.R.Rng.stream c.args.self.now c.args.now c.args.heard.now.source c.args.heard.now.destination (bodies.Redirect c.args.redirect.now) (options_read c.args.self.now c.args.heard.now.message.options) nothing (plain_redirect c.args.now c.args.heard.now.source c.args.heard.now.destination c.args.redirect.now (options_read c.args.self.now c.args.heard.now.message.options)) c.requires.settled times c.news_of-news.result
    (rw (c.own_mac.ensures, c.requires.body) at (c.news_of-news.ensures times)) refl c.refuse.new.self c.args.outs.now.items c.refuse.new.outs.items (sym c.parts.ensures ∙ c.if-not-parts.true)
    (λ start c' s. subst (λ (b : Bool). Placed start c' c.args.now (makes_way start (option_map (said_by times) c.news_of-news.result)) (entering (option_map (said_by times) c.news_of-news.result)) b) c.if-not-place.true (c.has_place-place.ensures.placed start c' times s.limits.neighbours (c.speakers-speakers.ensures ∙ ap (λ (p : Policies). p.speakers) s.policies) s.neighbours))) c.refuse.ensures.adds c.refuse.ensures.answer

pub returns-clause-adds : goal.returns-clause-adds
returns-clause-adds g c =
    let stream = g.R.Rng.stream in
    let old = c.args.self.now in
    let now = c.args.now in
    let source = c.args.heard.now.source in
    let destination = c.args.heard.now.destination in
    let body = bodies.Redirect c.args.redirect.now in
    let read = options_read old c.args.heard.now.message.options in
    let place = c.has_place-place.result in
    let options = as_placed place read in
    let times : Times = c.times_in_force-times.result in
    let news = c.news_of-news.result in
    let taken = c.news_in_place-taken.result in
    let e = c.report_heard.ensures.clock in
    let heard = rw e at c.hear_giver-gone.ensures in
    let first = c.redirected.new.self in
    let second = c.hear_giver-gone.new.choice in
    let third = c.note_way.new.choice in
    let entries = old.neighbours.entries in
    let after = c.hear_giver-gone.new.neighbours.entries in
    let mid = record old { last = now; neighbours = c.hear_giver-gone.new.neighbours; choice = third; routers = c.note_way.new.routers } in
    let news_is = rw (c.own_mac.ensures, c.requires.body) at (c.news_of-news.ensures times) in
    let taken_is = c.news_in_place-taken.ensures.said times ∙ (ap (said_in_place place) news_is ∙ sym (said_without source body read times.reachable place)) in
    let whole : place ≡ false → old.policies.parts ≡ true = λ none. elim c.else-not-place.branch [
      | else-not-place-via-then-not-place+else-not-parts w ↦ sym w.parts.ensures ∙ w.if-not-parts.false
      | else-not-place-via-else-not-place w ↦ absurd (true≢false (sym w.if-not-place.false ∙ none))
    ] in
    let reachable_is = rw e at c.times_in_force-times.ensures.reachable in
    let notes = rw e at c.note_way.ensures.notes in
    let unchanged = rw e at c.note_way.ensures.same in
    let kept = room_kept first second (may_redirects first second entries after heard.remembers) in
    let takes = takes_giver stream old now source destination body options c.requires.settled times taken taken_is reachable_is mid (option_map (λ (a : Addr). number_of a.0) c.hear_giver-gone.result)
    c.args.outs.now.items c.reserve.new.self.items c.report_heard.new.outs.items c.hear_giver-gone.new.outs.items _
    c.none_overdue.ensures.still c.none_overdue.ensures.table c.one_is_pushed_out.ensures c.an_end_ends_once.ensures
    (record { role = refl; mac = refl; chosen = refl; policies = refl; generator = refl; params = refl; prefixes = refl; dns = refl; solicitations = refl; router = refl; address_mac = refl; address_transmits = refl; address_limit = refl; neighbour_limit = heard.limit; waiting = heard.waiting; router_limit = rw e at c.note_way.ensures.limit; room = room_then old.choice first third (record { redirects = c.redirected.ensures.limit; destinations = c.redirected.ensures.destinations }) (room_then first second third kept c.note_way.ensures.limits); last = refl })
    (λ c'. record { parameters = refl; prefixes = refl; servers = refl; names = refl; assigned = λ k. refl; solicited = refl; router = λ start'. refl; stream = λ start. refl }) (λ c'. refl)
    (notes.routers now) (rw e at c.note_way.ensures.entries) refl
    (λ start c' s le. forgets old mid old.last now (omega (arith, s.last, le)) s.memo refl
    (still_nothing _ c.hear_giver-gone.result second third unchanged c.note_way.ensures.forgets (may_nothing first second entries after heard.remembers (ap (λ m. m.hops) c.in_ok-redirected.ensures.memory)))
    (way_until c.hear_giver-gone.result first second third old.routers old.routers mid.routers unchanged c.note_way.ensures.forgets
    ∙ (may_until first second entries after heard.remembers ∙ ap (λ m. m.until) c.in_ok-redirected.ensures.memory)))
    c.reserve.ensures.items (rw c.requires.body at c.report_heard.ensures.items) refl
    (λ history h. notes.redirects now _ (redirects_stand first second _ (may_redirects first second entries after heard.remembers) ((c.in_ok-redirected.ensures.stands now).stands history h)))
    (rw c.speakers-speakers.ensures at heard.hears) in
    rw e (adds_in_place stream old now source destination body read nothing c.requires.settled times news news_is reachable_is mid mid _ c.args.outs.now.items c.hear_giver-gone.new.outs.items c.tell_ignored.new.outs.items place whole
    (λ start c' s. c.has_place-place.ensures.placed start c' times s.limits.neighbours (c.speakers-speakers.ensures ∙ ap (λ (p : Policies). p.speakers) s.policies) s.neighbours)
    (plain_redirect now source destination c.args.redirect.now options) taken taken_is takes
    (λ start before d same at s. s) (λ start before d at. at) (λ start before d. refl) c.tell_ignored.ensures.told)

pub returns-in_err-reserve-clause-full : goal.returns-in_err-reserve-clause-full
returns-in_err-reserve-clause-full g c = λ limit start c' s le fills parts room.
    let times : Times = record { retrans = 0; reachable = c.args.self.now.params.reachable_time } in
    let place : c.has_place-place.result ≡ true = elim c.else-not-place.branch [
      | else-not-place-via-then-not-place+else-not-parts w ↦ absurd (true≢false (sym w.if-not-parts.false ∙ (w.parts.ensures ∙ parts)))
      | else-not-place-via-else-not-place w ↦ w.if-not-place.false
    ] in
    absurd (none_full g.R.Rng.stream c.args.self.now c.args.now c.args.heard.now.source c.args.heard.now.destination (bodies.Redirect c.args.redirect.now) (options_read c.args.self.now c.args.heard.now.message.options) nothing (plain_redirect c.args.now c.args.heard.now.source c.args.heard.now.destination c.args.redirect.now (options_read c.args.self.now c.args.heard.now.message.options)) c.requires.settled times c.news_of-news.result (rw (c.own_mac.ensures, c.requires.body) at (c.news_of-news.ensures times)) refl
    (λ start' d stands. subst (λ (b : Bool). Placed start' d c.args.now (makes_way start' (option_map (said_by times) c.news_of-news.result)) (entering (option_map (said_by times) c.news_of-news.result)) b) place (c.has_place-place.ensures.placed start' d times stands.limits.neighbours (c.speakers-speakers.ensures ∙ ap (λ (p : Policies). p.speakers) stands.policies) stands.neighbours))
    start c' limit s fills)

pub returns-in_err-redirected-clause-full : goal.returns-in_err-redirected-clause-full
returns-in_err-redirected-clause-full g c = λ limit start c' s le fills parts room.
    let times : Times = record { retrans = 0; reachable = c.args.self.now.params.reachable_time } in
    let place : c.has_place-place.result ≡ true = elim c.else-not-place.branch [
      | else-not-place-via-then-not-place+else-not-parts w ↦ absurd (true≢false (sym w.if-not-parts.false ∙ (w.parts.ensures ∙ parts)))
      | else-not-place-via-else-not-place w ↦ w.if-not-place.false
    ] in
    absurd (none_full g.R.Rng.stream c.args.self.now c.args.now c.args.heard.now.source c.args.heard.now.destination (bodies.Redirect c.args.redirect.now) (options_read c.args.self.now c.args.heard.now.message.options) nothing (plain_redirect c.args.now c.args.heard.now.source c.args.heard.now.destination c.args.redirect.now (options_read c.args.self.now c.args.heard.now.message.options)) c.requires.settled times c.news_of-news.result (rw (c.own_mac.ensures, c.requires.body) at (c.news_of-news.ensures times)) refl
    (λ start' d stands. subst (λ (b : Bool). Placed start' d c.args.now (makes_way start' (option_map (said_by times) c.news_of-news.result)) (entering (option_map (said_by times) c.news_of-news.result)) b) place (c.has_place-place.ensures.placed start' d times stands.limits.neighbours (c.speakers-speakers.ensures ∙ ap (λ (p : Policies). p.speakers) stands.policies) stands.neighbours))
    start c' limit s fills)
