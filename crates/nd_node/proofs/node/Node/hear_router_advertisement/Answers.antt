use Rattle.std.proofs.Common.{refl, sym, ◌∙◌, ap, subst, arith, ◌∷◌, Some}
use Rattle.std.specs.Prelude.{List, Option, ℕ}
use Rattle.std.specs.Option.{option_map}
use Rattle.nd_addr.specs.Number.{number_of}
use Rattle.nd_node.specs.Hearing.{options_read}
use Rattle.nd_out.specs.Out.{limit_of}
use Rattle.nd_chronicle.specs.Happening.{Limit, Passed}
use Rattle.nd_chronicle.specs.LinkLayerAddress.{first_slla}
use Rattle.nd_chronicle.specs.Full.{AdvertisementFills}
use Rattle.nd_node.specs.RouterAdvertisement.{advertised}
use Rattle.nd_decode.specs.Pieces.{options_left}
use Rattle.nd_dns.specs.DnsKept.{names_added}
use Rattle.nd_node.proofs.AsRead.{all_taken}
use Rattle.nd_node.proofs.Ignoring.{in_part_adds}
use Rattle.nd_node.proofs.Memory.{told_of_sender}
use Rattle.nd_node.proofs.TakenOrRefused.{fills_later, sender_placed, refuses, takes}
use Rattle.nd_node.proofs.Refusals.{router_advertisement_left}
use Rattle.nd_node.specs.declared.answer.Answer.TheVariants.{Done, Refused}
use Rattle.nd_out.specs.declared.out.Refusal.TheVariants.{Full}
use Rattle.nd_node.proofs.Reporting.{answered}
use Rattle.nd_node.proofs.node.Node.hear_router_advertisement.Goals as goal

pub returns-in-Some-clause-adds : goal.returns-in-Some-clause-adds
returns-in-Some-clause-adds g c =
    let stream = g.R.Rng.stream in
    let options = options_read c.args.self.now c.args.heard.now.message.options in
    answered c.refuse.result (Refused (Full c.in-Some.limit)) _ (refuses stream c.args.now c.args.heard.now.source c.args.heard.now.destination c.args.ra.now options c.args.self.now c.refuse.new.self c.args.outs.now.items c.refuse.new.outs.items (limit_of c.in-Some.limit) (sym c.parts.ensures ∙ c.if-parts.false)
    (λ start c' s le. subst (λ (limit : Option Limit). AdvertisementFills start c' c.args.now c.args.heard.now.source c.args.ra.now (advertised c.args.ra.now options) limit) (ap (option_map limit_of) c.in-Some.is)
    (c.first_full.ensures.fills start c' s le (sender_placed stream c.args.now c.args.heard.now.source c.args.heard.now.destination c.args.ra.now options c.args.self.now c.news_of-news.result c.has_place-place.result (λ times. rw (c.own_mac.ensures, c.requires.body) at (c.news_of-news.ensures times)) (rw c.speakers-speakers.ensures at c.has_place-place.ensures.placed) start c' s)))) c.refuse.ensures.adds c.refuse.ensures.answer

pub hear_router_advertisement_in_part-requires-clause-placed : goal.hear_router_advertisement_in_part-requires-clause-placed
hear_router_advertisement_in_part-requires-clause-placed g c =
    sender_placed g.R.Rng.stream c.args.now c.args.heard.now.source c.args.heard.now.destination c.args.ra.now (options_read c.args.self.now c.args.heard.now.message.options) c.args.self.now c.news_of-news.result c.has_place-place.result
    (λ times. rw (c.own_mac.ensures, c.requires.body) at (c.news_of-news.ensures times)) (rw c.speakers-speakers.ensures at c.has_place-place.ensures.placed)

pub returns-then-parts-clause-adds : goal.returns-then-parts-clause-adds
returns-then-parts-clause-adds g c =
    let stream = g.R.Rng.stream in
    let options = options_read c.args.self.now c.args.heard.now.message.options in
    answered c.hear_router_advertisement_in_part.result Done _
    (in_part_adds stream c.args.self.now c.hear_router_advertisement_in_part.new.self c.args.outs.now.items c.hear_router_advertisement_in_part.new.outs.items c.args.now c.args.heard.now.source c.args.heard.now.destination
    (advertised c.args.ra.now options) (limit_of c.in-Some.limit) (sym c.parts.ensures ∙ c.if-parts.true)
    (λ start c' s le. fills_later c.args.now c.args.heard.now.source c.args.ra.now options start c' (Some (limit_of c.in-Some.limit))
    (subst (λ (limit : Option Limit). AdvertisementFills start c' c.args.now c.args.heard.now.source c.args.ra.now (advertised c.args.ra.now options) limit) (ap (option_map limit_of) c.in-Some.is)
    (c.first_full.ensures.fills start c' s le (sender_placed stream c.args.now c.args.heard.now.source c.args.heard.now.destination c.args.ra.now options c.args.self.now c.news_of-news.result c.has_place-place.result (λ times. rw (c.own_mac.ensures, c.requires.body) at (c.news_of-news.ensures times)) (rw c.speakers-speakers.ensures at c.has_place-place.ensures.placed) start c' s)))))
    c.hear_router_advertisement_in_part.ensures.adds c.hear_router_advertisement_in_part.ensures.answer

pub take_router_advertisement-requires-clause-place : goal.take_router_advertisement-requires-clause-place
take_router_advertisement-requires-clause-place g c = (rw c.speakers-speakers.ensures at c.has_place-place.ensures.room) (c.first_full.ensures.room c.in_default.is).neighbours

pub returns-clause-adds : goal.returns-clause-adds
returns-clause-adds g c =
    let stream = g.R.Rng.stream in
    let options = options_read c.args.self.now c.args.heard.now.message.options in
    takes stream c.args.now c.args.heard.now.source c.args.heard.now.destination c.args.ra.now options c.args.self.now _ c.args.outs.now.items c.reserve.new.self.items c.push_heard.new.outs.items c.take_router_advertisement.new.outs.items _ refl
    (λ start c' s le. subst (λ (limit : Option Limit). AdvertisementFills start c' c.args.now c.args.heard.now.source c.args.ra.now (advertised c.args.ra.now options) limit) (ap (option_map limit_of) c.in_default.is)
    (c.first_full.ensures.fills start c' s le (sender_placed stream c.args.now c.args.heard.now.source c.args.heard.now.destination c.args.ra.now options c.args.self.now c.news_of-news.result c.has_place-place.result (λ times. rw (c.own_mac.ensures, c.requires.body) at (c.news_of-news.ensures times)) (rw c.speakers-speakers.ensures at c.has_place-place.ensures.placed) start c' s)))
    c.in_ok-reserve.ensures.items (rw c.requires.body at c.push_heard.ensures.items)
    (c.take_router_advertisement.ensures.takes options
    (all_taken c.args.self.now c.args.now c.args.heard.now.source c.args.ra.now (options_left c.args.heard.now.message.options) c.has_place-place.result (c.first_full.ensures.room c.in_default.is))
    (λ times. rw (c.own_mac.ensures, c.requires.body) at (c.news_of-news.ensures times)))

pub returns-in_err-reserve-clause-quiet : goal.returns-in_err-reserve-clause-quiet
returns-in_err-reserve-clause-quiet g c = λ adds.
    let options = options_read c.args.self.now c.args.heard.now.message.options in
    let waits = told_of_sender (record { retrans = 0; reachable = 0 }) (number_of c.args.heard.now.source.0) (first_slla options) c.news_of-news.result c.args.self.now.neighbours.entries (rw (c.own_mac.ensures, c.requires.body) at (c.news_of-news.ensures (record { retrans = 0; reachable = 0 }))) in
    let way = rw c.speakers-speakers.ensures at c.most_told_of_way.ensures in
    let refused = c.in_err-reserve.ensures.ready (omega (arith, adds.told, waits, way, c.told_for-told.ensures.value)) in
    let no : ⊥ = cc in absurd no

pub returns-in_err-names-clause-quiet : goal.returns-in_err-names-clause-quiet
returns-in_err-names-clause-quiet g c = λ adds.
    let added = ap (λ (told : List (List ℕ × ℕ)). names_added c.args.now told c.args.self.now.dns) c.new-announced.ensures in
    let refused = c.in_err-names.ensures.quiet (added ∙ adds.names) in
    let no : ⊥ = cc in absurd no

pub returns-in_err-names-clause-full : goal.returns-in_err-names-clause-full
returns-in_err-names-clause-full g c = λ limit start c' s le fills whole place.
    let options = options_read c.args.self.now c.args.heard.now.message.options in
    let none = subst (λ (limit' : Option Limit). AdvertisementFills start c' c.args.now c.args.heard.now.source c.args.ra.now (advertised c.args.ra.now options) limit') (ap (option_map limit_of) c.in_default.is)
    (c.first_full.ensures.fills start c' s le (sender_placed g.R.Rng.stream c.args.now c.args.heard.now.source c.args.heard.now.destination c.args.ra.now options c.args.self.now c.news_of-news.result c.has_place-place.result (λ times. rw (c.own_mac.ensures, c.requires.body) at (c.news_of-news.ensures times)) (rw c.speakers-speakers.ensures at c.has_place-place.ensures.placed) start c' s)) in
    absurd (router_advertisement_left start c.args.now c.args.heard.now.source options ((c.args.now, Passed) ∷ c') limit c.args.ra.now c' refl none fills)

pub returns-in_err-reserve-clause-full : goal.returns-in_err-reserve-clause-full
returns-in_err-reserve-clause-full g c = λ limit start c' s le fills whole place.
    let options = options_read c.args.self.now c.args.heard.now.message.options in
    let none = subst (λ (limit' : Option Limit). AdvertisementFills start c' c.args.now c.args.heard.now.source c.args.ra.now (advertised c.args.ra.now options) limit') (ap (option_map limit_of) c.in_default.is)
    (c.first_full.ensures.fills start c' s le (sender_placed g.R.Rng.stream c.args.now c.args.heard.now.source c.args.heard.now.destination c.args.ra.now options c.args.self.now c.news_of-news.result c.has_place-place.result (λ times. rw (c.own_mac.ensures, c.requires.body) at (c.news_of-news.ensures times)) (rw c.speakers-speakers.ensures at c.has_place-place.ensures.placed) start c' s)) in
    absurd (router_advertisement_left start c.args.now c.args.heard.now.source options ((c.args.now, Passed) ∷ c') limit c.args.ra.now c' refl none fills)
