use Rattle.nd_steps.specs.Outputs.{frames_in, happenings}
use Rattle.nd_link.specs.Frames.{kept_frames, of_sender}
use Rattle.nd_link.specs.Told.{TellsReports}
use Rattle.nd_link_log.specs.Told.{node_reports}
use Rattle.std.specs.List.{flat_map}
use Rattle.std.proofs.Common.{◌++◌, ◌∙◌, ap, ◌≡◌, ◌<◌, length, Some, refl, subst, arith}
use Rattle.std.specs.Prelude.{slice_get}
use Rattle.std.specs.Vec.{with_items}
use Rattle.std.proofs.lemmas.Option.{slice_get_read}
use Rattle.nd_node.specs.Answer.{answer_of}
use Rattle.nd_node.specs.Event.{request_of}
use Rattle.nd_node.specs.EventKept.{AddsEvent}
use Rattle.nd_link.proofs.Arriving.{arrival_leads}
use Rattle.nd_link.proofs.Passage.{own_settled, passed_in}
use Rattle.nd_link.proofs.link.Link.arrive.Goals as goal

pub pass_others-requires : goal.pass_others-requires
pass_others-requires g c = record { settled = λ i node is. c.requires.settled i node (subst (λ l. slice_get l i ≡ Some node) c.deref_mut.ensures.value is) }

pub add_request-requires-clause-settled : goal.add_request-requires-clause-settled
add_request-requires-clause-settled g c =
    let nodes = (with_items c.args.self.now.nodes c.pass_others.new.nodes).items in
    let p = passed_in g.R.Rng.stream c.args.now c.args.place c.args.self.now.nodes c.deref_mut.result.now c.pass_others.new.nodes c.deref_mut.ensures.value c.pass_others.ensures in
    let within : c.args.place < length nodes = let n = p.count in let ok = c.args.self.now.nodes.ok.0 in let there = c.requires.there in omega (arith, n, ok, there) in
    own_settled g.R.Rng.stream c.args.now c.args.place c.args.self.now.nodes.items nodes p c.requires.settled c.index_mut-node.result.now (slice_get_read nodes (length nodes) c.args.place c.index_mut-node.result.now refl within c.index_mut-node.ensures.value)

pub returns-clause-leads : goal.returns-clause-leads
returns-clause-leads g c = λ carried.
    let nodes = (with_items c.args.self.now.nodes c.pass_others.new.nodes).items in
    let p = passed_in g.R.Rng.stream c.args.now c.args.place c.args.self.now.nodes c.deref_mut.result.now c.pass_others.new.nodes c.deref_mut.ensures.value c.pass_others.ensures in
    let within : c.args.place < length nodes = let n = p.count in let ok = c.args.self.now.nodes.ok.0 in let there = c.requires.there in omega (arith, n, ok, there) in
    let is = slice_get_read nodes (length nodes) c.args.place c.index_mut-node.result.now refl within c.index_mut-node.ensures.value in
    let adds = subst (λ l. AddsEvent g.R.Rng.stream c.index_mut-node.result.now c.add_request.new.self l c.add_request.new.outs.items c.args.now (request_of c.args.event.now) (answer_of c.in_ok-add_request.field-0)) c.in_ok-outs.ensures.empty c.in_ok-add_request.ensures.adds in
    let kept = c.in_ok-keep_frames.ensures ∙ ap (λ l. kept_frames c.args.self.now.frames.items ++ of_sender c.args.place (frames_in (happenings l))) (c.deref.ensures.value ∙ c.in_ok-outs-2.ensures) in
    let tells = subst (λ l. TellsReports c.args.told.now.items c.tell.new.told.items (flat_map (node_reports c.args.place) (happenings l))) c.in_ok-outs-2.ensures c.in_ok-tell.ensures.tells in
    arrival_leads g.R.Rng.stream c.args.self.now _ nodes c.index_mut-node.result.now c.add_request.new.self c.args.told.now.items _ c.add_request.new.outs.items c.args.now c.args.place (request_of c.args.event.now)
    p is adds refl refl c.requires.in_time kept tells carried
