use Rattle.nd_steps.specs.Outputs.{frames_in, happenings}
use Rattle.nd_link.specs.Frames.{kept_frames, of_sender}
use Rattle.nd_link.specs.Told.{TellsReports}
use Rattle.nd_link_log.specs.Told.{node_reports}
use Rattle.std.specs.List.{flat_map}
use Rattle.std.proofs.Common.{◌++◌, ◌∙◌, ap, refl, subst, length}
use Rattle.std.proofs.lemmas.Option.{slice_get_read}
use Rattle.nd_node.specs.Time as nodes
use Rattle.nd_link.proofs.Turning.{fewer_left, turn_leads}
use Rattle.nd_link.proofs.link.Link.turn.Goals as goal

pub returns-clause-leads : goal.returns-clause-leads
returns-clause-leads g c =
    let is = slice_get_read c.args.self.now.nodes.items (length c.args.self.now.nodes.items) c.args.place c.index_mut-node.result.now refl c.requires.first.within c.index_mut-node.ensures.value in
    let leads = subst (λ l. nodes.Leads g.R.Rng.stream c.index_mut-node.result.now c.turn.new.self l c.turn.new.outs.items (nodes.Comes c.args.due)) c.in_ok-outs.ensures.empty c.in_ok-turn.ensures.leads in
    let kept = c.in_ok-keep_frames.ensures ∙ ap (λ l. kept_frames c.args.self.now.frames.items ++ of_sender c.args.place (frames_in (happenings l))) (c.deref.ensures.value ∙ c.in_ok-outs-2.ensures) in
    let tells = subst (λ l. TellsReports c.args.told.now.items c.tell.new.told.items (flat_map (node_reports c.args.place) (happenings l))) c.in_ok-outs-2.ensures c.in_ok-tell.ensures.tells in
    turn_leads g.R.Rng.stream c.args.self.now _ c.index_mut-node.result.now c.turn.new.self c.args.told.now.items _ c.turn.new.outs.items c.args.place c.args.due c.requires.first is leads refl refl kept tells

pub returns-clause-fewer : goal.returns-clause-fewer
returns-clause-fewer g c = λ end le.
    let is = slice_get_read c.args.self.now.nodes.items (length c.args.self.now.nodes.items) c.args.place c.index_mut-node.result.now refl c.requires.first.within c.index_mut-node.ensures.value in
    fewer_left end c.args.self.now.nodes.items c.args.place c.index_mut-node.result.now c.turn.new.self is (c.in_ok-turn.ensures.fewer end le)
