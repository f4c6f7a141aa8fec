use Rattle.std.proofs.Common.{◌≡◌, List, ◌∷◌, sym, subst, ◌<◌, ℕ}
use Rattle.nd_neighbour.specs.EntryKept.{NeighbourEntry}
use Rattle.nd_nexthop.specs.NextHop.{NextHop}
use Rattle.nd_chronicle.specs.Happening.{Passed}
use Rattle.nd_chronicle.proofs.Hops.{one_hop}
use Rattle.nd_node.specs.Memory.{NeedsNoEntry}
use Rattle.std.proofs.lemmas.Result.{IfOk-weaker}
use Rattle.nd_nexthop.specs.NextHopKept.{hop_of}
use Rattle.nd_out.specs.Out.{refusal_of}
use Rattle.nd_node.specs.declared.resolve.Resolution.TheVariants as answers
use Rattle.nd_node.proofs.OutgoingPackets.{hop_later}
use Rattle.nd_node.proofs.Refusals.{path_to_hop}
use Rattle.nd_node.proofs.Wishes.{answered_with, not_resolved, resolved}
use Rattle.nd_node.specs.NodeKept.{next_of}
use Rattle.nd_node.specs.ResolveKept.{IsWay}
use Rattle.nd_node.proofs.Leases.{kept_hop}
use Rattle.nd_node.proofs.node.Node.answer_path.Goals as goal

pub returns-in-Some-clause-adds : goal.returns-in-Some-clause-adds
returns-in-Some-clause-adds g c =
    answered_with c.answer_at_once.result (answers.Refused c.in-Some.refusal) _ _
    (λ adds. not_resolved g.R.Rng.stream c.args.self.now c.answer_at_once.new.self c.args.outs.now.items _ c.args.now c.args.destination (refusal_of c.in-Some.refusal) c.in-Some.ensures (adds c.args.destination))
    c.answer_at_once.ensures.adds c.answer_at_once.ensures.answer

pub returns-clause-adds : goal.returns-clause-adds
returns-clause-adds g c =
    IfOk-weaker c.resolve_by_hop.result _ _ (λ a adds. resolved g.R.Rng.stream c.args.self.now c.resolve_by_hop.new.self c.args.outs.now.items _ c.args.now c.args.destination
    c.hop_of_packet-hop.new.self (hop_of c.hop_of_packet-hop.result) c.in_default.ensures c.hop_of_packet-hop.ensures.stands c.hop_of_packet-hop.ensures.next adds)
    c.resolve_by_hop.ensures.adds

pub returns-clause-refused : goal.returns-clause-refused
returns-clause-refused g c = λ start c' s le adds place.
    let hop = hop_of c.hop_of_packet-hop.result in
    c.resolve_by_hop.ensures.refused start c' (c.hop_of_packet-hop.ensures.stands start c' s)
    (path_to_hop start c.args.now c.args.destination c' hop (c.in_default.ensures start c' s) (hop_later start start.role c' c.args.now c.args.destination hop (c.hop_of_packet-hop.ensures.next start c' s le)) adds)
    place

pub returns-clause-quiet : goal.returns-clause-quiet
returns-clause-quiet g c = λ places start c' s le at_once place.
    let hop = hop_of c.hop_of_packet-hop.result in
    let next = hop_later start start.role c' c.args.now c.args.destination hop (c.hop_of_packet-hop.ensures.next start c' s le) in
    let same : at_once.next ≡ hop = one_hop ((c.args.now, Passed) ∷ c') c.args.now start start.role c.args.destination at_once.next hop at_once.hop next in
    let needs : NeedsNoEntry hop c.args.destination c.args.self.now.neighbours.entries = subst (λ (h : NextHop). NeedsNoEntry h c.args.destination c.args.self.now.neighbours.entries) same at_once.entry in
    c.resolve_by_hop.ensures.quiet (subst (λ (l : List NeighbourEntry). NeedsNoEntry hop c.args.destination l) (sym c.hop_of_packet-hop.ensures.neighbours) needs) place

pub returns-in-Some-clause-way : goal.returns-in-Some-clause-way
returns-in-Some-clause-way g c = λ start c' s le.
    answered_with c.answer_at_once.result (answers.Refused c.in-Some.refusal) _ (IsWay c.answer_at_once.new.self c.args.now c.args.destination) (λ _. tt) c.answer_at_once.ensures.clock c.answer_at_once.ensures.answer

pub returns-clause-way : goal.returns-clause-way
returns-clause-way g c = λ start c' s le.
    let node = c.hop_of_packet-hop.new.self in
    let settled : c.args.now < next_of node = subst (λ (due : ℕ). c.args.now < due) (sym c.hop_of_packet-hop.ensures.due) c.requires.settled in
    c.resolve_by_hop.ensures.way
    (one_hop c' c.args.now start start.role c.args.destination _ _ (kept_hop g.R.Rng.stream start node c' (c.hop_of_packet-hop.ensures.stands start c' s) c.args.now c.args.destination le settled) (c.hop_of_packet-hop.ensures.next start c' s le))
