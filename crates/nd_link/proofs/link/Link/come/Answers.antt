use Rattle.std.proofs.Common.{◌<◌, ◌≤◌, None, length, arith}
use Rattle.std.proofs.lemmas.Result.{on_ok_weaker}
use Rattle.nd_node.specs.Event.{request_of}
use Rattle.nd_link.proofs.Answering.{come_leads, no_node_leads}
use Rattle.nd_link.proofs.Refusing.{come_left}
use Rattle.nd_link.proofs.link.Link.come.Goals as goal

pub returns-in-Some-clause-leads : goal.returns-in-Some-clause-leads
returns-in-Some-clause-leads g c =
    let ok = c.args.self.now.nodes.ok.0 in
    let e = c.len.ensures in
    let place = c.in-Some.ensures.some in
    let lt = place.1 in
    let there : c.in-Some.place < length c.args.self.now.nodes.items = omega (arith, ok, e, lt) in
    on_ok_weaker c.arrive.result
    (λ leads. come_leads g.R.Rng.stream c.args.self.now c.arrive.new.self c.args.told.now.items c.arrive.new.told.items c.args.now c.args.node c.in-Some.place (request_of c.args.event.now) place.0 there (leads None))
    c.arrive.ensures.leads

pub returns-in-None-clause-leads : goal.returns-in-None-clause-leads
returns-in-None-clause-leads g c =
    let ok = c.args.self.now.nodes.ok.0 in
    let e = c.len.ensures in
    let le = c.in-None.ensures.none in
    let past : length c.args.self.now.nodes.items ≤ c.args.node = omega (arith, ok, e, le) in
    on_ok_weaker c.refuse.result
    (λ leads. no_node_leads g.R.Rng.stream c.args.self.now c.refuse.new.self c.args.told.now.items c.refuse.new.told.items c.args.now c.args.node (request_of c.args.event.now) past leads)
    c.refuse.ensures.leads

pub returns-in-Some-clause-refused : goal.returns-in-Some-clause-refused
returns-in-Some-clause-refused g c = λ why log s h place'.
    let ok = c.args.self.now.nodes.ok.0 in
    let e = c.len.ensures in
    let place = c.in-Some.ensures.some in
    let lt = place.1 in
    let same = place.0 in
    let there : c.args.node < length c.args.self.now.nodes.items = omega (arith, ok, e, lt, same) in
    absurd (come_left g.R.Rng.stream c.args.self.now c.args.now why log s c.args.node (request_of c.args.event.now) there h)
