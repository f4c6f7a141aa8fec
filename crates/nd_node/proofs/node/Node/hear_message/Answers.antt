use Rattle.std.proofs.Common.{◌∙◌, ap}
use Rattle.nd_chronicle.specs.Start.{Policies}
use Rattle.nd_node.specs.Hearing.{options_read}
use Rattle.nd_decode.specs.declared.body.Body.TheVariants as bodies
use Rattle.nd_node.proofs.Refusals.{message_full}
use Rattle.nd_node.proofs.node.Node.hear_message.Goals as goal

pub returns-in-Rs-clause-adds : goal.returns-in-Rs-clause-adds
returns-in-Rs-clause-adds g c = rw c.in-Rs.is c.hear_router_solicitation.ensures.adds

pub returns-in-Ra-clause-adds : goal.returns-in-Ra-clause-adds
returns-in-Ra-clause-adds g c = rw c.in-Ra.is c.hear_router_advertisement.ensures.adds

pub returns-in-Ns-clause-adds : goal.returns-in-Ns-clause-adds
returns-in-Ns-clause-adds g c = rw c.in-Ns.is c.hear_neighbor_solicitation.ensures.adds

pub returns-in-Na-clause-adds : goal.returns-in-Na-clause-adds
returns-in-Na-clause-adds g c = rw c.in-Na.is c.hear_neighbor_advertisement.ensures.adds

pub returns-in-Redirect-clause-adds : goal.returns-in-Redirect-clause-adds
returns-in-Redirect-clause-adds g c = rw c.in-Redirect.is c.hear_redirect.ensures.adds

pub returns-in-Rs-clause-refused : goal.returns-in-Rs-clause-refused
returns-in-Rs-clause-refused g c = rw c.in-Rs.is (λ frame verdict start c' s le judged adds place.
    let f = message_full start c.args.now c.args.heard.now.source c.args.heard.now.destination (record { body = bodies.Rs; options = options_read c.args.self.now c.args.heard.now.message.options }) c' frame verdict judged adds in
    c.hear_router_solicitation.ensures.full f.0 start c' s le f.1 (ap (λ (p : Policies). p.parts) s.policies ∙ f.2) place)

pub returns-in-Ra-clause-refused : goal.returns-in-Ra-clause-refused
returns-in-Ra-clause-refused g c = rw c.in-Ra.is (λ frame verdict start c' s le judged adds place.
    let f = message_full start c.args.now c.args.heard.now.source c.args.heard.now.destination (record { body = bodies.Ra c.in-Ra.ra; options = options_read c.args.self.now c.args.heard.now.message.options }) c' frame verdict judged adds in
    c.hear_router_advertisement.ensures.full f.0 start c' s le f.1 (ap (λ (p : Policies). p.parts) s.policies ∙ f.2) place)

pub returns-in-Ns-clause-refused : goal.returns-in-Ns-clause-refused
returns-in-Ns-clause-refused g c = rw c.in-Ns.is (λ frame verdict start c' s le judged adds place.
    let f = message_full start c.args.now c.args.heard.now.source c.args.heard.now.destination (record { body = bodies.Ns c.in-Ns.ns; options = options_read c.args.self.now c.args.heard.now.message.options }) c' frame verdict judged adds in
    c.hear_neighbor_solicitation.ensures.full f.0 start c' s le f.1 (ap (λ (p : Policies). p.parts) s.policies ∙ f.2) place)

pub returns-in-Na-clause-refused : goal.returns-in-Na-clause-refused
returns-in-Na-clause-refused g c = rw c.in-Na.is (λ frame verdict start c' s le judged adds place.
    let f = message_full start c.args.now c.args.heard.now.source c.args.heard.now.destination (record { body = bodies.Na c.in-Na.na; options = options_read c.args.self.now c.args.heard.now.message.options }) c' frame verdict judged adds in
    c.hear_neighbor_advertisement.ensures.full f.0 start c' s le f.1 place)

pub returns-in-Redirect-clause-refused : goal.returns-in-Redirect-clause-refused
returns-in-Redirect-clause-refused g c = rw c.in-Redirect.is (λ frame verdict start c' s le judged adds place.
    let f = message_full start c.args.now c.args.heard.now.source c.args.heard.now.destination (record { body = bodies.Redirect c.in-Redirect.redirect; options = options_read c.args.self.now c.args.heard.now.message.options }) c' frame verdict judged adds in
    c.hear_redirect.ensures.full f.0 start c' s le f.1 (ap (λ (p : Policies). p.parts) s.policies ∙ f.2) place)
