use Rattle.std.proofs.Common.{◌∷◌, ◌∙◌, sym, subst}
use Rattle.std.proofs.lemmas.Bool.{true≢false}
use Rattle.nd_decode.specs.declared.body.Body.{Body}
use Rattle.nd_chronicle.specs.Happening.{Passed}
use Rattle.nd_chronicle.specs.Hearing.{FromFirstHop, NotFromFirstHop}
use Rattle.nd_chronicle.specs.NextHop.{IsNextHop}
use Rattle.nd_nexthop.specs.NextHop.{NextHop}
use Rattle.nd_nexthop.specs.NextHopKept.{hop_of}
use Rattle.nd_node.proofs.Judging.{from_any, next_later}
use Rattle.nd_node.proofs.node.Node.is_from_first_hop.Goals as goal

pub returns-in-Redirect-clause-from : goal.returns-in-Redirect-clause-from
returns-in-Redirect-clause-from g c = λ start c' s le is.
    let d = c.in-Redirect.redirect.destination in
    let next = next_later start c' c.args.now d (hop_of c.determined_hop-hop.result) (c.determined_hop-hop.ensures.next start c' s le) in
    subst (λ (b : Body). FromFirstHop start ((c.args.now, Passed) ∷ c') c.args.now c.args.heard.now.source b) (sym c.in-Redirect.is)
    (subst (λ (h : NextHop). IsNextHop start ((c.args.now, Passed) ∷ c') c.args.now d h) (c.is_via.ensures.0 is) next)

pub returns-in-Redirect-clause-not_from : goal.returns-in-Redirect-clause-not_from
returns-in-Redirect-clause-not_from g c = λ start c' s le is.
    let d = c.in-Redirect.redirect.destination in
    let next = next_later start c' c.args.now d (hop_of c.determined_hop-hop.result) (c.determined_hop-hop.ensures.next start c' s le) in
    subst (λ (b : Body). NotFromFirstHop start ((c.args.now, Passed) ∷ c') c.args.now c.args.heard.now.source b) (sym c.in-Redirect.is)
    (hop_of c.determined_hop-hop.result, next, λ e. true≢false (sym (c.is_via.ensures.1 e) ∙ is))

pub returns-in_default-clause-from : goal.returns-in_default-clause-from
returns-in_default-clause-from g c = λ start c' s le is.
    from_any start ((c.args.now, Passed) ∷ c') c.args.now c.args.heard.now.source c.args.heard.now.message.body c.in_default.not-Redirect
