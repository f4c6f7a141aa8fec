use Rattle.std.proofs.Common.{◌≡◌, true, Contains, ap, refl, ◌∙◌, subst, inl}
use Rattle.nd_addr.specs.Number.{number_of}
use Rattle.nd_nexthop.specs.Choice.{Table, target_in}
use Rattle.nd_nexthop.specs.Memo.{is_asked}
use Rattle.nd_nexthop.specs.NextHop.{hop}
use Rattle.nd_nexthop.specs.NextHopKept.{hop_of}
use Rattle.nd_nexthop.proofs.Recalled.{agrees_with, by_history_of, recalled, remembers_less}
use Rattle.nd_nexthop.proofs.choice.Choice.next_hop.Goals as goal

-- ---- the destination is link-local

pub returns-then-is_link_local-clause-by_history : goal.returns-then-is_link_local-clause-by_history
returns-then-is_link_local-clause-by_history g c = λ agrees.
    by_history_of (g.V.View.own c.args.view.now) (g.V.View.linked c.args.view.now) (g.V.View.candidates c.args.view.now) c.args.self.now c.args.destination (hop_of c.determine.result)
    (c.determine.ensures ∙ ap (λ k. hop (g.V.View.own c.args.view.now) (g.V.View.linked c.args.view.now) (g.V.View.candidates c.args.view.now) k c.args.destination.0) c.target.ensures)

-- ---- it was remembered

pub returns-in-Some-clause-value : goal.returns-in-Some-clause-value
returns-in-Some-clause-value g c = λ agrees.
    let d = c.args.destination in
    recalled (g.V.View.own c.args.view.now) (g.V.View.linked c.args.view.now) (g.V.View.candidates c.args.view.now) c.args.now c.args.self.now d c.in-Some.hop agrees
    (subst (λ (t : Table). is_asked c.args.now t.memory.until ≡ true) c.self.view_is (c.in-Some.ensures.asked refl))
    (subst (λ (t : Table). Contains t.memory.hops (number_of d.0, c.in-Some.hop)) c.self.view_is c.in-Some.ensures.found)
    (c.addresses_are_told_by_numbers.ensures.addr d c.as_bytes-bytes.ensures.bytes)

pub returns-in-Some-clause-by_history : goal.returns-in-Some-clause-by_history
returns-in-Some-clause-by_history g c = λ agrees.
    by_history_of (g.V.View.own c.args.view.now) (g.V.View.linked c.args.view.now) (g.V.View.candidates c.args.view.now) c.args.self.now c.args.destination (hop_of c.in-Some.hop) (returns-in-Some-clause-value g c agrees)

pub returns-in-Some-clause-remembers : goal.returns-in-Some-clause-remembers
returns-in-Some-clause-remembers g c = λ e there.
    inl (subst (λ (t : Table). Contains t.memory.hops e) c.self.view_is (c.in-Some.ensures.hops e there))

pub returns-in-Some-clause-agrees : goal.returns-in-Some-clause-agrees
returns-in-Some-clause-agrees g c = λ agrees.
    let d = c.args.destination in
    let left : Table = record { redirects = record { limit = c.self.inside.redirects.cap; destinations = c.recall.new.self.limit; entries = c.self.inside.redirects.entries }; memory = c.recall.new.self } in
    agrees_with (g.V.View.own c.args.view.now) (g.V.View.linked c.args.view.now) (g.V.View.candidates c.args.view.now) c.args.now c.args.self.now left d c.in-Some.hop agrees
    (ap (λ t. t.redirects.entries) c.self.view_is) (c.in-Some.ensures.until ∙ ap (λ t. t.memory.until) c.self.view_is)
    (c.addresses_are_told_by_numbers.ensures.addr d c.as_bytes-bytes.ensures.bytes) (returns-in-Some-clause-value g c agrees) (returns-in-Some-clause-remembers g c)

-- ---- it is determined, and remembered then

value_anew : (g : _) (c : goal.After-remember g)
    → hop_of c.determine-hop.result ≡ hop (g.V.View.own c.args.view.now) (g.V.View.linked c.args.view.now) (g.V.View.candidates c.args.view.now) (target_in (number_of c.args.destination.0) c.args.self.now.redirects.entries) c.args.destination.0
value_anew g c =
    let key = number_of c.args.destination.0 in
    c.determine-hop.ensures
    ∙ ap (λ k. hop (g.V.View.own c.args.view.now) (g.V.View.linked c.args.view.now) (g.V.View.candidates c.args.view.now) k c.args.destination.0) (c.target-in-None.ensures ∙ ap (λ t. target_in key t.redirects.entries) c.self.view_is)

pub returns-in-None-clause-value : goal.returns-in-None-clause-value
returns-in-None-clause-value g c = λ agrees. value_anew g c

pub returns-in-None-clause-by_history : goal.returns-in-None-clause-by_history
returns-in-None-clause-by_history g c = λ agrees.
    by_history_of (g.V.View.own c.args.view.now) (g.V.View.linked c.args.view.now) (g.V.View.candidates c.args.view.now) c.args.self.now c.args.destination (hop_of c.determine-hop.result) (value_anew g c)

pub returns-in-None-clause-remembers : goal.returns-in-None-clause-remembers
returns-in-None-clause-remembers g c = λ e there.
    remembers_less c.args.now (number_of c.args.destination.0) c.determine-hop.result c.recall.new.self c.args.self.now.memory e (c.in-None.ensures.until ∙ ap (λ t. t.memory.until) c.self.view_is)
    (λ was. subst (λ (t : Table). Contains t.memory.hops e) c.self.view_is (c.in-None.ensures.hops e was)) (c.remember.ensures.hops e there)

pub returns-in-None-clause-agrees : goal.returns-in-None-clause-agrees
returns-in-None-clause-agrees g c = λ agrees.
    let d = c.args.destination in
    let left : Table = record { redirects = record { limit = c.self.inside.redirects.cap; destinations = c.remember.new.self.limit; entries = c.self.inside.redirects.entries }; memory = c.remember.new.self } in
    agrees_with (g.V.View.own c.args.view.now) (g.V.View.linked c.args.view.now) (g.V.View.candidates c.args.view.now) c.args.now c.args.self.now left d c.determine-hop.result agrees
    (ap (λ t. t.redirects.entries) c.self.view_is) (c.remember.ensures.until ∙ c.in-None.ensures.until ∙ ap (λ t. t.memory.until) c.self.view_is)
    (c.addresses_are_told_by_numbers.ensures.addr d c.as_bytes-bytes.ensures.bytes) (value_anew g c) (returns-in-None-clause-remembers g c)
