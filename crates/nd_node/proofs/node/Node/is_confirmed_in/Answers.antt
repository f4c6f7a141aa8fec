use Rattle.std.proofs.Common.{◌∙◌, ap, false, refl, sym}
use Rattle.nd_node.specs.ReachabilityConfirmation.{moves_by}
use Rattle.nd_node.proofs.Confirming.{none_of_all_in_lease, one_as_seen}
use Rattle.nd_node.proofs.node.Node.is_confirmed_in.Goals as goal

pub returns-then-is_multicast : goal.returns-then-is_multicast
returns-then-is_multicast g c = λ start c' s le.
    none_of_all_in_lease g.R.Rng.stream start c.args.self.now c' s c.args.now c.args.destination c.args.least le c.requires.in_lease (sym c.is_multicast.ensures.exactly ∙ c.if-is_multicast.true)

pub returns-in-Some : goal.returns-in-Some
returns-in-Some g c = λ start c' s le.
    one_as_seen g.R.Rng.stream start c.args.self.now c' s c.args.now c.args.destination c.args.least le c.requires.in_lease c.args.state c.args.left _
    (rw c.in-Some.is (c.moves_by.ensures ∙ ap (λ r. moves_by r c.args.least c.in-Some.state c.args.left) c.reachable_time.ensures.value))
    (sym c.is_multicast.ensures.exactly ∙ c.if-is_multicast.false) c.requires.state_is c.requires.left_is

pub returns-in-None : goal.returns-in-None
returns-in-None g c = λ start c' s le.
    one_as_seen g.R.Rng.stream start c.args.self.now c' s c.args.now c.args.destination c.args.least le c.requires.in_lease c.args.state c.args.left false (rw c.in-None.is refl)
    (sym c.is_multicast.ensures.exactly ∙ c.if-is_multicast.false) c.requires.state_is c.requires.left_is
