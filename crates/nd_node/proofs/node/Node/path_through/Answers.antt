use Rattle.std.proofs.Common.{◌≡◌, ◌∙◌, sym, subst}
use Rattle.nd_addr.specs.Number.{number_of}
use Rattle.nd_nexthop.specs.declared.next_hop.Hop.{Hop}
use Rattle.nd_nexthop.specs.NextHopKept.{hop_of}
use Rattle.nd_node.specs.PathKept.{hop_kept}
use Rattle.nd_node.proofs.Paths.{kept_by_router, kept_of_none, kept_to_all, kept_to_one, left_by_router, left_of_none, left_to_all, left_to_one}
use Rattle.nd_node.proofs.node.Node.path_through.Goals as goal

pub returns-then-is_multicast-clause-value : goal.returns-then-is_multicast-clause-value
returns-then-is_multicast-clause-value g c = rw c.without_time-then-is_multicast.ensures
    (kept_to_all c.args.self.now c.args.now c.args.destination _ c.is_up-up.result c.args.due c.is_up-up.ensures.value c.requires.due
    (subst (λ (h : Hop). hop_of h ≡ hop_kept c.args.self.now.role c.args.self.now c.args.now c.args.destination) c.in-Direct.is c.requires.hop)
    (sym c.is_multicast.ensures.exactly ∙ c.if-is_multicast.true) c.path_to_all.ensures)

pub returns-in-NoRoute-clause-value : goal.returns-in-NoRoute-clause-value
returns-in-NoRoute-clause-value g c = rw (c.without_time.ensures, c.in-NoRoute.is)
    (kept_of_none c.args.self.now c.args.now c.args.destination (subst (λ (h : Hop). hop_of h ≡ hop_kept c.args.self.now.role c.args.self.now c.args.now c.args.destination) c.in-NoRoute.is c.requires.hop))

pub returns-in-Via-clause-value : goal.returns-in-Via-clause-value
returns-in-Via-clause-value g c =
    kept_by_router c.args.self.now c.args.now c.args.destination _ c.is_up-up.result c.args.due c.is_up-up.ensures.value c.requires.due (number_of c.in-Via.router.0)
    (subst (λ (h : Hop). hop_of h ≡ hop_kept c.args.self.now.role c.args.self.now c.args.now c.args.destination) c.in-Via.is c.requires.hop) c.path_by.ensures.path

pub returns-else-is_multicast-clause-value : goal.returns-else-is_multicast-clause-value
returns-else-is_multicast-clause-value g c =
    kept_to_one c.args.self.now c.args.now c.args.destination _ c.is_up-up.result c.args.due c.is_up-up.ensures.value c.requires.due
    (subst (λ (h : Hop). hop_of h ≡ hop_kept c.args.self.now.role c.args.self.now c.args.now c.args.destination) c.in-Direct.is c.requires.hop)
    (sym c.is_multicast.ensures.exactly ∙ c.if-is_multicast.false) (rw c.in-Direct.is at c.path_by-in-Direct.ensures.path)

pub returns-then-is_multicast-clause-left : goal.returns-then-is_multicast-clause-left
returns-then-is_multicast-clause-left g c = rw c.without_time-then-is_multicast.ensures
    (left_to_all c.args.self.now c.args.now c.args.destination (subst (λ (h : Hop). hop_of h ≡ hop_kept c.args.self.now.role c.args.self.now c.args.now c.args.destination) c.in-Direct.is c.requires.hop)
    (sym c.is_multicast.ensures.exactly ∙ c.if-is_multicast.true))

pub returns-in-NoRoute-clause-left : goal.returns-in-NoRoute-clause-left
returns-in-NoRoute-clause-left g c = rw c.without_time.ensures
    (left_of_none c.args.self.now c.args.now c.args.destination (subst (λ (h : Hop). hop_of h ≡ hop_kept c.args.self.now.role c.args.self.now c.args.now c.args.destination) c.in-NoRoute.is c.requires.hop))

pub returns-in-Via-clause-left : goal.returns-in-Via-clause-left
returns-in-Via-clause-left g c =
    c.path_by.ensures.left ∙ left_by_router c.args.self.now c.args.now c.args.destination (number_of c.in-Via.router.0)
    (subst (λ (h : Hop). hop_of h ≡ hop_kept c.args.self.now.role c.args.self.now c.args.now c.args.destination) c.in-Via.is c.requires.hop)

pub returns-else-is_multicast-clause-left : goal.returns-else-is_multicast-clause-left
returns-else-is_multicast-clause-left g c =
    c.path_by-in-Direct.ensures.left ∙ left_to_one c.args.self.now c.args.now c.args.destination
    (subst (λ (h : Hop). hop_of h ≡ hop_kept c.args.self.now.role c.args.self.now c.args.now c.args.destination) c.in-Direct.is c.requires.hop) (sym c.is_multicast.ensures.exactly ∙ c.if-is_multicast.false)
