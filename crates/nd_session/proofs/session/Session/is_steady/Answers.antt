use Rattle.std.proofs.Common.{◌≡◌, ◌<◌, ◌-◌, ◌∙◌, Bool, Some, ap, arith, inl, subst, sym}
use Rattle.std.specs.Prelude.{MatchBool}
use Rattle.nd_addr.specs.Number.{number_of}
use Rattle.nd_neighbour.specs.declared.shown.Reachability.TheVariants.{Delay}
use Rattle.nd_node.specs.Path.{PathSeen}
use Rattle.nd_node.specs.PathKept.{towards}
use Rattle.nd_node.proofs.Lasting.{delayed_later}
use Rattle.nd_session.proofs.session.Session.is_steady.Goals as goal

pub returns : goal.returns
returns c = λ delayed.
    let destination = c.args.destination in
    let last = c.args.path.until - 1 in
    let now_delayed : c.args.path.state ≡ Some Delay = c.if-not-is_delayed.ensures in
    let then_delayed : c.neighbour_state.result ≡ Some Delay =
    subst (λ (b : Bool). MatchBool b (c.neighbour_state.result ≡ Some Delay) (c.neighbour_state.result ≡ Some Delay → ⊥)) delayed c.is_delayed-2.ensures in
    inl
    (delayed_later c.args.self.now.node c.args.now last destination (number_of c.args.to.0) (omega (arith, c.requires.in_lease))
    (subst (λ (p : PathSeen). last < p.until) c.requires.path (omega (arith, c.requires.in_lease)))
    (subst (λ (p : PathSeen). towards p.next destination ≡ number_of c.args.to.0) c.requires.path c.requires.to_is)
    (ap (λ (p : PathSeen). p.state) (sym c.requires.path) ∙ now_delayed)
    ∙ (sym c.neighbour_state.ensures ∙ (then_delayed ∙ sym now_delayed)))
