use Rattle.std.proofs.Common.{◌∙◌, refl, subst}
use Rattle.nd_node.specs.declared.resolve.Resolution.{Resolution}
use Rattle.nd_node.specs.Path.{path_in}
use Rattle.nd_node.specs.ResolveKept.{IsWay}
use Rattle.nd_session.proofs.Remembered.{kept_leased, nothing_goes, way_goes}
use Rattle.nd_session.proofs.session.Session.with_lease.Goals as goal

pub returns-in-Some-clause-lease : goal.returns-in-Some-clause-lease
returns-in-Some-clause-lease c =
    kept_leased c.args.self.now.node c.remember-remembered.new.self c.args.now c.args.destination (path_in c.in-Some.timed.path) c.in-Some.ensures.value (c.in-Some.ensures.settled.0 refl)
    (c.remember-remembered.ensures.node ∙ c.timed_path.ensures.same)

pub returns-in-Some-clause-goes : goal.returns-in-Some-clause-goes
returns-in-Some-clause-goes c = λ goes.
    way_goes c.args.self.now.node c.remember-remembered.new.self.node c.args.now c.args.destination c.in-Path.way (path_in c.in-Some.timed.path) c.in-Some.ensures.value
    (c.remember-remembered.ensures.node ∙ c.timed_path.ensures.same) (subst (λ (r : Resolution). IsWay c.args.self.now.node c.args.now c.args.destination r) c.in-Path.is goes)

pub returns-in_default-clause-goes : goal.returns-in_default-clause-goes
returns-in_default-clause-goes c = λ goes. nothing_goes _ c.args.now c.args.destination c.in-Path.way
