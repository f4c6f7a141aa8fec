use Rattle.std.proofs.Common.{◌≡◌, refl}
use Rattle.nd_node.specs.Path.{path_in}
use Rattle.nd_session.proofs.Remembered.{recalls_one, remembers_one}
use Rattle.nd_session.proofs.session.Session.remember.Goals as goal

pub invariant_of-self : goal.invariant_of-self
invariant_of-self c = record {
  remembered = remembers_one c.args.self.now.node c.args.now c.args.destination c.in-Some.to c.in-Some.mac c.args.timed.path.state c.in-Some-end_of.reachable_until (path_in c.args.timed.path) c.args.timed.reachable_left c.requires.left (λ none. (let zero = c.in-Some-end_of.ensures.none none in let same : c.in-Some-end_of.reachable_until ≡ 0 = cc in same)) c.in-Some-end_of.ensures.some c.requires.path c.in-Some.ensures.1 c.in-Some.ensures.2 refl
      (c.is_steady.ensures c.if-not-is_steady.false) c.args.self.now.paths c.remember.new.self c.remember.ensures.version c.remember.ensures.paths c.args.self.now.remembered;
}

pub returns-clause-recalled : goal.returns-clause-recalled
returns-clause-recalled c =
    recalls_one c.remember.new.self c.args.now c.args.self.now.paths.version
    (record { destination = c.args.destination; to = c.in-Some.to; mac = c.in-Some.mac; state = c.args.timed.path.state; reachable_until = c.in-Some-end_of.reachable_until; from = c.args.now; until = c.args.timed.path.until; version = 0 })
    c.remember.result c.remember.ensures.version refl c.in-Some.ensures.0 c.remember.ensures.there c.remember.ensures.value
