use Rattle.std.proofs.Common.{◌≡◌, ℕ, ap, arith}
use Rattle.nd_node.proofs.Steps.{passed}
use Rattle.nd_node.proofs.node.Node.pass.Goals as goal

pub returns-else-self-now-clause-passes : goal.returns-else-self-now-clause-passes
returns-else-self-now-clause-passes g c = λ start c' s le.
    let now_is : c.args.self.now.last ≡ c.args.now = omega (arith, s.last, le, c.if-self-now.false) in
    passed g.R.Rng.stream start c.args.self.now c.args.self.now c' c.args.now s le c.requires.settled (ap (λ (last : ℕ). record c.args.self.now { last = last }) now_is)

pub returns-then-self-now-clause-passes : goal.returns-then-self-now-clause-passes
returns-then-self-now-clause-passes g c = λ start c' s le.
    passed g.R.Rng.stream start c.args.self.now c.advance_to.new.self c' c.args.now s le c.requires.settled c.advance_to.ensures
