use Rattle.std.proofs.Common.{sym}
use Rattle.std.proofs.lemmas.Bool.{true≢false}
use Rattle.nd_node.proofs.node.Node.resolve.Goals as goal

pub returns-in_err-way-clause-quiet : goal.returns-in_err-way-clause-quiet
returns-in_err-way-clause-quiet g c = λ places start c' s le at_once place. absurd (true≢false (sym (c.in_err-way.ensures.quiet places start c' s le at_once place)))
