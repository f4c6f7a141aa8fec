use Rattle.std.proofs.Common.{◌≡◌, Some, refl, subst, arith}
use Rattle.std.specs.Prelude.{slice_get}
use Rattle.nd_link.proofs.Arriving.{all_reached}
use Rattle.nd_link.proofs.Passage.{passed_in}
use Rattle.nd_link.proofs.link.Link.reach.Goals as goal

pub pass_others-requires : goal.pass_others-requires
pass_others-requires g c = record { settled = λ i node is. c.requires.settled i node (subst (λ l. slice_get l i ≡ Some node) c.deref_mut.ensures.value is) }

pub returns-clause-reaches : goal.returns-clause-reaches
returns-clause-reaches g c =
    let p = passed_in g.R.Rng.stream c.args.now c.len-none.result c.args.self.now.nodes c.deref_mut.result.now c.pass_others.new.nodes c.deref_mut.ensures.value c.pass_others.ensures in
    let n = p.count in
    let ok = c.args.self.now.nodes.ok.0 in
    let e = c.len-none.ensures in
    all_reached g.R.Rng.stream c.args.self.now _ c.args.now c.len-none.result p (omega (arith, n, ok, e)) refl refl c.requires.in_time
