use Rattle.std.proofs.Common.{◌∙◌, ap, sym, subst}
use Rattle.std.specs.Option.{option_map}
use Rattle.nd_addr.specs.Number.{number_of}
use Rattle.nd_node.specs.Path.{IsPath, PathSeen}
use Rattle.nd_node.proofs.Leases.{kept_is_path, path_holds}
use Rattle.nd_node.proofs.Paths.{unleased}
use Rattle.nd_node.proofs.node.Node.path.Goals as goal

pub returns-clause-path : goal.returns-clause-path
returns-clause-path g c = λ start c' s le.
    subst (λ (p : PathSeen). IsPath start c' c.args.now c.args.destination p) (sym c.path_through.ensures.value) (kept_is_path g.R.Rng.stream start c.args.self.now c' s c.args.now c.args.destination le c.requires.settled)

pub returns-clause-lasts : goal.returns-clause-lasts
returns-clause-lasts g c = λ start c' moment s le from until.
    path_holds g.R.Rng.stream start c.args.self.now c' c.args.now moment c.args.destination _ c.path_through.ensures.value s le from until

pub returns-clause-unleased : goal.returns-clause-unleased
returns-clause-unleased g c = λ none.
    let kept = c.path_through.ensures.value in
    ap (λ (p : PathSeen). p.until) kept
    ∙ unleased c.args.self.now c.args.now c.args.destination (sym (ap (λ (p : PathSeen). p.mac) kept) ∙ ap (λ o. option_map (λ mac. number_of mac.0) o) none)
