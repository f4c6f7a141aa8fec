use Rattle.std.proofs.Common.{◌≡◌, ◌+◌, ◌-◌, ◌<◌, ◌∙◌, suc, ap, subst, arith, ℕ, Option, None, length, take, set, get_or}
use Rattle.std.specs.Prelude.{sum_by, MatchOption}
use Rattle.std.proofs.lemmas.List.{get_or_default}
use Rattle.nd_table.proofs.Walking.{sum_without}
use Rattle.nd_table.proofs.walk.change.Goals as goal

pub returns-in-Some-clause-names : goal.returns-in-Some-clause-names
returns-in-Some-clause-names g c = rw c.in-Some.is (λ f.
    let xs = c.args.kept.now in
    let i = c.in-Some.i in
    let m = c.args.count - 1 in
    let below : i < c.args.count = subst (λ (o : Option ℕ). MatchOption o (c.args.count < length xs) (λ i. i < c.args.count)) c.in-Some.is c.requires.place in
    let last : c.index-kept-count.result ≡ get_or xs m None = c.index-kept-count.is ∙ get_or_default xs m c.index-kept-count.result None (omega (arith, below, c.requires.within)) in
    let all : suc m ≡ c.args.count = omega (arith, below) in
    ap (λ (x : Option g.row.Q.Denot). sum_by f (take m (set xs i x)) + f (get_or xs i None)) last
    ∙ (sum_without f xs i m None (omega (arith, below)) (omega (arith, below, c.requires.within))
    ∙ ap (λ k. sum_by f (take k xs)) all))
