use Rattle.std.proofs.Common.{rules, ◌≡◌, ◌*◌, ◌^◌, Some, ◌∙◌, sym, ap, arith}
use Rattle.std.specs.Prelude.{codes}
use Rattle.ndpctl_run.proofs.NumberWords.{number_by_default}
use Rattle.ndpctl_run.proofs.Readings.{some_iff}
use Rattle.ndpctl_run.proofs.settings.read_lifetime.Goals as goal

pub returns-then-eq-clause-only : goal.returns-then-eq-clause-only
returns-then-eq-clause-only c = λ n small spelled.
    let dash : c.args.word.now ≡ codes "-" = search rules in
    let is : n ≡ 3 * c.args.max_interval = number_by_default (3 * c.args.max_interval) (2 ^ 16) (omega arith) c.args.word.now n dash spelled in
    some_iff c.checked_mul.result _ _ c.checked_mul.ensures (omega (arith, small, is)) ∙ ap (λ m. Some m) (sym is)
