use Rattle.std.proofs.Common.{rules, ◌≡◌, ◌^◌, Some, sym, ap, arith}
use Rattle.std.specs.Prelude.{codes}
use Rattle.ndpctl_run.proofs.NumberWords.{number_by_default}
use Rattle.ndpctl_run.proofs.number.read_u16_or.Goals as goal

pub returns-then-eq-clause-only : goal.returns-then-eq-clause-only
returns-then-eq-clause-only c = λ n spelled.
    let dash : c.args.word.now ≡ codes "-" = search rules in
    ap (λ m. Some m) (sym (number_by_default c.args.default (2 ^ 16) (omega arith) c.args.word.now n dash spelled))
