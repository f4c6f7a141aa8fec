use Rattle.std.proofs.Common.{sym, ap, ◌∙◌, arith}
use Rattle.ndpctl_run.specs.Table.{clearable_word}
use Rattle.ndpctl_run.proofs.TableWords.{place_to_clear}
use Rattle.ndpctl_run.proofs.table.read_clearable.Goals as goal

pub returns-clause-only : goal.returns-clause-only
returns-clause-only c = λ table e.
    let at = place_to_clear table in
    absurd (c.loop-table.invariant at.at at.found (omega (arith, at.within)) at.there (e ∙ ap clearable_word (sym at.is_it)))
