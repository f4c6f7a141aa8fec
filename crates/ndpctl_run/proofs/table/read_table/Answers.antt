use Rattle.std.proofs.Common.{sym, ap, ◌∙◌, arith}
use Rattle.ndpctl_run.specs.Table.{table_word}
use Rattle.ndpctl_run.proofs.TableWords.{place}
use Rattle.ndpctl_run.proofs.table.read_table.Goals as goal

pub returns-clause-only : goal.returns-clause-only
returns-clause-only c = λ table e.
    let at = place table in
    absurd (c.loop-table.invariant at.at at.found (omega (arith, at.within)) at.there (e ∙ ap table_word (sym at.is_it)))
