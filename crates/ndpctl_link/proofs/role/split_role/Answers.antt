use Rattle.ndpctl_run.proofs.Partings.{no_parts, parts_at}
use Rattle.ndpctl_link.proofs.role.split_role.Goals as goal

pub returns-in_err-word-clause-only : goal.returns-in_err-word-clause-only
returns-in_err-word-clause-only c = λ role rest p. absurd (no_parts c.args.text.now _ _ c.in_err-word.ensures p)

pub returns-in_err-role-clause-only : goal.returns-in_err-role-clause-only
returns-in_err-role-clause-only c = λ role rest p.
    let theirs = parts_at c.args.text.now c.in_ok-word.word.now c.in_ok-word.rest.now _ _ c.in_ok-word.ensures p in
    let r = c.in_err-role.ensures.only role theirs.0 in cc

pub returns-clause-only : goal.returns-clause-only
returns-clause-only c = λ role rest p.
    let theirs = parts_at c.args.text.now c.in_ok-word.word.now c.in_ok-word.rest.now _ _ c.in_ok-word.ensures p in
    let r = c.in_ok-role.ensures.only role theirs.0 in ((cc), theirs.1)
