use Rattle.ndpctl_run.proofs.Partings.{no_parts, parts_at}
use Rattle.ndpctl_link.proofs.start.split_mac.Goals as goal

pub returns-in_err-word-clause-only : goal.returns-in_err-word-clause-only
returns-in_err-word-clause-only c = λ mac rest p. absurd (no_parts c.args.text.now _ _ c.in_err-word.ensures p)

pub returns-in_err-mac-clause-only : goal.returns-in_err-mac-clause-only
returns-in_err-mac-clause-only c = λ mac rest p.
    let theirs = parts_at c.args.text.now c.in_ok-word.word.now c.in_ok-word.rest.now _ _ c.in_ok-word.ensures p in
    let r = c.in_err-mac.ensures.only mac theirs.0 in cc

pub returns-clause-only : goal.returns-clause-only
returns-clause-only c = λ mac rest p.
    let theirs = parts_at c.args.text.now c.in_ok-word.word.now c.in_ok-word.rest.now _ _ c.in_ok-word.ensures p in
    let r = c.in_ok-mac.ensures.only mac theirs.0 in ((cc), theirs.1)
