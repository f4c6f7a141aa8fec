use Rattle.std.proofs.Common.{◌∙◌, ◌∷◌, ap, arith}
use Rattle.ndpctl_run.proofs.Partings.{count_first, count_one, first_word}
use Rattle.ndpctl_run.proofs.words.four_words.Goals as goal

pub returns-in_err-first-clause-only : goal.returns-in_err-first-clause-only
returns-in_err-first-clause-only c = λ four. absurd (omega (arith, four, count_one c.args.text.now c.in_err-first.ensures))

pub returns-in_err-second-clause-only : goal.returns-in_err-second-clause-only
returns-in_err-second-clause-only c = λ four.
    let one = count_first c.args.text.now c.in_ok-first.first.now c.in_ok-first.rest.now c.in_ok-first.ensures in
    absurd (omega (arith, four, one, count_one c.in_ok-first.rest.now c.in_err-second.ensures))

pub returns-in_err-third-clause-only : goal.returns-in_err-third-clause-only
returns-in_err-third-clause-only c = λ four.
    let one = count_first c.args.text.now c.in_ok-first.first.now c.in_ok-first.rest.now c.in_ok-first.ensures in
    let other = count_first c.in_ok-first.rest.now c.in_ok-second.second.now c.in_ok-second.rest.now c.in_ok-second.ensures in
    let none = c.in_err-third.ensures.only (omega (arith, four, one, other)) in cc

pub returns-clause-found : goal.returns-clause-found
returns-clause-found c =
    first_word c.args.text.now c.in_ok-first.first.now c.in_ok-first.rest.now c.in_ok-first.ensures
    ∙ ap (λ words. c.in_ok-first.first.now ∷ words)
    (first_word c.in_ok-first.rest.now c.in_ok-second.second.now c.in_ok-second.rest.now c.in_ok-second.ensures ∙ ap (λ words. c.in_ok-second.second.now ∷ words) c.in_ok-third.ensures.found)
