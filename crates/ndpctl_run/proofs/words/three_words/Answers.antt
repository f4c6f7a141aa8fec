use Rattle.std.proofs.Common.{◌∙◌, ◌∷◌, ap, arith}
use Rattle.ndpctl_run.proofs.Partings.{count_first, count_one, first_word}
use Rattle.ndpctl_run.proofs.words.three_words.Goals as goal

pub returns-in_err-first-clause-only : goal.returns-in_err-first-clause-only
returns-in_err-first-clause-only c = λ three. absurd (omega (arith, three, count_one c.args.text.now c.in_err-first.ensures))

pub returns-in_err-second-clause-only : goal.returns-in_err-second-clause-only
returns-in_err-second-clause-only c = λ three.
    let one = count_first c.args.text.now c.in_ok-first.first.now c.in_ok-first.rest.now c.in_ok-first.ensures in
    let none = c.in_err-second.ensures.only (omega (arith, three, one)) in cc

pub returns-clause-found : goal.returns-clause-found
returns-clause-found c =
    first_word c.args.text.now c.in_ok-first.first.now c.in_ok-first.rest.now c.in_ok-first.ensures
    ∙ ap (λ words. c.in_ok-first.first.now ∷ words) c.in_ok-second.ensures.found
