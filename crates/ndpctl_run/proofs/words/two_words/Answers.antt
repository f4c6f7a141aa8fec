use Rattle.std.proofs.Common.{◌∙◌, ◌∷◌, ap, arith}
use Rattle.ndpctl_run.proofs.Partings.{count_first, count_one, first_word, one_word, some_word}
use Rattle.ndpctl_run.proofs.words.two_words.Goals as goal

pub returns-in_err-first-clause-only : goal.returns-in_err-first-clause-only
returns-in_err-first-clause-only c = λ two. absurd (omega (arith, two, count_one c.args.text.now c.in_err-first.ensures))

pub returns-in-Some-clause-only : goal.returns-in-Some-clause-only
returns-in-Some-clause-only c = λ two.
    let one = count_first c.args.text.now c.in_ok-first.first.now c.in_ok-first.second.now c.in_ok-first.ensures in
    let other = count_first c.in_ok-first.second.now _ _ c.in-Some.ensures in
    let more = some_word c.in-Some.field-0.1.now in
    absurd (omega (arith, two, one, other, more))

pub returns-in-None-clause-found : goal.returns-in-None-clause-found
returns-in-None-clause-found c =
    first_word c.args.text.now c.in_ok-first.first.now c.in_ok-first.second.now c.in_ok-first.ensures
    ∙ ap (λ words. c.in_ok-first.first.now ∷ words) (one_word c.in_ok-first.second.now c.in-None.ensures)
