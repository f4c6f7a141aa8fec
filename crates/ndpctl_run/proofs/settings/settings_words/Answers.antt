use Rattle.std.proofs.Common.{arith}
use Rattle.ndpctl_run.proofs.Partings.{count_first, count_one, first_word}
use Rattle.ndpctl_run.proofs.settings.settings_words.Goals as goal

pub returns-in_err-min-clause-only : goal.returns-in_err-min-clause-only
returns-in_err-min-clause-only c = λ eight. absurd (omega (arith, eight, count_one c.args.text.now c.in_err-min.ensures))

pub returns-in_err-max-clause-only : goal.returns-in_err-max-clause-only
returns-in_err-max-clause-only c = λ eight.
    let one = count_first c.args.text.now c.in_ok-min.min.now c.in_ok-min.rest.now c.in_ok-min.ensures in
    absurd (omega (arith, eight, one, count_one c.in_ok-min.rest.now c.in_err-max.ensures))

pub returns-in_err-lifetime-clause-only : goal.returns-in_err-lifetime-clause-only
returns-in_err-lifetime-clause-only c = λ eight.
    let one = count_first c.args.text.now c.in_ok-min.min.now c.in_ok-min.rest.now c.in_ok-min.ensures in
    let two = count_first c.in_ok-min.rest.now c.in_ok-max.max.now c.in_ok-max.rest.now c.in_ok-max.ensures in
    absurd (omega (arith, eight, one, two, count_one c.in_ok-max.rest.now c.in_err-lifetime.ensures))

pub returns-in_err-hop_limit-clause-only : goal.returns-in_err-hop_limit-clause-only
returns-in_err-hop_limit-clause-only c = λ eight.
    let one = count_first c.args.text.now c.in_ok-min.min.now c.in_ok-min.rest.now c.in_ok-min.ensures in
    let two = count_first c.in_ok-min.rest.now c.in_ok-max.max.now c.in_ok-max.rest.now c.in_ok-max.ensures in
    let three = count_first c.in_ok-max.rest.now c.in_ok-lifetime.lifetime.now c.in_ok-lifetime.rest.now c.in_ok-lifetime.ensures in
    absurd (omega (arith, eight, one, two, three, count_one c.in_ok-lifetime.rest.now c.in_err-hop_limit.ensures))

pub returns-in_err-flags-clause-only : goal.returns-in_err-flags-clause-only
returns-in_err-flags-clause-only c = λ eight.
    let one = count_first c.args.text.now c.in_ok-min.min.now c.in_ok-min.rest.now c.in_ok-min.ensures in
    let two = count_first c.in_ok-min.rest.now c.in_ok-max.max.now c.in_ok-max.rest.now c.in_ok-max.ensures in
    let three = count_first c.in_ok-max.rest.now c.in_ok-lifetime.lifetime.now c.in_ok-lifetime.rest.now c.in_ok-lifetime.ensures in
    let four = count_first c.in_ok-lifetime.rest.now c.in_ok-hop_limit.hop_limit.now c.in_ok-hop_limit.rest.now c.in_ok-hop_limit.ensures in
    let none = c.in_err-flags.ensures.only (omega (arith, eight, one, two, three, four)) in cc

pub returns-clause-found : goal.returns-clause-found
returns-clause-found c =
    let one = first_word c.args.text.now c.in_ok-min.min.now c.in_ok-min.rest.now c.in_ok-min.ensures in
    let two = first_word c.in_ok-min.rest.now c.in_ok-max.max.now c.in_ok-max.rest.now c.in_ok-max.ensures in
    let three = first_word c.in_ok-max.rest.now c.in_ok-lifetime.lifetime.now c.in_ok-lifetime.rest.now c.in_ok-lifetime.ensures in
    let four = first_word c.in_ok-lifetime.rest.now c.in_ok-hop_limit.hop_limit.now c.in_ok-hop_limit.rest.now c.in_ok-hop_limit.ensures in
    let last = c.in_ok-flags.ensures.found in
    cc
