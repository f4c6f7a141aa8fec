use Rattle.std.proofs.Common.{◌≡◌, List, ℕ, Some, None, sym, ◌∙◌, ap, arith}
use Rattle.std.proofs.lemmas.Str.Pattern.{split_parts}
use Rattle.ndpctl_run.specs.Policies.{with_all, words_in}
use Rattle.ndpctl_run.proofs.PolicyWords.{first_word, named_none, one_word}
use Rattle.ndpctl_run.proofs.policies.+with_words.Goals as goal

pub returns-in_err-with_named-in-Some : goal.returns-in_err-with_named-in-Some
returns-in_err-with_named-in-Some t c =
    let parts = split_parts 44 c.args.text.now (Some (c.in-Some.word, c.in-Some.rest)) c.in-Some.ensures.cases (omega arith) in
    let words = ap words_in parts.0 ∙ first_word c.in-Some.word.now c.in-Some.rest.now parts.1 in
    let none : _ ≡ None = sym c.with_named.ensures ∙ c.in_err-with_named-in-Some.was in
    c.from_residual.ensures ∙ sym (ap (λ (w : List (List ℕ)). with_all w (Some c.args.policies)) words ∙ ap (with_all (words_in c.in-Some.rest.now)) none ∙ named_none (words_in c.in-Some.rest.now))

pub returns-in_ok-with_named-in-Some : goal.returns-in_ok-with_named-in-Some
returns-in_ok-with_named-in-Some t c =
    let parts = split_parts 44 c.args.text.now (Some (c.in-Some.word, c.in-Some.rest)) c.in-Some.ensures.cases (omega arith) in
    let words = ap words_in parts.0 ∙ first_word c.in-Some.word.now c.in-Some.rest.now parts.1 in
    let some : _ ≡ Some c.in_ok-with_named-in-Some.field-0 = sym c.with_named.ensures ∙ c.in_ok-with_named-in-Some.was in
    c.with_words.ensures ∙ sym (ap (λ (w : List (List ℕ)). with_all w (Some c.args.policies)) words ∙ ap (with_all (words_in c.in-Some.rest.now)) some)

pub returns-in-None : goal.returns-in-None
returns-in-None t c =
    let lacks = split_parts 44 c.args.text.now None c.in-None.ensures.cases (omega arith) in
    c.with_named-in-None.ensures ∙ sym (ap (λ (w : List (List ℕ)). with_all w (Some c.args.policies)) (one_word c.args.text.now lacks))
