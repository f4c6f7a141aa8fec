use Rattle.std.proofs.Common.{◌∷◌, [], refl, sym, arith}
use Rattle.ndpctl_run.specs.Words.{words_of}
use Rattle.ndpctl_run.proofs.Partings.{count_first, one_word, some_word}
use Rattle.ndpctl_link.proofs.StartWords.{end_at, end_by, few_words}
use Rattle.ndpctl_link.proofs.start.read_end.Goals as goal

pub returns-in_err-source-in-None-clause-only : goal.returns-in_err-source-in-None-clause-only
returns-in_err-source-in-None-clause-only c = λ transmits source p.
    let text = c.args.text.now in
    let q = end_at text (text ∷ []) transmits source (one_word text c.in-None.ensures) p in
    let none = c.in_err-source-in-None.ensures.only source q.0 in
    cc

pub returns-in_err-word-in-Some-clause-only : goal.returns-in_err-word-in-Some-clause-only
returns-in_err-word-in-Some-clause-only c = λ transmits source p.
    let text = c.args.text.now in
    let most = few_words (words_of text) transmits source p in
    let count = count_first text _ _ c.in-Some.ensures in
    let more = some_word c.in-Some.field-0.1.now in
    let none = c.in_err-word-in-Some.ensures.only (omega (arith, most, count, more)) in
    cc

pub returns-in_ok-source-in-None-clause-found : goal.returns-in_ok-source-in-None-clause-found
returns-in_ok-source-in-None-clause-found c =
    let text = c.args.text.now in
    end_by text (text ∷ []) 1 c.in_ok-source-in-None.source (one_word text c.in-None.ensures) (c.in_ok-source-in-None.ensures.found, refl)

pub returns-in_ok-source-in-None-clause-only : goal.returns-in_ok-source-in-None-clause-only
returns-in_ok-source-in-None-clause-only c = λ transmits source p.
    let text = c.args.text.now in
    let q = end_at text (text ∷ []) transmits source (one_word text c.in-None.ensures) p in
    let same = c.in_ok-source-in-None.ensures.only source q.0 in
    (sym q.1, (cc))
