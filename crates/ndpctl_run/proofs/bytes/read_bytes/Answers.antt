use Rattle.std.proofs.Common.{rules, ◌≡◌, ◌∙◌, IsTrue, true, [], refl}
use Rattle.std.specs.Prelude.{codes}
use Rattle.hex.proofs.HexLemmas.{decode_of-digits}
use Rattle.ndpctl_run.proofs.BytesWords.{decoded_word, word_decodes}
use Rattle.ndpctl_run.proofs.bytes.read_bytes.Goals as goal

pub returns-then-eq-clause-malformed : goal.returns-then-eq-clause-malformed
returns-then-eq-clause-malformed g c = λ none. let same : c.args.word.now ≡ codes "-" = search rules in absurd (none [] same)

pub returns-in_err-clone-clause-malformed : goal.returns-in_err-clone-clause-malformed
returns-in_err-clone-clause-malformed g c = λ none. let same : c.args.word.now ≡ codes "-" = search rules in absurd (none [] same)

pub returns-in_err-clone-2-clause-malformed : goal.returns-in_err-clone-2-clause-malformed
returns-in_err-clone-2-clause-malformed g c = λ none.
    let yes : IsTrue c.is_hexadecimal.result = search rules in
    let digits = c.is_hexadecimal.ensures.0 yes in
    let decoded = decode_of-digits c.args.word.now digits.1 digits.2 in
    absurd (none decoded.0 (decoded_word c.args.word.now decoded.0 digits decoded.1))

pub returns-then-not-is_hexadecimal-clause-only : goal.returns-then-not-is_hexadecimal-clause-only
returns-then-not-is_hexadecimal-clause-only g c = λ bytes w.
    let other : c.args.word.now ≡ codes "-" → ⊥ = λ e. (let test : c.eq.result ≡ true = c.eq.ensures ∙ rw (e, c.as_slice.ensures) refl in let no : ⊥ = cc in no) in
    let words = word_decodes c.args.word.now bytes w other in
    let yes : IsTrue c.is_hexadecimal.result = c.is_hexadecimal.ensures.1 words.0 in
    cc

pub returns-in-Ok-clause-found : goal.returns-in-Ok-clause-found
returns-in-Ok-clause-found g c =
    let yes : IsTrue c.is_hexadecimal.result = search rules in
    decoded_word c.args.word.now c.in-Ok.bytes.items (c.is_hexadecimal.ensures.0 yes) c.in-Ok.ensures.ok

pub returns-in-Ok-clause-malformed : goal.returns-in-Ok-clause-malformed
returns-in-Ok-clause-malformed g c = λ none.
    let yes : IsTrue c.is_hexadecimal.result = search rules in
    absurd (none c.in-Ok.bytes.items (decoded_word c.args.word.now c.in-Ok.bytes.items (c.is_hexadecimal.ensures.0 yes) c.in-Ok.ensures.ok))

pub returns-in-Err-clause-malformed : goal.returns-in-Err-clause-malformed
returns-in-Err-clause-malformed g c = λ none.
    let yes : IsTrue c.is_hexadecimal.result = search rules in
    let digits = c.is_hexadecimal.ensures.0 yes in
    let decoded = decode_of-digits c.args.word.now digits.1 digits.2 in
    absurd (none decoded.0 (decoded_word c.args.word.now decoded.0 digits decoded.1))
