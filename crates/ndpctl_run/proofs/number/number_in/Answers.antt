use Rattle.std.proofs.Common.{◌<◌, ◌^◌, sym, subst, ◌∙◌}
use Rattle.std.specs.Str.{IsUtf8}
use Rattle.std.proofs.lemmas.Fmt.{parse-decimal, IsAscii-decimal}
use Rattle.std.proofs.lemmas.Str.{IsUtf8-from_ascii}
use Rattle.ndpctl_run.proofs.number.number_in.Goals as goal

pub returns-in-Ok-parse : goal.returns-in-Ok-parse
returns-in-Ok-parse c = λ n small e.
    let wide : n < 2 ^ 64 = small in
    let r = parse-decimal 64 n c.in-Ok.digits.now c.parse.result wide wide (c.in-Ok.ensures.cases.0 ∙ e) c.parse.ensures.value.0 in
    let i = c.in-Ok-parse.is in cc

pub returns-in-Err-parse : goal.returns-in-Err-parse
returns-in-Err-parse c = λ n small e.
    let wide : n < 2 ^ 64 = small in
    let r = parse-decimal 64 n c.in-Ok.digits.now c.parse.result wide wide (c.in-Ok.ensures.cases.0 ∙ e) c.parse.ensures.value.0 in
    let i = c.in-Err-parse.is in cc

pub returns-in-Err : goal.returns-in-Err
returns-in-Err c = λ n small e.
    let wide : n < 2 ^ 64 = small in
    absurd (c.in-Err.ensures.cases.0 (subst IsUtf8 (sym e) (IsUtf8-from_ascii _ (IsAscii-decimal n wide))))
