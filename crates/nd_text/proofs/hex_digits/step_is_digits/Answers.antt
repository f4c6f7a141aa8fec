use Rattle.std.proofs.Common.{◌≡◌, take, arith}
use Rattle.std.proofs.lemmas.List.{take_all}
use Rattle.nd_text.proofs.Passed.{values_pass}
use Rattle.nd_text.proofs.hex_digits.step_is_digits.Goals as goal

pub returns : goal.returns
returns c =
    let whole : take 32 c.args.step.now ≡ c.args.step.now = take_all 32 c.args.step.now (omega arith) in
    let pass = values_pass c.args.step.now in
    let told = rw (c.values_of.ensures, whole) at c.are_values.ensures in
    (λ t. pass.0 (told.0 t), λ h. told.1 (pass.1 h))
