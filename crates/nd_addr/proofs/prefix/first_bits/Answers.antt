use Rattle.std.proofs.Common.{rules, ◌*◌, ◌-◌, ◌/◌, ◌^◌, ℕ, ◌∙◌, sym, ap}
use Rattle.nd_addr.proofs.Numbers.{masked_by_number}
use Rattle.nd_addr.proofs.Numbered.{sixteen}
use Rattle.nd_addr.proofs.prefix.first_bits.Goals as goal

pub returns-then-first-number-clause-masked : goal.returns-then-first-number-clause-masked
returns-then-first-number-clause-masked c =
    masked_by_number c.args.length c.args.bytes.now c.args.bytes.now c.requires (search rules) (search rules) (search rules) (search rules)
    (sym c.to_bits-number.ensures ∙ (sym c.if-first-number.true ∙ (c.first_bits_of_number-first.ensures ∙ ap (λ (n : ℕ). n / 2 ^ (128 - c.args.length) * 2 ^ (128 - c.args.length)) c.to_bits-number.ensures)))

pub returns-clause-masked : goal.returns-clause-masked
returns-clause-masked c =
    masked_by_number c.args.length c.args.bytes.now c.from_bits.result.0 c.requires (search rules) (search rules) (search rules) (rw c.from_bits.ensures.value (sixteen c.first_bits_of_number-first.result).each)
    (c.from_bits.ensures.number ∙ c.first_bits_of_number-first.ensures ∙ ap (λ (n : ℕ). n / 2 ^ (128 - c.args.length) * 2 ^ (128 - c.args.length)) c.to_bits-number.ensures)
