use Rattle.nd_text.proofs.Spelled.{step_spells}
use Rattle.nd_text.proofs.hex_steps.decode_step.Goals as goal

pub returns-clause-decoded : goal.returns-clause-decoded
returns-clause-decoded c = λ _ s.
    step_spells c.args.digits.now c.args.bytes.now c.values_of-values.result c.paired.result c.args.at c.requires.pairs c.requires.room c.paired.ensures.len c.values_of-values.ensures (c.are_values.ensures.0 c.if-not-are_values.false) c.paired.ensures.lanes s
