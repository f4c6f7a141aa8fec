use Rattle.nd_decode.proofs.Sizes.{left_within}
use Rattle.nd_decode.proofs.options.Options.byte_len.Goals as goal

pub returns-clause-enough : goal.returns-clause-enough
returns-clause-enough c = left_within c.args.self.now
