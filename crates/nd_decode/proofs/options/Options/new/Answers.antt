use Rattle.std.proofs.Common.{◌∙◌, ap}
use Rattle.nd_decode.specs.Pieces.{options_in}
use Rattle.nd_decode.specs.Reading.{options_read}
use Rattle.nd_decode.specs.declared.reading.Reading.{Reading}
use Rattle.nd_decode.proofs.ReadOptions.{read_as_said}
use Rattle.nd_decode.proofs.options.Options.new.Goals as goal

pub returns : goal.returns
returns c = ap (λ (r : Reading). options_read r (options_in c.args.bytes.now)) c.as_said.ensures ∙ read_as_said (options_in c.args.bytes.now)
